-- `memory::words::halves` meets its contract.
use mathlib.Core.Path.{◌∙◌, refl, ap, ap₂}
use mathlib.Core.List.{[], ◌∷◌}
use Prim.Native.Nat.{ℕ, ◌-◌}
use native.Mathlib.Omega.{arith}
use lib.ListN.{length}
use Rattle.bits.specs.BigEndian.{from_bytes}
use Rattle.memory.proofs.Bytes.{bytes-kept, after-zeros}
use Rattle.memory.proofs.words.halves.Goals as goal

pub returns-clause-value : goal.returns-clause-value
returns-clause-value c =
    let s = c.split_at.ensures in
    let m = c.copy_from_slice-2.ensures.after in
    ap₂ (λ (i k : ℕ). i ∷ k ∷ []) (c.read64.ensures ∙ ap from_bytes (c.copy_from_slice.ensures.after ∙ s.front))
    (c.read64-2.ensures ∙ after-zeros (8 - length c.split_at.result.1.now) c.copy_from_slice-2.new.self _ (omega (arith, ap length m)) (m ∙ s.back))

pub returns-clause-lasts : goal.returns-clause-lasts
returns-clause-lasts c =
    let b = c.args.bytes.now in
    bytes-kept (length b) (omega arith) b (record { long = refl; small = λ i. (c.type_inv.bytes i).fits })
