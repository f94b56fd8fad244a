-- `memory::words::bytes` meets its contract.
use mathlib.Core.Path.{◌∙◌, ap₂}
use mathlib.Core.List.{List, ◌++◌}
use Prim.Native.Nat.{ℕ}
use native.Mathlib.Omega.{arith}
use Rattle.memory.proofs.Bytes.{low-part}
use Rattle.memory.proofs.words.bytes.Goals as goal

pub returns : goal.returns
returns g c =
    let N = g.row.N in
    ap₂ (λ (u v : List ℕ). u ++ v) (c.copy_from_slice.ensures.after ∙ c.write64.ensures)
    (c.copy_from_slice-2.ensures.after ∙ low-part N c.args.b _ (omega arith) (omega arith) c.write64-2.ensures)
