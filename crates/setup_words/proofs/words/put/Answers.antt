-- `setup_words::words::put` meets its contract.
use mathlib.Core.Path.{◌∙◌, ap}
use mathlib.Core.List.{List}
use Prim.Native.Nat.{ℕ, ◌+◌}
use native.Mathlib.Omega.{arith}
use lib.ListN.{length}
use Rattle.memory.specs.Parts.{with_part}
use Rattle.memory.proofs.Parts.{came-back}
use Rattle.setup_words.proofs.words.put.Goals as goal

pub returns : goal.returns
returns c =
    let a = c.args in
    let m = c.copy_from_slice.ensures.after in
    came-back a.at (a.at + length a.field.now) a.words.now c.copy_from_slice.new.self (omega (arith, ap length m))
    ∙ ap (λ (l : List ℕ). with_part a.at l a.words.now) m
