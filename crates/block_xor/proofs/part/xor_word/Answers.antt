-- `block_xor::part::xor_word` meets its contract.
use mathlib.Core.Path.{◌∙◌}
use Prim.Native.Nat.{ℕ}
use mir.Syntax.{w8}
use mir.Val.{Fits}
use borrow.Author.Rules.{rules}
use lib.ListN.{get_or}
use Rattle.block_xor.proofs.Columns.{summed}
use Rattle.block_xor.proofs.part.xor_word.Goals as goal

pub returns : goal.returns
returns c =
    let part = c.args.part.now in
    let block = c.args.block in
    let fp : (i : ℕ) → Fits w8 (get_or part i 0) = λ i. search rules in
    let fb : (i : ℕ) → Fits w8 (get_or block i 0) = λ i. search rules in
    c.copy_from_slice.ensures.after
    ∙ summed part block c.write32.result c.args.from c.read32.result c.read32-2.result
    c.requires.0 (λ i. (fp i).fits) (λ i. (fb i).fits) c.read32.ensures c.read32-2.ensures c.write32.ensures
