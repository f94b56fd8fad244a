-- `block_xor::part::xor_block` meets its contract: four columns, one after the other.
use mathlib.Core.Path.{◌∙◌}
use native.Mathlib.Omega.{arith}
use Rattle.block_xor.proofs.Columns.{columns, none_yet, all-four}
use Rattle.block_xor.proofs.part.xor_block.Goals as goal

pub returns : goal.returns
returns c =
    let l = c.args.part.now in
    let b = c.args.block in
    columns b l 12 _ _ (omega (arith, c.requires))
    (columns b l 8 _ _ (omega (arith, c.requires))
    (columns b l 4 _ _ (omega (arith, c.requires))
    (columns b l 0 _ _ (omega (arith, c.requires)) (none_yet b l) c.xor_word.ensures)
    c.xor_word-2.ensures)
    c.xor_word-3.ensures)
    c.xor_word-4.ensures
    ∙ all-four b l c.requires
