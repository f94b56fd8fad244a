-- `block_xor::part::xor_part` meets its contract.
use mathlib.Core.Path.{◌∙◌}
use Rattle.block_xor.proofs.Columns.{from_zero}
use Rattle.block_xor.proofs.part.xor_part.Goals as goal

pub returns-then-part-eq16 : goal.returns-then-part-eq16
returns-then-part-eq16 c =
    c.xor_block.ensures ∙ from_zero c.args.block c.args.part.now
