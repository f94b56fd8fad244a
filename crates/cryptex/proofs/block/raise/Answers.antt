-- `cryptex::block::raise` meets its contract.
use mathlib.Core.Path.{◌∙◌}
use Rattle.cryptex.proofs.Raising.{copied-raised}
use Rattle.cryptex.proofs.block.raise.Goals as goal

pub returns : goal.returns
returns c = c.copy_within.ensures.after ∙ copied-raised c.args.at c.args.n c.args.buf.now c.requires.0
