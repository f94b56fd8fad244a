-- `session::load::ids_of` meets its contract.
use mathlib.Core.Path.{◌∙◌}
use Rattle.session.proofs.Front.{ids-read}
use Rattle.session.proofs.load.ids_of.Goals as goal

pub returns : goal.returns
returns c = c.copy_from_slice.ensures.after ∙ ids-read c.args.session.now
