-- `cryptex::tag::write_tag` meets its contract.
use mathlib.Core.Path.{refl}
use Rattle.policies.specs.Cryptex.{written16}
use Rattle.cryptex.proofs.tag.write_tag.Goals as goal

pub returns : goal.returns
unfolding written16
returns c = refl
