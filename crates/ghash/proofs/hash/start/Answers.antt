-- `ghash::hash::start` meets its contract.
use Rattle.std.proofs.Common.{refl}
use Rattle.ghash.specs.Steps.{feed_of}
use Rattle.ghash.proofs.hash.start.Goals as goal

pub returns : goal.returns
unfolding feed_of
returns c = record { begun_value = refl; by_index = λ h. record { value = refl; begun = refl; bytes = tt } }
