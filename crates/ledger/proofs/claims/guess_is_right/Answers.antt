-- `ledger::claims::guess_is_right`: the laws of the guess; the ends of the range compute.
use mathlib.Core.Path.{refl}
use Rattle.replay.specs.Guess.{guess_of, distance_of}
use Rattle.ledger.proofs.Guesses.{reaches, range, near, at_zero}
use Rattle.ledger.proofs.claims.guess_is_right.Goals as goal

pub returns : goal.returns
unfolding guess_of distance_of
returns c = record { reaches = reaches; range = range; zero = at_zero; top = refl; bottom = refl; near = near }
