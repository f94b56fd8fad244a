-- `replay::guess::guess` meets its contract: the definition in each of the code's cases.
use native.Mathlib.Omega.{arith}
use Rattle.std.proofs.lemmas.Int.{ints}
use Rattle.replay.proofs.Guesses.{one_back, one_on, same_rollover}
use Rattle.replay.proofs.guess.guess.Goals as goal

pub returns-then-back : goal.returns-then-back
returns-then-back c = rw (one_back c.args.highest c.args.sequence (omega arith) (omega (arith, ints))) (omega (arith, ints))

pub returns-then-on : goal.returns-then-on
returns-then-on c = rw (one_on c.args.highest c.args.sequence (omega arith) (omega (arith, ints))) (omega (arith, ints))

pub returns-else-on : goal.returns-else-on
returns-else-on c =
    rw (same_rollover c.args.highest c.args.sequence (omega arith) (omega (arith, ints)) (omega (arith, ints))) (omega (arith, ints))
