-- `ledger::claims::follows_the_ledger`: from the fresh state and the empty ledger on.
use mathlib.Core.Path.{refl}
use mathlib.Core.List.{[]}
use native.Mathlib.Omega.{arith}
use lib.Dec.{lit<, lit≤}
use Rattle.replay.specs.Guess.{guess_of}
use Rattle.replay.specs.State.{fresh_of}
use Rattle.ledger.proofs.Ledger.{fresh-remembers, memory, receiver, remembered, near-right}
use Rattle.ledger.proofs.claims.follows_the_ledger.Goals as goal

pub returns : goal.returns
unfolding guess_of
returns c =
    record {
      memory = λ b W room is. memory b W room (fresh_of b) [] is (fresh-remembers b W (omega arith));
      receiver = λ b W rollover room is g. receiver b W rollover room (fresh_of b) [] is (fresh-remembers b W (omega arith)) g;
      highest = λ b W rollover room is g. (remembered b W rollover room (fresh_of b) [] is (fresh-remembers b W (omega arith)) g).highest;
      near = near-right;
      enough = lit≤ tt;
      met = (lit< tt, (refl, (lit< tt, (refl, (lit< tt, (refl, (lit< tt, (refl, (lit< tt, (refl, (lit< tt, (refl, (lit< tt, (refl, tt))))))))))))));
      example = refl;
    }
