-- Demand 3, which document 01 ("Lists of calls in demand 3") wants as "a single claim about the whole list, and not one for each call".
use Rattle.std.specs.Prelude.{◌≡◌, List, ℕ}
use Rattle.bits.specs.Lists.{Each}
use Rattle.suites.specs.declared.suite.Suite.{Suite}
use Rattle.theorems.specs.Lists.{Call, just_made, EqualSets, Run, run, Bytes}
use Rattle.theorems.specs.Arrivals.{ArrivalsFollowTheLedger}
use Rattle.theorems.specs.Places.{NeighboursChangePlaces}
use Rattle.theorems.specs.Memories.{Memories, decoded, run_in, Sized, Words32}

-- The two halves, in this list of calls; `runs` gives the events of any list from the same start, and what is left: sessions, or the words of memories.
pub record BothHalves {S : Type 0} (policy : ℕ) (runs : List Call → Run S) (calls : List Call) : Type 0 where
  -- each packet of a stream that arrives is given back right, or refused as old or repeated, as the ledger says
  pub ledger : Each Bytes calls → ArrivalsFollowTheLedger policy (runs calls).events
  -- two neighbouring packet calls for different streams can change places; this needs no premise
  pub places : NeighboursChangePlaces runs calls

-- For two sessions just made with equal suite, master key, master salt, policy and set of ids, each from its own list of ids, and every list of calls on them.
unfoldable pub DemandThree : Type 0
DemandThree =
    (suite : Suite) (key salt : List ℕ) (policy : ℕ) (ids others : List ℕ) → EqualSets ids others → (calls : List Call)
    → BothHalves policy (run (just_made suite key salt policy ids others)) calls

-- The same for the calls on lent memory, which are the calls: each memory holds the session that make gives from its own arguments, as the contract of
-- `making::make::make` says.
unfoldable pub DemandThreeInMemory : Type 0
DemandThreeInMemory =
    (suite : Suite) (key salt : List ℕ) (policy : ℕ) (ids others : List ℕ) → EqualSets ids others → (m : Memories) → Sized m
    → decoded m ≡ just_made suite key salt policy ids others
    → (calls : List Call) → Each Words32 calls → BothHalves policy (run_in m) calls
