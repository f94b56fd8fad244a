-- Demand 3: the two halves are one claim, of sessions and of the memories that hold them.
use mathlib.Core.Path.{◌≡◌, ap, ◌∙◌, sym, subst}
use mathlib.Core.List.{List}
use Rattle.theorems.specs.Lists.{Sessions, just_made, Event, events_of, Run}
use Rattle.theorems.specs.Arrivals.{ArrivalsFollowTheLedger}
use Rattle.theorems.specs.Memories.{run_in, AnswersAsSessions}
use Rattle.theorems.specs.DemandThree.{DemandThree, DemandThreeInMemory}
use Rattle.theorems.proofs.Arriving.{follow}
use Rattle.theorems.proofs.Exchanging.{exchange}
use Rattle.theorems.proofs.Memories.{answer-as-sessions}
use Rattle.theorems.proofs.Words.{exchange-in}

pub demand-three : DemandThree
unfolding DemandThree
demand-three suite key salt policy ids others equal calls =
    record { ledger = follow suite key salt policy ids others equal calls; places = exchange (just_made suite key salt policy ids others) calls }

-- on memories the events are those of the sessions that they hold
pub demand-three-in-memory : DemandThreeInMemory
unfolding DemandThreeInMemory AnswersAsSessions
demand-three-in-memory suite key salt policy ids others equal m sized made calls small =
    let same : (run_in m calls).events ≡ events_of (just_made suite key salt policy ids others) calls
    = ap (λ (r : Run Sessions). r.events) (answer-as-sessions m sized calls small) ∙ ap (λ (t : Sessions). events_of t calls) made in
    record {
      ledger = λ bytes. subst (λ (l : List Event). ArrivalsFollowTheLedger policy l) (sym same) (follow suite key salt policy ids others equal calls bytes);
      places = exchange-in m sized calls small;
    }
