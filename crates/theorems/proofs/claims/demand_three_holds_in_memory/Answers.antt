use Rattle.theorems.proofs.DemandThree.{demand-three-in-memory}
use Rattle.theorems.proofs.claims.demand_three_holds_in_memory.Goals as goal

pub returns : goal.returns
returns c = demand-three-in-memory
