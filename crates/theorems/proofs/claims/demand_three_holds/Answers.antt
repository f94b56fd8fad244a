use Rattle.theorems.proofs.DemandThree.{demand-three}
use Rattle.theorems.proofs.claims.demand_three_holds.Goals as goal

pub returns : goal.returns
returns c = demand-three
