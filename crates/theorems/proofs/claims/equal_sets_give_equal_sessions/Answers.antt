use Rattle.theorems.proofs.Keeping.{equal-sets}
use Rattle.theorems.proofs.claims.equal_sets_give_equal_sessions.Goals as goal

pub returns : goal.returns
returns c = equal-sets
