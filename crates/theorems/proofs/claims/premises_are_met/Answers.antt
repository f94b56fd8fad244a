use Rattle.theorems.proofs.Meeting.{premises-are-met}
use Rattle.theorems.proofs.claims.premises_are_met.Goals as goal

pub returns : goal.returns
returns c = premises-are-met
