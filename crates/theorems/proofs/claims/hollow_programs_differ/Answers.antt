use Rattle.theorems.proofs.Meeting.{hollow-programs-differ}
use Rattle.theorems.proofs.claims.hollow_programs_differ.Goals as goal

pub returns : goal.returns
returns c = hollow-programs-differ
