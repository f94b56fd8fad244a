use Rattle.theorems.proofs.Keeping.{words-are-the-set}
use Rattle.theorems.proofs.claims.words_are_the_set.Goals as goal

pub returns : goal.returns
returns c = words-are-the-set
