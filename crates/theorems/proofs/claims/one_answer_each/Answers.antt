use Rattle.theorems.proofs.Answering.{one-answer-each}
use Rattle.theorems.proofs.claims.one_answer_each.Goals as goal

pub returns : goal.returns
returns c = one-answer-each
