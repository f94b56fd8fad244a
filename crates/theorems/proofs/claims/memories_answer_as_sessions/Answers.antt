use Rattle.theorems.proofs.Memories.{answer-as-sessions}
use Rattle.theorems.proofs.claims.memories_answer_as_sessions.Goals as goal

pub returns : goal.returns
returns c = answer-as-sessions
