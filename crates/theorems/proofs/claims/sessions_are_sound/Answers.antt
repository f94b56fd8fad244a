use Rattle.theorems.proofs.Keeping.{sessions-are-sound}
use Rattle.theorems.proofs.claims.sessions_are_sound.Goals as goal

pub returns : goal.returns
returns c = sessions-are-sound
