use Rattle.theorems.proofs.Sending.{sent-under-its-index}
use Rattle.theorems.proofs.claims.packets_are_sent_under_their_index.Goals as goal

pub returns : goal.returns
returns c = sent-under-its-index
