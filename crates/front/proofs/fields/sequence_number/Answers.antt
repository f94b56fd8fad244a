-- `front::fields::sequence_number` meets its contract.
use Rattle.rtp_header.specs.Header.{seq_of}
use Rattle.front.proofs.fields.sequence_number.Goals as goal

pub returns : goal.returns
returns c = unfold seq_of in c.read16.ensures
