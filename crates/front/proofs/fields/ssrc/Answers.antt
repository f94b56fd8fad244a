-- `front::fields::ssrc` meets its contract.
use Rattle.rtp_header.specs.Header.{ssrc_of}
use Rattle.front.proofs.fields.ssrc.Goals as goal

pub returns : goal.returns
returns c = unfold ssrc_of in c.read32.ensures
