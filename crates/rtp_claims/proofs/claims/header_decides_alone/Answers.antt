-- `rtp_claims::claims::header_decides_alone`: the claim holds.
use Rattle.rtp_claims.proofs.Alike.{header-alone}
use Rattle.rtp_claims.proofs.claims.header_decides_alone.Goals as goal

pub returns : goal.returns
returns c = header-alone
