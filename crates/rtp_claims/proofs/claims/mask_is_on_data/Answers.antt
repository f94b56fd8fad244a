-- `rtp_claims::claims::mask_is_on_data`: the claim holds.
use Rattle.rtp_claims.proofs.Covering.{mask-on-data}
use Rattle.rtp_claims.proofs.claims.mask_is_on_data.Goals as goal

pub returns : goal.returns
returns c = mask-on-data
