-- `rtp_claims::claims::mask_is_published`: the definitions compute it.
use mathlib.Core.Path.{refl}
use Rattle.rtp_elements.specs.Elements.{whole_of}
use Rattle.rtp_elements.specs.Mask.{mask_of}
use Rattle.rtp_claims.proofs.claims.mask_is_published.Goals as goal

pub returns : goal.returns
unfolding whole_of mask_of
returns c = record { whole = refl; mask = refl }
