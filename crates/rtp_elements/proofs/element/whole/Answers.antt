-- `rtp_elements::element::whole` meets its contract.
use Rattle.rtp_elements.specs.Elements.{whole_of}
use Rattle.rtp_elements.proofs.element.whole.Goals as goal

pub returns : goal.returns
unfolding whole_of
returns c = c.whole_after.ensures
