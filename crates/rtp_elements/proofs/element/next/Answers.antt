-- `rtp_elements::element::next` meets its contract: padding is stepped over.
use mathlib.Core.Path.{sym, ◌∙◌}
use native.Mathlib.Omega.{arith}
use Rattle.rtp_elements.proofs.Stepping.{next-over, next-none, next-padding}
use Rattle.rtp_elements.proofs.element.next.Goals as goal

pub loop-i-preserved : goal.loop-i-preserved
loop-i-preserved c = sym (next-padding _ _ (sym c.has_elements.ensures ∙ c.if-has_elements.true) _ (omega arith) c.if-block-i-ne0.false) ∙ c.loop-i.invariant

pub returns-after-loop-i : goal.returns-after-loop-i
returns-after-loop-i c = next-over _ _ _ (omega arith) ∙ c.loop-i.invariant

pub returns-else-has_elements : goal.returns-else-has_elements
returns-else-has_elements c = next-none _ _ (sym c.has_elements.ensures ∙ c.if-has_elements.false) _
