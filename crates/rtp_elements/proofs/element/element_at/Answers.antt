-- `rtp_elements::element::element_at` meets its contract.
use mathlib.Core.Path.{sym, ◌∙◌}
use native.Mathlib.Omega.{arith}
use Rattle.rtp_elements.proofs.Stepping.{next_one, next-cut, next-two}
use Rattle.rtp_elements.proofs.element.element_at.Goals as goal

pub returns-then-i-size : goal.returns-then-i-size
returns-then-i-size c =
    next-cut _ _ c.requires.0 _ c.requires.1.0 c.requires.1.1 (sym c.two_byte.ensures ∙ c.if-two_byte.true) c.if-i-size.true

pub returns-then-two_byte : goal.returns-then-two_byte
returns-then-two_byte c =
    c.two_byte_element.ensures
    ∙ next-two _ _ c.requires.0 _ c.requires.1.0 c.requires.1.1 (sym c.two_byte.ensures ∙ c.if-two_byte.true) (omega (arith, c.requires.1.0, c.if-i-size.false))

pub returns : goal.returns
returns c =
    c.one_byte_element.ensures ∙ next_one _ _ c.requires.0 _ c.requires.1.0 c.requires.1.1 (sym c.two_byte.ensures ∙ c.if-two_byte.false)
