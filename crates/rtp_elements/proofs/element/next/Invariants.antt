-- `rtp_elements::element::next` meets its contract: padding is stepped over.
use mathlib.Core.Path.{◌≡◌}
use Rattle.rtp_elements.specs.Next.{next_of}
use Rattle.rtp_elements.proofs.element.next.Given as goal

abbrev pub invariant-loop-i : goal.invariant-loop-i
invariant-loop-i l = next_of l.tag l.block l.i ≡ next_of l.tag l.block l.from
