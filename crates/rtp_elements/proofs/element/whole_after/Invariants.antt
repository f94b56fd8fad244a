-- `rtp_elements::element::whole_after` meets its contract.
use mathlib.Core.Path.{◌≡◌}
use Prim.Native.Nat.{◌-◌}
use lib.ListN.{length, drop}
use Rattle.rtp_elements.specs.Elements.{two_byte, start_of, whole_from}
use Rattle.rtp_elements.proofs.element.whole_after.Given as goal

abbrev pub invariant-loop-element : goal.invariant-loop-element
invariant-loop-element l = whole_from (two_byte l.tag) (start_of l.tag) (drop l.i l.block) ≡ whole_from (two_byte l.tag) (start_of l.tag) (drop l.from l.block)

abbrev pub decreases-loop-element : goal.decreases-loop-element
decreases-loop-element l = length l.block - l.i
