-- An element that stands at a place begins behind it and ends within its block.
use Rattle.std.proofs.Common.{Ok, arith, sym, ap, ◌∙◌}
use Rattle.rtp_elements.proofs.Stepping.{next-at}
use Rattle.mask_lines.proofs.mask.cover_listed.Goals as goal

pub overflow_add-end : goal.overflow_add-end
overflow_add-end c = let s = next-at _ _ _ _ (sym c.next.ensures ∙ c.in_ok-element.was ∙ ap Ok c.in-Some.is) in omega (arith, s.inside)

pub slice_bounds-fill-end : goal.slice_bounds-fill-end
slice_bounds-fill-end c = let s = next-at _ _ _ _ (sym c.next.ensures ∙ c.in_ok-element.was ∙ ap Ok c.in-Some.is) in omega (arith, s.inside)

pub loop-element-smaller-then-is_listed : goal.loop-element-smaller-then-is_listed
loop-element-smaller-then-is_listed c = let s = next-at _ _ _ _ (sym c.next.ensures ∙ c.in_ok-element.was ∙ ap Ok c.in-Some.is) in omega (arith, s.inside, s.after)

pub loop-element-smaller : goal.loop-element-smaller
loop-element-smaller c = let s = next-at _ _ _ _ (sym c.next.ensures ∙ c.in_ok-element.was ∙ ap Ok c.in-Some.is) in omega (arith, s.inside, s.after)
