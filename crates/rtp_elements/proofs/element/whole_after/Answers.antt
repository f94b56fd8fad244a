-- `rtp_elements::element::whole_after` meets its contract.
use Rattle.std.specs.Prelude.{Ok}
use mathlib.Core.Path.{refl, sym, ap, ◌∙◌}
use mathlib.Core.Bool.{not}
use native.Mathlib.Omega.{arith}
use Rattle.rtp_elements.specs.Elements.{NextByte, within, whole_of}
use Rattle.rtp_elements.proofs.Stepping.{next-at, next-absent, next_past}
use Rattle.rtp_elements.proofs.element.whole_after.Goals as goal

pub loop-element-init : goal.loop-element-init
unfolding whole_of
loop-element-init c = refl

pub overflow_add-i : goal.overflow_add-i
overflow_add-i c = let s = next-at _ _ _ _ (sym c.next.ensures ∙ c.in-Ok-Some.is ∙ ap Ok c.in-Ok-Some.field-0-is) in omega (arith, s.inside)

pub loop-element-smaller : goal.loop-element-smaller
loop-element-smaller c = let s = next-at _ _ _ _ (sym c.next.ensures ∙ c.in-Ok-Some.is ∙ ap Ok c.in-Ok-Some.field-0-is) in omega (arith, s.inside, s.after)

pub loop-element-preserved : goal.loop-element-preserved
loop-element-preserved c =
    let s = next-at _ _ _ _ (sym c.next.ensures ∙ c.in-Ok-Some.is ∙ ap Ok c.in-Ok-Some.field-0-is) in
    ap (λ (p : NextByte). not (within p)) (sym s.end) ∙ c.loop-element.invariant

pub returns-in-Ok-None : goal.returns-in-Ok-None
returns-in-Ok-None c = sym (next-absent _ _ _ (sym c.next.ensures ∙ c.in-Ok-None.is ∙ ap Ok c.in-Ok-None.field-0-is)).whole ∙ c.loop-element.invariant

pub returns-in-Err : goal.returns-in-Err
returns-in-Err c = sym (next_past _ _ _ _ (sym c.next.ensures ∙ c.in-Err.is)) ∙ c.loop-element.invariant
