-- `rtp::find::locate` meets its contract.
use Rattle.std.specs.Prelude.{Some, None, Ok, Err}
use Rattle.std.proofs.lemmas.Result.{err_from_is_err_and}
use mathlib.Core.Path.{refl, sym, ap, ◌∙◌}
use native.Mathlib.Omega.{arith}
use Rattle.rtp_elements.proofs.Stepping.{next-at, next-absent, next-over}
use Rattle.rtp.proofs.Locating.{here, other, sought-start, sought-next, sought-end, sought-past, sought-match}
use Rattle.rtp.proofs.find.locate.Goals as goal

pub loop-i-init : goal.loop-i-init
loop-i-init c = sought-start _ _ _

pub returns-in_err-element-clause-value : goal.returns-in_err-element-clause-value
returns-in_err-element-clause-value c =
    let w = sought-past _ _ _ _ _ _ c.loop-i.invariant (sym c.next.ensures ∙ c.in_err-element.was) in
    let r = err_from_is_err_and c.from_residual.result c.from_residual.ensures.1 in
    r.1 ∙ ap Err r.2 ∙ w

pub overflow_add-i : goal.overflow_add-i
overflow_add-i c = let s = next-at _ _ _ _ (sym c.next.ensures ∙ c.in_ok-element.was ∙ ap Ok c.in-Some.is) in omega (arith, s.inside)

pub loop-i-smaller : goal.loop-i-smaller
loop-i-smaller c = let s = next-at _ _ _ _ (sym c.next.ensures ∙ c.in_ok-element.was ∙ ap Ok c.in-Some.is) in omega (arith, s.inside, s.after)

pub returns-then-whole_after-clause-value : goal.returns-then-whole_after-clause-value
returns-then-whole_after-clause-value c =
    let s = next-at _ _ _ _ (sym c.next.ensures ∙ c.in_ok-element.was ∙ ap Ok c.in-Some.is) in
    let k = sought-next _ _ _ None (Some c.in-Some.element) _ _ (here refl c.if-matches.true refl) s c.loop-i.invariant in
    sought-match _ _ _ _ _ _ k (sym c.if-whole_after.true ∙ c.whole_after.ensures)

pub returns-then-whole_after-clause-inside : goal.returns-then-whole_after-clause-inside
returns-then-whole_after-clause-inside c = (next-at _ _ _ _ (sym c.next.ensures ∙ c.in_ok-element.was ∙ ap Ok c.in-Some.is)).inside

pub returns-else-whole_after-clause-value : goal.returns-else-whole_after-clause-value
returns-else-whole_after-clause-value c =
    let s = next-at _ _ _ _ (sym c.next.ensures ∙ c.in_ok-element.was ∙ ap Ok c.in-Some.is) in
    let k = sought-next _ _ _ None (Some c.in-Some.element) _ _ (here refl c.if-matches.true refl) s c.loop-i.invariant in
    sought-match _ _ _ _ _ _ k (sym c.if-whole_after.false ∙ c.whole_after.ensures)

pub loop-i-preserved : goal.loop-i-preserved
loop-i-preserved c =
    sought-next _ _ _ _ _ _ _ (other c.if-matches.false refl) (next-at _ _ _ _ (sym c.next.ensures ∙ c.in_ok-element.was ∙ ap Ok c.in-Some.is)) c.loop-i.invariant

pub returns-in_default-clause-value : goal.returns-in_default-clause-value
returns-in_default-clause-value c =
    sought-end _ _ _ _ _ c.loop-i.invariant (next-absent _ _ _ (sym c.next.ensures ∙ c.in_ok-element.was ∙ ap Ok c.in_default.is))

pub returns-after-loop-i-clause-value : goal.returns-after-loop-i-clause-value
returns-after-loop-i-clause-value c =
    let i = c.loop-i.i in
    sought-end _ _ _ _ _ c.loop-i.invariant (next-absent _ _ _ (sym (next-over c.args.tag c.args.block.now i c.loop-i-test.false)))
