-- `policies::judge::judge` meets its contract.
use Rattle.std.specs.Prelude.{Err}
use Rattle.std.proofs.lemmas.Result.{err_from_is_err_and}
use mathlib.Core.Path.{sym, ap, ◌∙◌}
use native.Mathlib.Omega.{arith}
use Rattle.policies.proofs.Verdicts.{is-refused, no-profile, no-elements, too_large, all-fits}
use Rattle.policies.proofs.judge.judge.Goals as goal

pub returns-in_err-h : goal.returns-in_err-h
returns-in_err-h c =
    let r = err_from_is_err_and c.from_residual.result c.from_residual.ensures.1 in
    r.1 ∙ ap Err r.2 ∙ sym c.in_err-h.was ∙ is-refused _ _ _ _ _ _ c.tail.ensures c.read_header.ensures.value _ c.in_err-h.was

pub returns-then-not-profile_fits : goal.returns-then-not-profile_fits
returns-then-not-profile_fits c = no-profile _ _ _ _ _ _ c.tail.ensures c.read_header.ensures.value _ c.in_ok-h.was (sym c.profile_fits.ensures ∙ c.if-not-profile_fits.true)

pub elements_fit-requires : goal.elements_fit-requires
elements_fit-requires c = let o = rw c.in_ok-h.was at c.read_header.ensures.ordered in (o.1.1.0, omega (arith, o))

pub returns-then-not-elements_fit : goal.returns-then-not-elements_fit
returns-then-not-elements_fit c = no-elements _ _ _ _ _ _ c.tail.ensures c.read_header.ensures.value _ c.in_ok-h.was (sym c.profile_fits.ensures ∙ c.if-not-profile_fits.false) (sym c.elements_fit.ensures ∙ c.if-not-elements_fit.true)

pub returns-then-added-packet : goal.returns-then-added-packet
returns-then-added-packet c = too_large _ _ _ _ _ _ c.tail.ensures c.read_header.ensures.value _ c.in_ok-h.was (sym c.profile_fits.ensures ∙ c.if-not-profile_fits.false) (sym c.elements_fit.ensures ∙ c.if-not-elements_fit.false) (omega (arith, c.added.ensures, c.if-added-packet.true))

pub returns : goal.returns
returns c = all-fits _ _ _ _ _ _ c.tail.ensures c.read_header.ensures.value _ c.in_ok-h.was (sym c.profile_fits.ensures ∙ c.if-not-profile_fits.false) (sym c.elements_fit.ensures ∙ c.if-not-elements_fit.false) (omega (arith, c.added.ensures, c.if-added-packet.false))
