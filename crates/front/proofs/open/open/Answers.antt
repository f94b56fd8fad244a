-- `front::open::open` meets its contract.
use mathlib.Core.Path.{sym, ap, ◌∙◌}
use lib.ListN.{length}
use Rattle.front.proofs.Sizes.{other-size, right-size}
use Rattle.front.proofs.open.open.Goals as goal

pub returns-in_default-clause-value : goal.returns-in_default-clause-value
returns-in_default-clause-value c = let a = c.args in other-size a.way a.session.now a.buf.now a.n c.in_default.ensures.cases

pub returns-in-Ok-clause-value : goal.returns-in-Ok-clause-value
returns-in-Ok-clause-value c =
    let a = c.args in
    let e = c.in-Some.ensures.cases in
    rw (← e.same) (right-size a.way c.in-Some.session.now a.buf.now a.n (ap length e.same ∙ e.long) _ (sym c.in-Ok.is ∙ c.in_session.ensures.value))

pub returns-in-Err-clause-value : goal.returns-in-Err-clause-value
returns-in-Err-clause-value c =
    let a = c.args in
    let e = c.in-Some.ensures.cases in
    rw (← e.same) (right-size a.way c.in-Some.session.now a.buf.now a.n (ap length e.same ∙ e.long) _ (sym c.in-Err.is ∙ c.in_session.ensures.value))
