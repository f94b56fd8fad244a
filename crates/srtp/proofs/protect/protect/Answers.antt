-- `srtp::protect::protect` meets its contract.
use mathlib.Core.Path.{◌≡◌}
use borrow.Author.Rules.{rules}
use Rattle.policies.specs.declared.policy.Way.TheVariants.{Sending}
use Rattle.srtp.proofs.Fronts.{border-gives, unopened-gives, opened-gives}
use Rattle.srtp.proofs.protect.protect.Goals as goal

pub returns-in-Err : goal.returns-in-Err
returns-in-Err c =
    let a = c.args in rw c.at_border.ensures (border-gives a.session.now a.buf.now a.n Sending _ c.open.ensures.value _ c.in-Err.is)

pub returns-in_default : goal.returns-in_default
returns-in_default c =
    let a = c.args in
    rw c.unopened.ensures (unopened-gives a.session.now a.buf.now a.n Sending _ c.open.ensures.value _ c.in-Ok.is _ c.in_default.is)

pub returns : goal.returns
returns c =
    let a = c.args in
    let e : a.session.now ≡ c.unwrap-session.result.now = search rules in
    rw c.from.ensures (opened-gives a.session.now a.buf.now a.n Sending _ c.open.ensures.value _ c.in-Ok.is _ c.in-Ok-header.is _ _ _ (rw e c.protect_stream.ensures))
