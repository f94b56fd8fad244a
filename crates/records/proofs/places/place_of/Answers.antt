-- `records::places::place_of` meets its contract.
use mathlib.Core.Path.{sym, ◌∙◌}
use borrow.Author.Rules.{rules}
use Rattle.session.specs.Records.{is_for}
use Rattle.session.proofs.Memory.{made, for-head, unmade-nowhere}
use Rattle.records.proofs.Scanning.{first-scanned}
use Rattle.records.proofs.places.place_of.Goals as goal

pub returns-then-not-is_made-clause-value : goal.returns-then-not-is_made-clause-value
returns-then-not-is_made-clause-value c = let a = c.args in sym (unmade-nowhere a.session.now (sym c.is_made.ensures ∙ c.if-not-is_made.true) a.ssrc a.way)

pub returns-clause-value : goal.returns-clause-value
returns-clause-value c =
    let w = c.args.session.now in
    let a = c.args in
    rw (made w (sym c.is_made.ensures ∙ c.if-not-is_made.false))
    (first-scanned w _ _ c.first_place.result (λ r. is_for r a.ssrc a.way) c.first_place.ensures
    (λ k h q. for-head w k h a.ssrc c.ranges.ssrc.fits a.way ∙ search (rules, c.head_word-head.ensures))
    (λ k h q. for-head w k h a.ssrc c.ranges.ssrc.fits a.way ∙ search (rules, c.head_word-head.ensures)))
