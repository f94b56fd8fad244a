-- `records::places::free_place` meets its contract.
use mathlib.Core.Path.{sym, ap, ◌∙◌}
use Rattle.session.specs.Records.{is_free}
use Rattle.session.proofs.Places.{free}
use Rattle.session.proofs.Memory.{made, kind-at}
use Rattle.records.proofs.Scanning.{first-scanned}
use Rattle.records.proofs.places.free_place.Goals as goal

pub returns-clause-value : goal.returns-clause-value
returns-clause-value c =
    let w = c.args.session.now in
    rw (made w c.requires)
    (first-scanned w _ _ c.first_place.result free c.first_place.ensures (λ k h q. ap is_free (kind-at w k h) ∙ sym q) (λ k h q. ap is_free (kind-at w k h) ∙ sym q))
