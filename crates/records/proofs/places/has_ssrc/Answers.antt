-- `records::places::has_ssrc` meets its contract.
use mathlib.Core.Path.{ap₂, ◌∙◌}
use mathlib.Core.Bool.{not, ◌&&◌}
use Prim.Native.Nat.{ℕ}
use lib.Dec.{eqb}
use borrow.Author.Rules.{rules}
use Rattle.session.specs.Session.{Kind}
use Rattle.session.specs.Records.{is_free}
use Rattle.session.proofs.Memory.{made, kind-at, ssrc-at}
use Rattle.records.proofs.Scanning.{any-scanned}
use Rattle.records.proofs.places.has_ssrc.Goals as goal

pub returns : goal.returns
returns c =
    let w = c.args.session.now in
    let x = c.args.ssrc in
    rw (made w c.requires)
    (c.is_some.ensures
    ∙ any-scanned w _ _ c.first_place.result x c.first_place.ensures
    (λ k h q. ap₂ (λ (a : Kind) (b : ℕ). not (is_free a) && eqb b x) (kind-at w k h) (ssrc-at w k h) ∙ search rules)
    (λ k h q. ap₂ (λ (a : Kind) (b : ℕ). not (is_free a) && eqb b x) (kind-at w k h) (ssrc-at w k h) ∙ search rules))
