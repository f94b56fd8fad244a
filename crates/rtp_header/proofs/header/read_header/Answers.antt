-- `rtp_header::header::read_header` meets its contract.
use mathlib.Core.Path.{refl, sym, ◌∙◌}
use native.Mathlib.Omega.{arith}
use borrow.Author.Tests.{eq-eqb, ne_eqb}
use Rattle.rtp_header.proofs.Reading.{is-short, other-version, right-version, contributors-past, plain}
use Rattle.rtp_header.proofs.header.read_header.Goals as goal
use Rattle.rtp_header.proofs.header.read_header.Goals.{then-n-t-via-then-n-t, then-n-t-via-else-n-t+then-n-t-lt12}

pub returns-then-n-t : goal.returns-then-n-t
returns-then-n-t c = record {
  value =
      is-short _ _
      (elim c.then-n-t.branch [ then-n-t-via-then-n-t w ↦ omega (arith, w.if-n-t.true) | then-n-t-via-else-n-t+then-n-t-lt12 w ↦ omega (arith, w.if-n-t.false, w.if-n-t-lt12.true) ]);
  ordered = tt;
}

pub returns-then-not-is_version_2-clause-value : goal.returns-then-not-is_version_2-clause-value
returns-then-not-is_version_2-clause-value c =
    other-version _ _ (omega (arith, c.if-n-t.false, c.if-n-t-lt12.false)) (sym c.is_version_2.ensures ∙ c.if-not-is_version_2.true)

pub read_extension-requires : goal.read_extension-requires
read_extension-requires c = record {
  packet_value = eq-eqb _ _ c.if-first-eq1.true;
  plain_value = (refl, omega arith);
}

pub returns-then-first-eq1 : goal.returns-then-first-eq1
returns-then-first-eq1 c = record {
  value = c.read_extension.ensures.value
      ∙ right-version _ _ (omega (arith, c.if-n-t.false, c.if-n-t-lt12.false)) (sym c.is_version_2.ensures ∙ c.if-not-is_version_2.false);
  ordered = c.read_extension.ensures.ordered;
}

pub returns-then-end-at-clause-value : goal.returns-then-end-at-clause-value
returns-then-end-at-clause-value c =
    contributors-past c.args.packet.now _ _ refl (ne_eqb _ _ c.if-first-eq1.false) c.if-end-at.true
    ∙ right-version _ _ (omega (arith, c.if-n-t.false, c.if-n-t-lt12.false)) (sym c.is_version_2.ensures ∙ c.if-not-is_version_2.false)

pub returns : goal.returns
returns c = record {
  value =
      plain c.args.packet.now _ _ refl (ne_eqb _ _ c.if-first-eq1.false) c.if-end-at.false
      ∙ right-version _ _ (omega (arith, c.if-n-t.false, c.if-n-t-lt12.false)) (sym c.is_version_2.ensures ∙ c.if-not-is_version_2.false);
  ordered = (omega arith, (omega arith, (omega arith, c.if-end-at.false)));
}
