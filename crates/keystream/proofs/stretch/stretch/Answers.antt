-- `keystream::stretch::stretch` meets its contract.
use mathlib.Core.Path.{sym, ap, ◌∙◌}
use lib.ListN.{length}
use Rattle.aes_counter.specs.Keystream.{keystream_of}
use Rattle.stretches.specs.Stretch.{Stretched}
use Rattle.stretches.proofs.Parts.{large, small, refused, served-number}
use Rattle.keystream.proofs.stretch.stretch.Goals as goal

pub returns-then-is_large : goal.returns-then-is_large
returns-then-is_large c =
    let a = c.args in
    let e = refused (keystream_of a.key a.salt a.ssrc a.index) a.start a.buf.now (large a.start (length a.buf.now) (sym c.is_large.ensures ∙ c.if-is_large.true)) in
    (sym (ap (λ (s : Stretched). s.number) e), sym (ap (λ (s : Stretched). s.bytes) e))

pub returns : goal.returns
returns c =
    let a = c.args in (
      sym (served-number (keystream_of a.key a.salt a.ssrc a.index) a.start a.buf.now (small a.start (length a.buf.now) (sym c.is_large.ensures ∙ c.if-is_large.false))),
      c.stretch_within.ensures,
    )
