-- `cm_packet::cm::open_cm` meets its contract.
use mathlib.Core.Path.{◌≡◌, refl, sym, ◌∙◌}
use Prim.Native.Nat.{◌-◌}
use native.Mathlib.Omega.{arith}
use Rattle.rtp_elements.specs.Mask.{listed_in}
use Rattle.suites.specs.declared.suite.Suite.TheVariants.{CmHmac}
use Rattle.packet_cipher.proofs.Tagging.{tag-code}
use Rattle.wire.proofs.Arriving.{long, read, fits, small, elements, tag-fits, opened}
use Rattle.cm_packet.proofs.cm.open_cm.Goals as goal

pub overflow_sub-m : goal.overflow_sub-m
overflow_sub-m c = omega (arith, long c.args.context.now.policy 10 c.args.buf.now c.args.n c.args.h c.requires.0 c.requires.1)

pub code-c-requires : goal.code-c-requires
code-c-requires c =
    let z : c.args.n - 10 - 0 ≡ c.args.n - 10 = omega arith in
    rw z (small c.args.context.now.policy 10 c.args.buf.now c.args.n c.args.h c.requires.0 c.requires.1)

pub returns-then-not-same : goal.returns-then-not-same
returns-then-not-same c =
    let f = tag-fits c.args.context.now.policy 10 c.args.buf.now c.args.n c.args.h c.requires.0 c.requires.1 CmHmac refl c.args.context.now.keys c.args.context.now.ssrc c.args.context.now.index _ (tag-code c.args.context.now.keys c.args.context.now.policy c.args.context.now.ssrc c.args.context.now.index _ _ c.code-c.ensures) in
    record { value = sym c.if-not-same.true ∙ c.same.ensures ∙ f; buf_after = refl }

pub crypt-requires : goal.crypt-requires
crypt-requires c =
    let z : c.args.n - 10 - 0 ≡ c.args.n - 10 = omega arith in
    record {
      h_value = (rw z (read c.args.context.now.policy 10 c.args.buf.now c.args.n c.args.h c.requires.0 c.requires.1), (rw z (fits c.args.context.now.policy 10 c.args.buf.now c.args.n c.args.h c.requires.0 c.requires.1), rw z (small c.args.context.now.policy 10 c.args.buf.now c.args.n c.args.h c.requires.0 c.requires.1)));
      packet_value = rw z (elements c.args.context.now.policy 10 c.args.buf.now c.args.n c.args.h c.requires.0 c.requires.1);
    }

pub returns : goal.returns
returns c =
    let f = tag-fits c.args.context.now.policy 10 c.args.buf.now c.args.n c.args.h c.requires.0 c.requires.1 CmHmac refl c.args.context.now.keys c.args.context.now.ssrc c.args.context.now.index _ (tag-code c.args.context.now.keys c.args.context.now.policy c.args.context.now.ssrc c.args.context.now.index _ _ c.code-c.ensures) in
    record {
      value = sym c.if-not-same.false ∙ c.same.ensures ∙ f;
      buf_after = opened c.args.context.now.policy 10 c.args.buf.now c.args.n c.args.h c.requires.0 c.requires.1 CmHmac refl c.args.context.now.keys (listed_in c.args.context.now.ids) c.args.context.now.ssrc c.args.context.now.index _ c.crypt.ensures;
    }
