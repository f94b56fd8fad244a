-- `packet::protect::unprotect_packet` meets its contract.
use mathlib.Core.Path.{sym, ◌∙◌}
use native.Mathlib.Omega.{arith}
use Rattle.rtp_elements.specs.Mask.{listed_in}
use Rattle.packet.proofs.Arriving.{tagged-long, plain-read, plain_fits, restored}
use Rattle.packet.proofs.protect.unprotect_packet.Goals as goal

pub returns-then-not-open : goal.returns-then-not-open
returns-then-not-open c =
    let f = c.if-not-open.true in
    record { value = sym f ∙ c.«open».ensures.value; buf_after = rw f at c.«open».ensures.buf_after }

pub overflow_sub-m : goal.overflow_sub-m
overflow_sub-m c = omega (arith, c.tag_length.ensures.0, tagged-long c.args.context.now.suite c.args.context.now.keys c.args.context.now.policy (listed_in c.args.context.now.ids) c.args.context.now.ssrc c.args.context.now.index c.args.buf.now c.args.n c.args.h c.requires.0 c.requires.1)

pub from_wire-requires : goal.from_wire-requires
from_wire-requires c =
    let e = rw c.if-not-open.false at c.«open».ensures.buf_after in
    rw c.tag_length.ensures.0 (plain-read c.args.context.now.suite c.args.context.now.keys c.args.context.now.policy (listed_in c.args.context.now.ids) c.args.context.now.ssrc c.args.context.now.index c.args.buf.now c.args.n c.args.h c.requires.0 c.requires.1 _ e, plain_fits c.args.context.now.suite c.args.context.now.keys c.args.context.now.policy (listed_in c.args.context.now.ids) c.args.context.now.ssrc c.args.context.now.index c.args.buf.now c.args.n c.args.h c.requires.0 c.requires.1 _ e)

pub returns : goal.returns
returns c =
    let f = c.if-not-open.false in
    let e = rw f at c.«open».ensures.buf_after in
    record {
      value = sym f ∙ c.«open».ensures.value;
      buf_after = rw c.tag_length.ensures.0 (restored c.args.context.now.suite c.args.context.now.keys c.args.context.now.policy (listed_in c.args.context.now.ids) c.args.context.now.ssrc c.args.context.now.index c.args.buf.now c.args.n c.args.h c.requires.0 c.requires.1 _ e _ (rw c.tag_length.ensures.0 at c.from_wire.ensures));
    }
