-- `streams::stream::unprotect_stream` meets its contract.
use native.Mathlib.Omega.{arith}
use mathlib.Core.Path.{ap, ◌∙◌}
use Rattle.suites.specs.Suites.{tag_length_of}
use Rattle.front.proofs.Opens.{judged-long, judged-whole}
use Rattle.streams.proofs.Effects.{wrong-tag, is-received}
use Rattle.streams.proofs.stream.unprotect_stream.Goals as goal

pub context_of-context-requires : goal.context_of-context-requires
context_of-context-requires c = let r = c.requires.readable in (c.requires.placed.small, judged-long _ _ _ _ _ _ r.inside r.judged)

pub unprotect_packet-requires : goal.unprotect_packet-requires
unprotect_packet-requires c =
    let r = c.requires.readable in
    let e = c.context_of-context.ensures in
    rw (e.policy, e.suite) (r.inside, r.judged)

pub returns-then-not-unprotect_packet : goal.returns-then-not-unprotect_packet
returns-then-not-unprotect_packet c =
    let a = c.args in
    let e = c.context_of-context.ensures in
    let v = rw (e.keys, e.policy, e.suite, e.ssrc, e.index) at c.unprotect_packet.ensures.value in
    let w = rw (e.keys, e.policy, e.suite, e.ids, e.ssrc, e.index) at c.unprotect_packet.ensures.buf_after in
    wrong-tag a.session.now a.opened.place a.buf.now a.n _ _ c.requires.placed.index _ v w c.if-not-unprotect_packet.true

pub overflow_sub-result : goal.overflow_sub-result
overflow_sub-result c =
    let r = c.requires.readable in
    omega (arith, judged-whole _ _ _ _ _ _ r.inside r.judged, c.tag_length-t.ensures.0 ∙ ap tag_length_of c.context_of-context.ensures.suite)

pub returns : goal.returns
returns c =
    let a = c.args in
    let e = c.context_of-context.ensures in
    let v = rw (e.keys, e.policy, e.suite, e.ssrc, e.index) at c.unprotect_packet.ensures.value in
    let w = rw (e.keys, e.policy, e.suite, e.ids, e.ssrc, e.index) at c.unprotect_packet.ensures.buf_after in
    is-received a.session.now a.opened.place a.buf.now a.n _ _ c.requires.placed.index _ v w c.if-not-unprotect_packet.false _ (c.tag_length-t.ensures.0 ∙ ap tag_length_of e.suite) _ c.commit.ensures
