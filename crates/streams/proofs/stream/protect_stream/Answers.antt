-- `streams::stream::protect_stream` meets its contract.
use mathlib.Core.Path.{sym, ◌∙◌}
use Rattle.front.proofs.Opens.{judged-long}
use Rattle.memory.specs.Words.{word}
use Rattle.session.specs.Memory.{suite_at}
use Rattle.streams.proofs.Effects.{is-sent, wire-length}
use Rattle.streams.proofs.stream.protect_stream.Goals as goal

pub context_of-context-requires : goal.context_of-context-requires
context_of-context-requires c = let r = c.requires.readable in (c.requires.placed.small, judged-long _ _ _ _ _ _ r.inside r.judged)

pub protect_packet-m-requires : goal.protect_packet-m-requires
protect_packet-m-requires c =
    let r = c.requires.readable in
    let e = c.context_of-context.ensures in
    rw (e.policy, e.suite) record { n_in_bounds = (r.inside, r.judged); h_in_bounds = r.room }

pub returns : goal.returns
returns c =
    let a = c.args in
    let e = c.context_of-context.ensures in
    let l = wire-length (suite_at (word a.session.now 0)) _ a.buf.now a.n a.layout c.requires.readable.judged in
    let m = rw (e.policy, e.suite) at c.protect_packet-m.ensures.value ∙ sym l in
    let w = rw (e.keys, e.policy, e.suite, e.ids, e.ssrc, e.index) at c.protect_packet-m.ensures.buf_after in
    is-sent a.session.now a.opened.place a.buf.now a.n _ _ c.requires.placed.index _ m (rw m at w) _ c.commit.ensures
