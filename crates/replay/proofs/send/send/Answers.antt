-- `replay::send::send` meets its contract: a first packet, and a later one a step on.
use mathlib.Core.Path.{sym, ◌∙◌}
use Rattle.replay.proofs.Words.{first-send, later-send}
use Rattle.replay.proofs.send.send.Goals as goal

pub returns-then-track-eq1 : goal.returns-then-track-eq1
returns-then-track-eq1 c =
    let a = c.args in
    c.next.ensures ∙ sym (later-send a.track.now a.rollover a.sequence c.if-track-eq1.true)

pub returns-else-track-eq1 : goal.returns-else-track-eq1
returns-else-track-eq1 c =
    let a = c.args in
    rw c.first_index.ensures (sym (first-send a.track.now a.rollover a.sequence c.if-track-eq1.false))
