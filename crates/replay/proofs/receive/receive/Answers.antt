-- `replay::receive::receive` meets its contract.
use mathlib.Core.Path.{refl, sym, ◌∙◌}
use native.Mathlib.Omega.{arith}
use mir.Syntax.{w32}
use mir.ValLaws.{to_z-of_z}
use lib.ListN.{get_or}
use Rattle.replay.proofs.Guesses.{reached}
use Rattle.replay.proofs.Words.{rest, first-arrival, later-arrival}
use Rattle.replay.proofs.receive.receive.Goals as goal

pub returns-then-track-eq1 : goal.returns-then-track-eq1
returns-then-track-eq1 c =
    let a = c.args in
    let l = a.track.now in
    let d = to_z-of_z w32 _ (record { sfits = c.guess-distance.type_inv }) ∙ c.guess-distance.ensures in
    rw (d, c.judge_guess-judged.ensures, d, rest 2 l, reached (get_or l 1 0) a.sequence (omega arith))
    (sym (later-arrival l a.width a.rollover a.sequence _ _ c.if-track-eq1.true refl refl))

pub returns-else-track-eq1 : goal.returns-else-track-eq1
returns-else-track-eq1 c =
    let a = c.args in
    rw c.first_index.ensures (sym (first-arrival a.track.now a.width a.rollover a.sequence c.if-track-eq1.false (omega arith)))
