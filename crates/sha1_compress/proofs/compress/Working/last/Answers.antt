-- `sha1_compress::compress::Working::last` meets its contract.
use Rattle.std.proofs.Common.{◌≡◌, ◌+◌, ap, ◌∙◌, arith}
use Rattle.sha1_compress.specs.Hash.{schedule_of, steps_of}
use Rattle.sha1_compress.proofs.Turns.{last_none, last_more}
use Rattle.sha1_compress.proofs.compress.Working.last.Goals as goal

pub loop-w-init : goal.loop-w-init
loop-w-init c = λ h m l er. last_none h m l _ er

pub loop-w-preserved : goal.loop-w-preserved
loop-w-preserved c =
    let l = c.loop-w in
    λ h m n er. last_more h m n _ er l.s c.stepped-u.result l.w-index (omega arith) (l.invariant h m n er) (c.stepped-u.ensures (64 + l.w-index) (omega arith))

pub returns : goal.returns
returns c =
    let e : 64 + c.loop-w.w-index ≡ 80 = omega arith in
    λ h m n er. c.loop-w.invariant h m n er ∙ ap (steps_of (schedule_of m 64) h) e
