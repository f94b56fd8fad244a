-- `sha1_compress::compress::Working::twenty` meets its contract: the twenty steps of one stage.
use Rattle.std.proofs.Common.{◌+◌, ◌*◌, arith}
use Rattle.sha1_words.specs.Stages.{stage_number}
use Rattle.sha1_compress.proofs.Turns.{held}
use Rattle.sha1_compress.proofs.compress.Working.twenty.Goals as goal

pub returns : goal.returns
returns c = λ h m l b er.
    let t = 20 * stage_number c.args.stage in
    let e1 = c.four-a.ensures h m t l (omega arith) (omega arith) (omega arith) er in
    let e2 = c.four-b.ensures h m (t + 4) l (omega arith) (omega arith) (omega arith) e1 in
    let e3 = c.four-c.ensures h m (t + 8) l (omega arith) (omega arith) (omega arith) (held h m (t + 4 + 4) (t + 8) _ (omega arith) e2) in
    let e4 = c.four-d.ensures h m (t + 12) l (omega arith) (omega arith) (omega arith) (held h m (t + 8 + 4) (t + 12) _ (omega arith) e3) in
    let e5 = c.four.ensures h m (t + 16) l (omega arith) (omega arith) (omega arith) (held h m (t + 12 + 4) (t + 16) _ (omega arith) e4) in
    held h m (t + 16 + 4) (t + 20) _ (omega arith) e5
