-- `sha1_compress::compress::Working::four` meets its contract: four steps of one stage.
use Rattle.std.proofs.Common.{◌+◌, arith}
use Rattle.sha1_compress.proofs.Turns.{held}
use Rattle.sha1_compress.proofs.compress.Working.four.Goals as goal

pub returns : goal.returns
returns c = λ h m t l b e g er.
    let e1 = c.turn-a.ensures h m t l (omega arith) e er in
    let e2 = c.turn-b.ensures h m (t + 1) l (omega arith) (omega arith) e1 in
    let e3 = c.turn-c.ensures h m (t + 2) l (omega arith) (omega arith) (held h m (t + 1 + 1) (t + 2) _ (omega arith) e2) in
    let e4 = c.turn.ensures h m (t + 3) l b g (held h m (t + 2 + 1) (t + 3) _ (omega arith) e3) in
    held h m (t + 3 + 1) (t + 4) _ (omega arith) e4
