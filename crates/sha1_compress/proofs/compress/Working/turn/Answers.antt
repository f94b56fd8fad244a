-- `sha1_compress::compress::Working::turn` meets its contract: step t taken, and word t + 16 made.
use Rattle.sha1_compress.proofs.Turns.{turned}
use Rattle.sha1_compress.proofs.compress.Working.turn.Goals as goal

pub returns : goal.returns
returns c = λ h m t l b e er.
    let r = c.args.self in
    turned h m l t r er c.stepped-u.result c.shift-v.result b (c.stepped-u.ensures t e) c.shift-v.ensures
