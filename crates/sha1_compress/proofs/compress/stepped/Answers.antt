-- `sha1_compress::compress::stepped` meets its contract.
use Rattle.sha1_compress.proofs.Turns.{stepped}
use Rattle.sha1_compress.proofs.compress.stepped.Goals as goal

pub returns : goal.returns
returns c = λ t e.
    let g = c.args in
    stepped g.s c.step.result t g.w c.f.result c.k.result (c.f.ensures t e) (c.k.ensures t e) c.step.ensures
