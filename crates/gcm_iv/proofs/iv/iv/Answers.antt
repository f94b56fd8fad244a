-- `gcm_iv::iv::iv` meets its contract.
use mathlib.Core.Path.{◌≡◌}
use borrow.Author.Rules.{rules}
use lib.ListN.{length}
use Rattle.gcm_iv.proofs.Ivs.{iv-is}
use Rattle.gcm_iv.proofs.iv.iv.Goals as goal

pub returns : goal.returns
returns c =
    let g = c.args in
    let twelve : length g.salt ≡ 12 = search rules in
    iv-is g.salt c.write32-q.result c.write64-i.result g.ssrc g.index twelve c.write32-q.ensures c.write64-i.ensures
