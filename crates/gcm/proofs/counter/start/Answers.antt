-- `gcm::counter::start` meets its contract.
use Rattle.std.proofs.Common.{◌≡◌, length, ◌∙◌, rules}
use Rattle.gcm.proofs.Counters.{base-is}
use Rattle.gcm.proofs.counter.start.Goals as goal

pub returns : goal.returns
returns c =
    let twelve : length c.args.iv ≡ 12 = search rules in
    let e = c.start_at.ensures in
    (e.0, e.1 ∙ base-is c.args.iv twelve)
