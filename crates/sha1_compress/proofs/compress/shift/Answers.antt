-- `sha1_compress::compress::shift` meets its contract: the words kept, one further in the schedule.
use Rattle.std.proofs.Common.{◌≡◌, length, rules}
use Rattle.sha1_compress.proofs.Schedule.{shifted}
use Rattle.sha1_compress.proofs.compress.shift.Goals as goal

pub returns : goal.returns
returns c =
    let sixteen : length c.args.w ≡ 16 = search rules in
    shifted c.args.w c.rotate_left-x.result (sixteen) c.rotate_left-x.ensures
