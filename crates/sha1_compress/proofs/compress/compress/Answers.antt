-- `sha1_compress::compress::compress` meets its contract: three stages of twenty steps, four and the last sixteen are the eighty.
use Rattle.std.proofs.Common.{◌≡◌, length, arith, rules}
use Rattle.sha1_compress.proofs.Turns.{begun, compressed}
use Rattle.sha1_compress.proofs.compress.compress.Goals as goal

pub returns : goal.returns
returns c =
    let words : length c.args.m ≡ 16 = search rules in
    let h = c.args.h in
    let m = c.args.m in
    let ea = c.twenty-a.ensures h m words (omega arith) (begun h m words) in
    let eb = c.twenty-b.ensures h m words (omega arith) ea in
    let eg = c.twenty-c.ensures h m words (omega arith) eb in
    let ed = c.four-d.ensures h m 60 words (omega arith) (omega arith) (omega arith) eg in
    compressed h m c.sum.result c.last.result (c.last.ensures h m words ed) c.sum.ensures
