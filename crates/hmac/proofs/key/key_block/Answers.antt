-- `hmac::key::key_block` meets its contract.
use Rattle.std.proofs.Common.{refl, arith}
use Rattle.hmac.proofs.Keys.{key_more, key-all}
use Rattle.hmac.proofs.key.key_block.Goals as goal

pub loop-i-init : goal.loop-i-init
loop-i-init c = refl

pub loop-i-preserved : goal.loop-i-preserved
loop-i-preserved c =
    let l = c.loop-i in
    key_more l.b c.args.key.now c.args.x l.i (omega arith) (omega arith) l.invariant

pub returns : goal.returns
returns c =
    let l = c.loop-i in
    key-all l.b c.args.key.now c.args.x l.i (omega arith) l.invariant
