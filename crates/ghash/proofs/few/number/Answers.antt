-- `ghash::few::number` meets its contract.
use Rattle.std.proofs.Common.{◌<◌, ◌^◌, refl, arith}
use Rattle.bits.proofs.Bytes.{are-bytes}
use Rattle.ghash.proofs.Places.{number-next, number-room, number-end}
use Rattle.ghash.proofs.few.number.Goals as goal

pub loop-b-init : goal.loop-b-init
loop-b-init c = refl

pub overflow_mul-x : goal.overflow_mul-x
overflow_mul-x c =
    let l = c.args.part.now in
    let room : c.loop-b.x < 2 ^ 56 = number-room l c.loop-b.b-index c.loop-b.x (are-bytes l (λ i. (c.type_inv.part i).fits)) c.loop-b-test.true c.requires c.loop-b.invariant in
    omega arith

pub overflow_add-x : goal.overflow_add-x
overflow_add-x c =
    let l = c.args.part.now in
    let room : c.loop-b.x < 2 ^ 56 = number-room l c.loop-b.b-index c.loop-b.x (are-bytes l (λ i. (c.type_inv.part i).fits)) c.loop-b-test.true c.requires c.loop-b.invariant in
    omega (arith, c.from.ensures, (c.type_inv.part c.loop-b.b-index).fits)

pub loop-b-preserved : goal.loop-b-preserved
loop-b-preserved c =
    number-next c.args.part.now c.loop-b.b-index c.loop-b.x c.from.result c.loop-b-test.true c.loop-b.invariant c.from.ensures

pub returns : goal.returns
returns c = number-end c.args.part.now c.loop-b.b-index c.loop-b.x (omega arith) c.loop-b.invariant
