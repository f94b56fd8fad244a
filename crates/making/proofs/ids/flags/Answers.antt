-- `making::ids::flags` meets its contract.
use lib.Seq.{take_all}
use Rattle.making.proofs.Flags.{next-flagged, all-flagged}
use Rattle.making.proofs.ids.flags.Goals as goal

pub loop-id-preserved : goal.loop-id-preserved
loop-id-preserved c =
    let l = c.loop-id in
    let ids = c.args.ids.now in
    rw (c.with_id.ensures, c.from-place.ensures) (next-flagged ids l.id-index c.loop-id-test.true (c.type_inv.ids l.id-index).fits l.set l.invariant)

pub returns : goal.returns
returns c =
    let l = c.loop-id in
    let ids = c.args.ids.now in
    all-flagged ids l.set (rw (take_all l.id-index ids c.loop-id-test.false) at l.invariant)
