-- `replay::ring::block` meets its contract.
use Rattle.replay.proofs.Rings.{block_here, block-away}
use Rattle.replay.proofs.ring.block.Goals as goal

pub returns-then-ring-place : goal.returns-then-ring-place
returns-then-ring-place c =
    block_here c.args.ring.now c.requires c.args.number c.place_of-place.result c.place_of-place.ensures.value c.if-ring-place.true

pub returns-else-ring-place : goal.returns-else-ring-place
returns-else-ring-place c =
    block-away c.args.ring.now c.requires c.args.number c.place_of-place.result c.place_of-place.ensures.value c.if-ring-place.false
