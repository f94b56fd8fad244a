-- `replay::ring::mark` meets its contract.
use Prim.Native.Nat.{◌%◌}
use native.Mathlib.Omega.{arith}
use lib.ListN.{length-set}
use Rattle.bits.proofs.Bits.{one_shl}
use Rattle.replay.proofs.Rings.{marked}
use Rattle.replay.proofs.ring.mark.Goals as goal

pub bounds-ring-b : goal.bounds-ring-b
bounds-ring-b c = simp length-set (omega arith)

pub returns : goal.returns
returns c =
    marked c.args.ring.now c.requires c.args.index c.place_of-place.result _ c.place_of-place.ensures.value
    (rw (c.block-bits.ensures, one_shl (c.args.index % 64) (omega arith)))
