-- `rtp::find::locate` meets its contract.
use Rattle.std.specs.Prelude.{None}
use Prim.Native.Nat.{◌-◌}
use lib.ListN.{length}
use Rattle.rtp.proofs.Locating.{Sought}
use Rattle.rtp.proofs.find.locate.Given as goal

abbrev pub invariant-loop-i : goal.invariant-loop-i
invariant-loop-i l = Sought l.tag l.block l.id None l.i

abbrev pub decreases-loop-i : goal.decreases-loop-i
decreases-loop-i l = length l.block - l.i
