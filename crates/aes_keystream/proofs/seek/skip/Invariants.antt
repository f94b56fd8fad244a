-- `aes_keystream::seek::skip` meets its contract.
use mathlib.Core.Path.{◌≡◌}
use Prim.Native.Nat.{◌-◌, ◌≤◌}
use lib.ListN.{length}
use Rattle.aes_keystream.specs.Steps.{Holds}
use Rattle.aes_keystream.proofs.seek.skip.Given as goal

abbrev pub invariant-loop-t : goal.invariant-loop-t
invariant-loop-t l = (length l.unread ≡ 16) × ((l.t.at ≤ l.to) × Holds l.blocks.cipher.key l.blocks.block l.t)

abbrev pub decreases-loop-t : goal.decreases-loop-t
decreases-loop-t l = l.to - l.t.at
