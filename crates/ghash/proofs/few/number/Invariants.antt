-- `ghash::few::number`: the number that the bytes so far are.
use Rattle.std.proofs.Common.{◌≡◌, take}
use Rattle.bits.specs.BigEndian.{from_bytes}
use Rattle.ghash.proofs.few.number.Given as goal

abbrev pub invariant-loop-b : goal.invariant-loop-b
invariant-loop-b l = l.x ≡ from_bytes (take l.b-index l.part)
