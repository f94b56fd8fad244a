-- The numbers of the refusals.
use Prim.Native.Nat.{◌<◌}
use native.Mathlib.Omega.{arith}
use Rattle.bits.specs.Refusals.{number_of}
use Rattle.bits.specs.declared.refusal.Refusal.{Refusal}
use Rattle.bits.specs.declared.refusal.Refusal.TheVariants.{Length, Short, Version, Header, Profile, Element, Large, Room, Stream, Order, Worn, Old, Repeat, Tag, Keys, Policy, Twice, Full, Absent}

-- no refusal has number 0
pub above_zero : (r : Refusal) → 0 < number_of r
above_zero Length = omega arith
above_zero Short = omega arith
above_zero Version = omega arith
above_zero Header = omega arith
above_zero Profile = omega arith
above_zero Element = omega arith
above_zero Large = omega arith
above_zero Room = omega arith
above_zero Stream = omega arith
above_zero Order = omega arith
above_zero Worn = omega arith
above_zero Old = omega arith
above_zero Repeat = omega arith
above_zero Tag = omega arith
above_zero Keys = omega arith
above_zero Policy = omega arith
above_zero Twice = omega arith
above_zero Full = omega arith
above_zero Absent = omega arith
