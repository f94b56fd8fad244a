-- `bits::refusal::refusals_are_numbered`: each case computes.
use mathlib.Core.Path.{◌≡◌, refl}
use Prim.Native.Nat.{◌-◌}
use lib.ListN.{get_or}
use Rattle.bits.specs.declared.refusal.Refusal.{Refusal}
use Rattle.bits.specs.declared.refusal.Refusal.TheVariants.{Length, Short, Version, Header, Profile, Element, Large, Room, Stream, Order, Worn, Old, Repeat, Tag, Keys, Policy, Twice, Full, Absent}
use Rattle.bits.specs.Refusals.{number_of, refusals}
use Rattle.bits.proofs.refusal.refusals_are_numbered.Goals as goal

in-its-row : (r : Refusal) → get_or refusals (number_of r - 1) Length ≡ r
in-its-row Length = refl
in-its-row Short = refl
in-its-row Version = refl
in-its-row Header = refl
in-its-row Profile = refl
in-its-row Element = refl
in-its-row Large = refl
in-its-row Room = refl
in-its-row Stream = refl
in-its-row Order = refl
in-its-row Worn = refl
in-its-row Old = refl
in-its-row Repeat = refl
in-its-row Tag = refl
in-its-row Keys = refl
in-its-row Policy = refl
in-its-row Twice = refl
in-its-row Full = refl
in-its-row Absent = refl

pub returns : goal.returns
returns c = record { numbers = refl; rows = in-its-row }
