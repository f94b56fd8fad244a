-- The refusals and their numbers: document 01, "Numbers given back", to which document 02 adds conditions, and the border's own.
use Rattle.std.specs.Prelude.{◌≡◌, List, [], ◌∷◌, map, ℕ, ◌-◌, get_or, Result, Ok, Err}
use Rattle.bits.specs.declared.refusal.Refusal.{Refusal}
use Rattle.bits.specs.declared.refusal.Refusal.TheVariants.{Length, Short, Version, Header, Profile, Element, Large, Room, Stream, Order, Worn, Old, Repeat, Tag, Keys, Policy, Twice, Full, Absent}
use Rattle.bits.specs.declared.refusal.Border.{Border}
use Rattle.bits.specs.declared.refusal.Border.TheVariants.{Memory, Way, Sizes, Suite}

-- the number that a call gives back for a refusal
abbrev pub number_of : Refusal → ℕ
number_of Length = 1
number_of Short = 2
number_of Version = 3
number_of Header = 4
number_of Profile = 5
number_of Element = 6
-- one number for two conditions: of a packet (`policies/Judging.size_fits`), and of a stretch of keystream (`stretches/Stretch.is_large`)
number_of Large = 7
number_of Room = 8
number_of Stream = 9
number_of Order = 10
number_of Worn = 11
number_of Old = 12
number_of Repeat = 13
number_of Tag = 14
number_of Keys = 15
number_of Policy = 16
number_of Twice = 17
number_of Full = 18
number_of Absent = 19

-- the number that a call gives back: 0 where nothing is refused
abbrev pub outcome_of : {A : Type 0} → Result A Refusal → ℕ
outcome_of (Ok a) = 0
outcome_of (Err r) = number_of r

-- the table of document 01, row by row
abbrev pub refusals : List Refusal
refusals =
    Length ∷ Short ∷ Version ∷ Header ∷ Profile ∷ Element ∷ Large ∷ Room ∷ Stream ∷ Order
    ∷ Worn ∷ Old ∷ Repeat ∷ Tag ∷ Keys ∷ Policy ∷ Twice ∷ Full ∷ Absent ∷ []

-- The rows are numbered from 1 on, and a refusal stands in the row of its number: so no two share one, and none is missing.
pub record Numbered : Type 0 where
  pub numbers : map number_of refusals ≡ 1 ∷ 2 ∷ 3 ∷ 4 ∷ 5 ∷ 6 ∷ 7 ∷ 8 ∷ 9 ∷ 10 ∷ 11 ∷ 12 ∷ 13 ∷ 14 ∷ 15 ∷ 16 ∷ 17 ∷ 18 ∷ 19 ∷ []
  pub rows : (r : Refusal) → get_or refusals (number_of r - 1) Length ≡ r

-- ---- the border's own, which no paper has: what a caller can pass and the papers' types cannot hold

-- session memory of another size
abbrev pub wrong_memory : ℕ
wrong_memory = 100

-- a way that is neither 0, sending, nor 1, receiving
abbrev pub wrong_way : ℕ
wrong_way = 101

-- where a session key and salt are lent to the keystream (document 02, CR 6, which has LARGE alone): a key that is not 16 bytes, or a salt that is not 14. KEYS is
-- about the master key and salt that a session is made from
abbrev pub wrong_sizes : ℕ
wrong_sizes = 102

-- a suite that is neither 0, AES_CM_128_HMAC_SHA1_80, nor 1, AEAD_AES_128_GCM (document 02, CR 3)
abbrev pub wrong_suite : ℕ
wrong_suite = 103

abbrev pub border_number_of : Border → ℕ
border_number_of Memory = wrong_memory
border_number_of Way = wrong_way
border_number_of Sizes = wrong_sizes
border_number_of Suite = wrong_suite
