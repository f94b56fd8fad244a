-- A line as its name and what is given.
use Rattle.std.specs.Prelude.{◌≡◌, List, ℕ, Bool, ◌==◌, drop}
use Rattle.std.specs.List.{position_or_len, before_first}

abbrev pub is_colon : ℕ → Bool
is_colon b = b == 58

-- the name stands before the first colon, and what is given behind it and one byte more, a space
pub record IsCut (line name given : List ℕ) : Type 0 where
  pub name_is : name ≡ before_first is_colon line
  pub given_is : given ≡ drop 2 (drop (position_or_len is_colon line) line)
