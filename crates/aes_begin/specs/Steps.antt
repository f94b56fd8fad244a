-- What the beginning of a block means. Nothing here is FIPS 197's.
use Rattle.std.specs.Prelude.{◌≡◌, List, [], ℕ, get_or}
use Rattle.aes_begin.specs.declared.begin.Begun.{Begun}
use Rattle.aes_tables.specs.Cipher.{round_of}
use Rattle.aes_shared.specs.Shared.{FirstColumns, SecondColumns}

-- what was begun of the state s, which AddRoundKey has left, under the round keys k and l of the first two rounds
pub record Begins (s k l : List (List ℕ)) (b : Begun) : Type 0 where
  pub first : FirstColumns s k b.first
  pub column2 : b.column2 ≡ get_or (round_of s k) 2 []
  pub column3 : b.column3 ≡ get_or (round_of s k) 3 []
  pub second : SecondColumns b.column2 b.column3 l b.second
