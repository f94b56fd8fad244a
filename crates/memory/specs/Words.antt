-- Bytes and 32-bit numbers in 64-bit words.
use Rattle.std.specs.Prelude.{◌≡◌, List, [], ◌∷◌, ◌++◌, ℕ, ◌-◌, ◌%◌, ◌^◌, ◌<◌, length, get_or, take, drop}
use Rattle.bits.specs.BigEndian.{to_bytes, from_bytes}

-- word i of memory
abbrev pub word : List ℕ → ℕ → ℕ
word words i = get_or words i 0

-- ---- bytes: eight to a word, the first one highest

-- the n bytes, 8 to 16, of two words: the second has what is left for it, in its low bytes
abbrev pub bytes_in : ℕ → ℕ → ℕ → List ℕ
bytes_in n a b = to_bytes 8 a ++ to_bytes (n - 8) b

abbrev pub halves : List ℕ → List ℕ
halves bytes = from_bytes (take 8 bytes) ∷ from_bytes (drop 8 bytes) ∷ []

-- ---- numbers: one to a word

-- the 32-bit numbers of five words
abbrev pub five : List ℕ → List ℕ
five l = word l 0 % 2 ^ 32 ∷ word l 1 % 2 ^ 32 ∷ word l 2 % 2 ^ 32 ∷ word l 3 % 2 ^ 32 ∷ word l 4 % 2 ^ 32 ∷ []

-- ---- what comes back from its words as it was

abbrev pub Lasts : ℕ → List ℕ → Type 0
Lasts n l = bytes_in n (word (halves l) 0) (word (halves l) 1) ≡ l

pub record Numbers5 (l : List ℕ) : Type 0 where
  pub long : length l ≡ 5
  pub kept : five l ≡ l

-- The values that the code's types allow: an array of n numbers below a bound. Definitions speak of lists of numbers, so this has to be said.
pub record Array (n bound : ℕ) (l : List ℕ) : Type 0 where
  pub long : length l ≡ n
  pub small : (i : ℕ) → get_or l i 0 < bound
