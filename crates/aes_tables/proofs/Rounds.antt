-- The definitions of a round, the cipher and the key schedule (FIPS 197, 5.1 and 5.2), as laws for the crates that make them.
use mathlib.Core.Path.{◌≡◌, refl}
use mathlib.Core.List.{List, [], ◌∷◌, ◌++◌}
use Prim.Native.Nat.{ℕ, suc, ◌+◌, ◌%◌}
use lib.ListN.{get_or}
use Rattle.bits.specs.Lists.{tabulate}
use Rattle.bits.specs.Xor.{xor_list}
use Rattle.aes_tables.specs.Field.{◌•◌}
use Rattle.aes_tables.specs.Cipher.{sbox_of, at, mix_column, add_round_key, round_of, last_round_of, rounds_of, cipher_of}
use Rattle.aes_tables.specs.Keys.{pow_x, word_of, words_of, round_key_of, round_keys_of}

-- ---- rounds, a column at a time: row r of column c comes from column c + r

module _ (s k : List (List ℕ)) where
  -- the byte that ShiftRows brings to row r of column c, after SubBytes
  abbrev pub moved : ℕ → ℕ → ℕ
  moved r c = sbox_of (at s r ((c + r) % 4))

  pub round_is : round_of s k ≡ tabulate 4 (λ c. xor_list (mix_column (moved 0 c) (moved 1 c) (moved 2 c) (moved 3 c)) (get_or k c []))
  unfolding round_of
  round_is = refl

  pub last-round-is : last_round_of s k ≡ add_round_key (tabulate 4 (λ c. moved 0 c ∷ moved 1 c ∷ moved 2 c ∷ moved 3 c ∷ [])) k
  unfolding last_round_of
  last-round-is = refl

-- ---- the cipher

module _ (s : List (List ℕ)) (ks : List (List (List ℕ))) where
  pub rounds-none : rounds_of s ks 0 ≡ s
  unfolding rounds_of
  rounds-none = refl

  pub rounds-next : (n : ℕ) → rounds_of s ks (suc n) ≡ round_of (rounds_of s ks n) (get_or ks (suc n) [])
  unfolding rounds_of
  rounds-next n = refl

  pub cipher-is : cipher_of s ks ≡ last_round_of (rounds_of (add_round_key s (get_or ks 0 [])) ks 9) (get_or ks 10 [])
  unfolding cipher_of
  cipher-is = refl

-- ---- the key schedule

module _ (key : List (List ℕ)) where
  pub words-none : words_of key 0 ≡ key
  unfolding words_of
  words-none = refl

  pub words-next : (n : ℕ) → words_of key (suc n) ≡ words_of key n ++ (word_of (words_of key n) (n + 4) ∷ [])
  unfolding words_of
  words-next n = refl

  pub round-keys-are : round_keys_of key ≡ tabulate 11 (λ i. round_key_of (words_of key 40) i)
  unfolding round_keys_of
  round-keys-are = refl

-- the powers of x that the round constants take
pub powers : tabulate 10 pow_x ≡ 0x01 ∷ 0x02 ∷ 0x04 ∷ 0x08 ∷ 0x10 ∷ 0x20 ∷ 0x40 ∷ 0x80 ∷ 0x1b ∷ 0x36 ∷ []
unfolding ◌•◌
powers = refl
