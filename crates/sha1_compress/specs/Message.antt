-- FIPS 180-4, sections 5.1.1 and 5.2.1: the padded message, and its blocks of sixteen words.
-- A message is a list of bytes, each below 256, fewer than 2^61 of them (6.1: fewer than 2^64 bits); beyond that the definitions are not the standard's.
use Rattle.std.specs.Prelude.{ℕ, zero, suc, ◌+◌, ◌-◌, ◌*◌, ◌%◌, List, [], ◌∷◌, ◌++◌, length, replicate, slice_index}
use Rattle.bits.specs.BigEndian.{from_bytes, to_bytes}

-- 5.1.1: the least z with n + 1 + z = 56 modulo 64; with the seven zero bits of 0x80, k = 8 z + 7
abbrev pub zeros_of : ℕ → ℕ
zeros_of n = (119 - n % 64) % 64

-- 5.1.1: what follows a message of n bytes: the bit 1 and k zero bits, and the message's length in bits, in 64 bits
unfoldable pub padding_of : ℕ → List ℕ
padding_of n = 0x80 ∷ (replicate (zeros_of n) 0 ++ to_bytes 8 (n * 8))

-- 5.1.1: the padded message
unfoldable pub pad_of : List ℕ → List ℕ
pad_of m = m ++ padding_of (length m)

-- 3.1 and 5.2.1: the word at byte i, its highest byte first
abbrev pub word_at : List ℕ → ℕ → ℕ
word_at l i = from_bytes (slice_index l i ∷ slice_index l (i + 1) ∷ slice_index l (i + 2) ∷ slice_index l (i + 3) ∷ [])

-- the first n words of l
unfoldable pub words_in : ℕ → List ℕ → List ℕ
words_in zero l = []
words_in (suc n) l = words_in n l ++ (word_at l (4 * n) ∷ [])
