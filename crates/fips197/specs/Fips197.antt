-- Worked examples of FIPS 197 (2001), as facts of the definitions.
use Rattle.std.specs.Prelude.{◌≡◌, List, [], ◌∷◌, ℕ, get_or}
use Rattle.bits.specs.BigEndian.{to_bytes}
use Rattle.bits.specs.Xor.{◌⊕◌}
use Rattle.aes_tables.specs.Field.{◌•◌}
use Rattle.aes_tables.specs.Cipher.{sbox_of}
use Rattle.aes_tables.specs.Keys.{words_of, aes128_of}

-- sixteen bytes, written as four words
abbrev pub words : ℕ → ℕ → ℕ → ℕ → List (List ℕ)
words a b c d = to_bytes 4 a ∷ to_bytes 4 b ∷ to_bytes 4 c ∷ to_bytes 4 d ∷ []

-- the key of appendices A.1 and B
abbrev pub key_b : List (List ℕ)
key_b = words 0x2b7e1516 0x28aed2a6 0xabf71588 0x09cf4f3c

pub record WorkedExamples : Type 0 where
  -- 4.1
  pub sum : 0x57 ⊕ 0x83 ≡ 0xd4
  -- 4.2 and 4.2.1
  pub product : 0x57 • 0x83 ≡ 0xc1
  pub by-xtime : 0x13 • 0x57 ≡ 0xfe
  -- 5.1.1
  pub sbox : sbox_of 0x53 ≡ 0xed
  -- A.1: w[43]
  pub last_word : get_or (words_of key_b 40) 43 [] ≡ to_bytes 4 0xb6630ca6
  -- B
  pub cipher : aes128_of key_b (words 0x3243f6a8 0x885a308d 0x313198a2 0xe0370734) ≡ words 0x3925841d 0x02dc09fb 0xdc118597 0x196a0b32
