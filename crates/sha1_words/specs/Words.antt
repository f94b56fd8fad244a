-- FIPS 180-4, sections 2.2.2, 3.2, 4.1.1 and 4.2.1: operations on words of 32 bits, and the functions and constants of SHA-1.
-- A word is a number below 2^32.
use Rattle.std.specs.Prelude.{ℕ, ◌+◌, ◌-◌, ◌*◌, ◌/◌, ◌%◌, ◌^◌, ltb}
use Rattle.std.specs.Int.Bits.{bit_and, bit_or}
use Rattle.bits.specs.Pick.{pick}
use Rattle.bits.specs.Xor.{◌⊕◌}

infixl 68 ◌⊞◌
-- 3.2: the sum of two words, which drops the carry out of bit 31
abbrev pub ◌⊞◌ : ℕ → ℕ → ℕ
x ⊞ y = (x + y) % 2 ^ 32

-- 2.2.2: every bit inverted
abbrev pub not32 : ℕ → ℕ
not32 x = (2 ^ 32 - 1) - x

-- 3.2: ROTL^n, a rotation of a word to the left, n below 32
abbrev pub rotl : ℕ → ℕ → ℕ
rotl n x = bit_or ((x * 2 ^ n) % 2 ^ 32) (x / 2 ^ (32 - n))

-- 4.1.1: Ch, Parity and Maj
abbrev pub ch_of : ℕ → ℕ → ℕ → ℕ
ch_of x y z = bit_and x y ⊕ bit_and (not32 x) z

abbrev pub parity_of : ℕ → ℕ → ℕ → ℕ
parity_of x y z = x ⊕ y ⊕ z

abbrev pub maj_of : ℕ → ℕ → ℕ → ℕ
maj_of x y z = bit_and x y ⊕ bit_and x z ⊕ bit_and y z

-- 4.1.1: f_t, for t from 0 to 79
unfoldable pub f_of : ℕ → ℕ → ℕ → ℕ → ℕ
f_of t x y z = pick (ltb t 20) (ch_of x y z) (pick (ltb t 40) (parity_of x y z) (pick (ltb t 60) (maj_of x y z) (parity_of x y z)))

-- 4.2.1: K_t, for t from 0 to 79
unfoldable pub k_of : ℕ → ℕ
k_of t = pick (ltb t 20) 0x5a827999 (pick (ltb t 40) 0x6ed9eba1 (pick (ltb t 60) 0x8f1bbcdc 0xca62c1d6))
