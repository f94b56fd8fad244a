-- FIPS 197 (2001), section 4: bytes as elements of the field GF(2^8). Their sum is the exclusive or, `◌⊕◌` (4.1).
-- A byte is a number below 256; for other numbers the definitions mean nothing.
use Rattle.std.specs.Prelude.{ℕ, zero, suc, ◌*◌, ◌/◌, ◌%◌}
use Rattle.bits.specs.Xor.{◌⊕◌}

-- 4.2.1, xtime: x times b, a left shift and, where bit 7 was set, an exclusive or with {1b}, which is m(x) = x^8 + x^4 + x^3 + x + 1 without x^8
abbrev pub xtime : ℕ → ℕ
xtime b = ((b % 128) * 2) ⊕ ((b / 128) * 0x1b)

-- 4.2.1: the sum, over the set bits i of a below n, of x^i times b
abbrev pub mul_bits : ℕ → ℕ → ℕ → ℕ
mul_bits zero a b = 0
mul_bits (suc n) a b = ((a % 2) * b) ⊕ mul_bits n (a / 2) (xtime b)

infixl 72 ◌•◌
-- 4.2: the product of two bytes
unfoldable pub ◌•◌ : ℕ → ℕ → ℕ
a • b = mul_bits 8 a b

-- b^2 • b^4 • .. • b^(2^n)
abbrev pub squares : ℕ → ℕ → ℕ
squares zero b = 1
squares (suc n) b = b • b • squares n (b • b)

-- 4.2: the multiplicative inverse, as b^254, so that 0 goes to 0; `Inverses` (Claims) says that it is one
unfoldable pub inverse_of : ℕ → ℕ
inverse_of b = squares 7 b
