-- Bytes and the numbers they stand for, in network byte order: the highest byte first (RFC 3550, section 4; FIPS 180-4, section 3.1).
use Rattle.std.specs.Prelude.{List, [], ◌∷◌, ℕ, zero, suc, ◌+◌, ◌*◌, ◌/◌, ◌%◌, ◌^◌, length}

-- byte j of a number, counted from the lowest
abbrev pub byte_of : ℕ → ℕ → ℕ
byte_of j x = x / 2 ^ (8 * j) % 2 ^ 8

-- the n low bytes of a number, the highest first
abbrev pub to_bytes : ℕ → ℕ → List ℕ
to_bytes zero x = []
to_bytes (suc n) x = byte_of n x ∷ to_bytes n x

-- the number that a list of bytes, each below 256, is, the highest first
abbrev pub from_bytes : List ℕ → ℕ
from_bytes [] = 0
from_bytes (b ∷ l) = b * 2 ^ (8 * length l) + from_bytes l
