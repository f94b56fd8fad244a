-- What is claimed of the definitions of FIPS 197 (2001), sections 4.2 and 5.1.1, themselves.
use Rattle.std.specs.Prelude.{◌≡◌, ℕ, ◌<◌}
use Rattle.aes_tables.specs.Field.{◌•◌, inverse_of}

-- FIPS 197, 4.2: the inverse is a byte, and a byte other than 0 times its inverse is 1; 5.1.1: 0 is mapped to itself
pub record Inverses : Type 0 where
  pub zero-stays : inverse_of 0 ≡ 0
  pub byte : (b : ℕ) → b < 256 → inverse_of b < 256
  pub product : (b : ℕ) → 0 < b → b < 256 → b • inverse_of b ≡ 1
