-- What the tables and the code's packed columns mean. Nothing here is FIPS 197's. Where a contract asks for a `SboxTable` or a `RoundTable`, the functions
-- `sbox` and `round_table` give one.
use Rattle.std.specs.Prelude.{◌≡◌, List, [], ◌∷◌, ℕ, ◌+◌, ◌-◌, ◌*◌, ◌%◌, ◌<◌, get_or}
use Rattle.bits.specs.BigEndian.{byte_of}
use Rattle.bits.specs.Lists.{tabulate}
use Rattle.aes_tables.specs.Field.{◌•◌}
use Rattle.aes_tables.specs.Cipher.{sbox_of}

-- the table has the S-box at each byte
pub record SboxTable (t : List ℕ) : Type 0 where
  pub entry : (k : ℕ) → k < 256 → get_or t k 0 ≡ sbox_of k

-- a column kept as one number, row 0 its lowest byte
abbrev pub unpack_of : ℕ → List ℕ
unpack_of w = tabulate 4 (λ r. byte_of r w)

-- What a byte s, after SubBytes, brings to its column in MixColumns, by the row that it stands in: the columns of the matrix of 5.1.3 times s.
abbrev pub row0_of : ℕ → List ℕ
row0_of s = 2 • s ∷ s ∷ s ∷ 3 • s ∷ []

abbrev pub row1_of : ℕ → List ℕ
row1_of s = 3 • s ∷ 2 • s ∷ s ∷ s ∷ []

abbrev pub row2_of : ℕ → List ℕ
row2_of s = s ∷ 3 • s ∷ 2 • s ∷ s ∷ []

abbrev pub row3_of : ℕ → List ℕ
row3_of s = s ∷ s ∷ 3 • s ∷ 2 • s ∷ []

-- the same by the number of the row: the matrix is cyclic, so its columns are turns of one another
abbrev pub row_of : ℕ → ℕ → List ℕ
row_of r s = tabulate 4 (λ i. get_or (row0_of s) ((i + (4 - r)) % 4) 0)

-- entry k, eight bytes, is row 0 for the S-box at k, twice over
pub record RoundTable (t : List ℕ) : Type 0 where
  pub entry : (k i : ℕ) → k < 256 → i < 8 → get_or t (8 * k + i) 0 ≡ get_or (row0_of (sbox_of k)) (i % 4) 0
