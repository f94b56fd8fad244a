-- What the columns are that blocks have in common after each of the first two rounds. Nothing here is FIPS 197's.
use Rattle.std.specs.Prelude.{◌≡◌, List, ℕ, get_or}
use Rattle.bits.specs.Lists.{tabulate}
use Rattle.bits.specs.Xor.{xor_list}
use Rattle.aes_tables.specs.Cipher.{sbox_of, at}
use Rattle.aes_tables.specs.Tables.{unpack_of, row0_of, row1_of, row2_of, row3_of}

-- the word of a round key at column c, spelt out
abbrev pub key_word : List (List ℕ) → ℕ → List ℕ
key_word k c = tabulate 4 (λ r. at k r c)

-- Two rounds of the blocks that differ in their last two bytes, from the state s. In the first round each of the two reaches one column: columns 0 and 1
-- lack what it brings. Columns 2 and 3, u and v, are whole. In the second round every column lacks what columns 0 and 1 bring.
pub record FirstColumns (s k : List (List ℕ)) (c : List ℕ) : Type 0 where
  pub column0 : unpack_of (get_or c 0 0)
      ≡ xor_list (xor_list (xor_list (row0_of (sbox_of (at s 0 0))) (row1_of (sbox_of (at s 1 1)))) (row2_of (sbox_of (at s 2 2)))) (key_word k 0)
  pub column1 : unpack_of (get_or c 1 0)
      ≡ xor_list (xor_list (xor_list (row0_of (sbox_of (at s 0 1))) (row1_of (sbox_of (at s 1 2)))) (row3_of (sbox_of (at s 3 0)))) (key_word k 1)

pub record SecondColumns (u v : List ℕ) (k : List (List ℕ)) (c : List ℕ) : Type 0 where
  pub column0 : unpack_of (get_or c 0 0) ≡ xor_list (xor_list (row2_of (sbox_of (get_or u 2 0))) (row3_of (sbox_of (get_or v 3 0)))) (key_word k 0)
  pub column1 : unpack_of (get_or c 1 0) ≡ xor_list (xor_list (row1_of (sbox_of (get_or u 1 0))) (row2_of (sbox_of (get_or v 2 0)))) (key_word k 1)
  pub column2 : unpack_of (get_or c 2 0) ≡ xor_list (xor_list (row0_of (sbox_of (get_or u 0 0))) (row1_of (sbox_of (get_or v 1 0)))) (key_word k 2)
  pub column3 : unpack_of (get_or c 3 0) ≡ xor_list (xor_list (row0_of (sbox_of (get_or v 0 0))) (row3_of (sbox_of (get_or u 3 0)))) (key_word k 3)
