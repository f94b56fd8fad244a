-- FIPS 197 (2001), section 5.1: the cipher. A state is four columns of four bytes (3.4), and a column is a word (3.5).
use Rattle.std.specs.Prelude.{List, [], ◌∷◌, ℕ, zero, suc, ◌+◌, ◌*◌, ◌/◌, ◌%◌, ◌^◌, get_or}
use Rattle.bits.specs.Lists.{tabulate}
use Rattle.bits.specs.Xor.{◌⊕◌, xor_list}
use Rattle.aes_tables.specs.Field.{◌•◌, inverse_of}

-- s[r, c]: the byte at row r and column c
abbrev pub at : List (List ℕ) → ℕ → ℕ → ℕ
at s r c = get_or (get_or s c []) r 0

-- the state whose byte at row r and column c is f r c
abbrev pub state : (ℕ → ℕ → ℕ) → List (List ℕ)
state f = tabulate 4 (λ c. tabulate 4 (λ r. f r c))

-- 3.4: sixteen bytes as a state, column after column, and back
abbrev pub state_of : List ℕ → List (List ℕ)
state_of b = state (λ r c. get_or b (4 * c + r) 0)

abbrev pub bytes_of : List (List ℕ) → List ℕ
bytes_of s = tabulate 16 (λ k. at s (k % 4) (k / 4))

-- bit i mod 8 of a byte, bit 0 the lowest
abbrev pub bit : ℕ → ℕ → ℕ
bit b i = b / 2 ^ (i % 8) % 2

-- 5.1.1, SubBytes: equation 5.1, bit i of the affine step, with c = {63}
abbrev pub affine_bit : ℕ → ℕ → ℕ
affine_bit b i = bit b i ⊕ bit b (i + 4) ⊕ bit b (i + 5) ⊕ bit b (i + 6) ⊕ bit b (i + 7) ⊕ bit 0x63 i

-- the n low bits of the affine step, as a number; the whole byte for n = 8
abbrev pub affine_bits : ℕ → ℕ → ℕ
affine_bits zero b = 0
affine_bits (suc n) b = affine_bit b n * 2 ^ n + affine_bits n b

-- 5.1.1: the S-box, the inverse and then the affine step
unfoldable pub sbox_of : ℕ → ℕ
sbox_of b = affine_bits 8 (inverse_of b)

abbrev pub sub_bytes : List (List ℕ) → List (List ℕ)
sub_bytes s = state (λ r c. sbox_of (at s r c))

-- 5.1.2, ShiftRows: equation 5.3, row r moves cyclically by r columns, towards column 0
abbrev pub shift_rows : List (List ℕ) → List (List ℕ)
shift_rows s = state (λ r c. at s r ((c + r) % 4))

-- 5.1.3, MixColumns: the matrix of 5.6, written out for the four bytes of a column
abbrev pub mix_column : ℕ → ℕ → ℕ → ℕ → List ℕ
mix_column s0 s1 s2 s3 =
    (2 • s0) ⊕ (3 • s1) ⊕ s2 ⊕ s3
    ∷ s0 ⊕ (2 • s1) ⊕ (3 • s2) ⊕ s3
    ∷ s0 ⊕ s1 ⊕ (2 • s2) ⊕ (3 • s3)
    ∷ (3 • s0) ⊕ s1 ⊕ s2 ⊕ (2 • s3)
    ∷ []

abbrev pub mix_columns : List (List ℕ) → List (List ℕ)
mix_columns s = tabulate 4 (λ c. mix_column (at s 0 c) (at s 1 c) (at s 2 c) (at s 3 c))

-- 5.1.4, AddRoundKey: equation 5.7, each column with a word of the round key
abbrev pub add_round_key : List (List ℕ) → List (List ℕ) → List (List ℕ)
add_round_key s k = tabulate 4 (λ c. xor_list (get_or s c []) (get_or k c []))

-- 5.1, figure 5: a round, and the last round, which mixes no columns
unfoldable pub round_of : List (List ℕ) → List (List ℕ) → List (List ℕ)
round_of s k = add_round_key (mix_columns (shift_rows (sub_bytes s))) k

unfoldable pub last_round_of : List (List ℕ) → List (List ℕ) → List (List ℕ)
last_round_of s k = add_round_key (shift_rows (sub_bytes s)) k

-- rounds 1 to n from the state s, with the round keys ks
unfoldable pub rounds_of : List (List ℕ) → List (List (List ℕ)) → ℕ → List (List ℕ)
rounds_of s ks zero = s
rounds_of s ks (suc n) = round_of (rounds_of s ks n) (get_or ks (suc n) [])

-- 5.1, figure 5: Cipher, with Nr = 10
unfoldable pub cipher_of : List (List ℕ) → List (List (List ℕ)) → List (List ℕ)
cipher_of s ks = last_round_of (rounds_of (add_round_key s (get_or ks 0 [])) ks 9) (get_or ks 10 [])
