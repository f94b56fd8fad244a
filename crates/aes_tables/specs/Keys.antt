-- FIPS 197 (2001), section 5.2: KeyExpansion for a key of four words (Nk = 4, Nb = 4, Nr = 10: figure 4), and AES-128 as a whole.
use Rattle.std.specs.Prelude.{List, [], ◌∷◌, ◌++◌, ℕ, zero, suc, ◌+◌, ◌-◌, ◌*◌, ◌/◌, ◌%◌, eqb, get_or}
use Rattle.bits.specs.Lists.{tabulate}
use Rattle.bits.specs.Pick.{pick}
use Rattle.bits.specs.Xor.{xor_list}
use Rattle.aes_tables.specs.Field.{◌•◌}
use Rattle.aes_tables.specs.Cipher.{sbox_of, cipher_of}

-- SubWord: each byte through the S-box
abbrev pub sub_word : List ℕ → List ℕ
sub_word a = tabulate 4 (λ r. sbox_of (get_or a r 0))

-- RotWord: [a0, a1, a2, a3] to [a1, a2, a3, a0]
abbrev pub rot_word : List ℕ → List ℕ
rot_word a = tabulate 4 (λ r. get_or a ((r + 1) % 4) 0)

-- x^n in the field, x being {02}
abbrev pub pow_x : ℕ → ℕ
pow_x zero = 1
pow_x (suc n) = 2 • pow_x n

-- Rcon[i] = [x^(i - 1), {00}, {00}, {00}], for i from 1 on
abbrev pub rcon : ℕ → List ℕ
rcon i = pow_x (i - 1) ∷ 0 ∷ 0 ∷ 0 ∷ []

-- figure 11: temp at word i, made of w[i - 1]
abbrev pub temp_of : List ℕ → ℕ → List ℕ
temp_of last i = pick (eqb (i % 4) 0) (xor_list (sub_word (rot_word last)) (rcon (i / 4))) last

-- figure 11: w[i], of the words before it
abbrev pub word_of : List (List ℕ) → ℕ → List ℕ
word_of w i = xor_list (get_or w (i - 4) []) (temp_of (get_or w (i - 1) []) i)

-- figure 11: the first 4 + n words, for a key of four words
unfoldable pub words_of : List (List ℕ) → ℕ → List (List ℕ)
words_of key zero = key
words_of key (suc n) = words_of key n ++ (word_of (words_of key n) (n + 4) ∷ [])

-- 5.1.4: the round key of round i is the words 4 i to 4 i + 3 of the schedule w
abbrev pub round_key_of : List (List ℕ) → ℕ → List (List ℕ)
round_key_of w i = tabulate 4 (λ c. get_or w (4 * i + c) [])

-- the eleven round keys, of 44 words
unfoldable pub round_keys_of : List (List ℕ) → List (List (List ℕ))
round_keys_of key = tabulate 11 (λ i. round_key_of (words_of key 40) i)

-- AES-128 of a key and a block, each as four words of four bytes: word i has the bytes 4 i to 4 i + 3 (3.4, 5.2)
abbrev pub aes128_of : List (List ℕ) → List (List ℕ) → List (List ℕ)
aes128_of key block = cipher_of block (round_keys_of key)
