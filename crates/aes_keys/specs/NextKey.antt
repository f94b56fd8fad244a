-- One step of the key schedule (FIPS 197, 5.2). The standard has it a word at a time; the code makes a round key at a time.
use Rattle.std.specs.Prelude.{List, [], ◌∷◌, ℕ, get_or}
use Rattle.bits.specs.Xor.{xor_list}
use Rattle.aes_tables.specs.Keys.{sub_word, rot_word}

-- the round key after k, x being the first byte of its Rcon
unfoldable pub next_key_of : List (List ℕ) → ℕ → List (List ℕ)
next_key_of k x =
    let a = xor_list (get_or k 0 []) (xor_list (sub_word (rot_word (get_or k 3 []))) (x ∷ 0 ∷ 0 ∷ 0 ∷ [])) in
    let b = xor_list (get_or k 1 []) a in
    let c = xor_list (get_or k 2 []) b in
    let d = xor_list (get_or k 3 []) c in
    a ∷ b ∷ c ∷ d ∷ []
