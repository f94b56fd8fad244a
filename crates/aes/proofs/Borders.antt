-- The laws of the border: what was begun, and a block by its number.
use mathlib.Core.Path.{◌≡◌, refl, sym, ap, ap₂, subst}
use mathlib.Core.List.{List, [], ◌∷◌}
use Prim.Native.Nat.{ℕ, ◌/◌, ◌%◌}
use native.Mathlib.Nat.{div-one}
use lib.ListN.{get_or}
use Rattle.bits.specs.Xor.{◌⊕◌}
use Rattle.aes_tables.specs.Cipher.{at, state_of, bytes_of, add_round_key, cipher_of}
use Rattle.aes_tables.specs.Keys.{round_keys_of, aes128_of}
use Rattle.aes_begin.specs.declared.begin.Begun.{Begun}
use Rattle.aes_begin.specs.Steps.{Begins}
use Rattle.aes_begin.proofs.Beginning.{alike}
use Rattle.aes.specs.Blocks.{numbered_of, block_from, byte_from, Started}

-- ---- for callers

-- a block whose numbered starting block is known
pub block-of : (key start b : List ℕ) (j : ℕ) → numbered_of start j ≡ b → block_from key start j ≡ bytes_of (aes128_of (state_of key) (state_of b))
unfolding block_from
block-of key start b j e = ap (λ (x : List ℕ). bytes_of (aes128_of (state_of key) (state_of x))) e

pub byte-of : (key start : List ℕ) (k : ℕ) → byte_from key start k ≡ get_or (block_from key start (k / 16)) (k % 16) 0
unfolding byte_from
byte-of key start k = refl

-- ---- for the code behind it

-- what the cipher asks of a state before its first round
abbrev pub BegunFor : List (List (List ℕ)) → List (List ℕ) → Begun → Type 0
BegunFor keys block b = Begins (add_round_key block (get_or keys 0 [])) (get_or keys 1 []) (get_or keys 2 []) b

pub started : (keys : List (List (List ℕ))) (key block : List ℕ) (b : Begun) → keys ≡ round_keys_of (state_of key) → BegunFor keys (state_of block) b
    → Started key block b
started keys key block b e h = subst (λ (ks : List (List (List ℕ))). BegunFor ks (state_of block) b) e h

-- the starting block as the code numbers it
abbrev pub numbered : List ℕ → ℕ → ℕ → List (List ℕ)
numbered b x y =
    (get_or b 0 0 ∷ get_or b 1 0 ∷ get_or b 2 0 ∷ get_or b 3 0 ∷ [])
    ∷ (get_or b 4 0 ∷ get_or b 5 0 ∷ get_or b 6 0 ∷ get_or b 7 0 ∷ [])
    ∷ (get_or b 8 0 ∷ get_or b 9 0 ∷ get_or b 10 0 ∷ get_or b 11 0 ∷ [])
    ∷ (get_or b 12 0 ∷ get_or b 13 0 ∷ x ∷ y ∷ [])
    ∷ []

-- what was begun of the starting block was begun of each of its blocks
pub begun-of : (keys : List (List (List ℕ))) (key block : List ℕ) (b : Begun) (x y : ℕ) → keys ≡ round_keys_of (state_of key) → Started key block b
    → BegunFor keys (numbered block x y) b
begun-of keys key block b x y e h =
    let k = get_or keys 0 [] in
    alike (add_round_key (state_of block) k) (get_or keys 1 []) (get_or keys 2 []) b (x ⊕ at k 2 3) (y ⊕ at k 3 3)
    (subst (λ (ks : List (List (List ℕ))). BegunFor ks (state_of block) b) (sym e) h)

pub block-is : (keys : List (List (List ℕ))) (key start : List ℕ) (j : ℕ) → keys ≡ round_keys_of (state_of key)
    → bytes_of (cipher_of (numbered start (j / 256 % 256) (j % 256)) keys) ≡ block_from key start j
unfolding block_from
block-is keys key start j e =
    let n : numbered start (j / 256 % 256) (j % 256) ≡ state_of (numbered_of start j) = simp div-one in
    ap₂ (λ (s : List (List ℕ)) (ks : List (List (List ℕ))). bytes_of (cipher_of s ks)) n e
