-- Twenty bytes of digest; hashing from after the first block; and a digest that is hashed in turn.
use Rattle.std.proofs.Common.{◌≡◌, ℕ, ◌+◌, ◌/◌, ◌^◌, ◌<◌, List, [], ◌∷◌, ◌++◌, length, get_or, sym, refl, ap, ◌∙◌, ap₂, append_assoc, mod-eq_of_lt, arith, length-append}
use Rattle.bits.specs.BigEndian.{from_bytes, to_bytes}
use Rattle.bits.proofs.BigEndian.{from-to}
use Rattle.sha1_compress.specs.Message.{padding_of, pad_of, words_in}
use Rattle.sha1_compress.specs.Hash.{start_of, compress_of, blocks_of, digest_of, sha1_of}
use Rattle.sha1_compress.specs.Steps.{hash_from}
use Rattle.sha1_compress.proofs.Blocks.{blocks-add}

pub digest-length : (h : List ℕ) → length (digest_of h) ≡ 20
digest-length h = refl

pub sha1-length : (m : List ℕ) → length (sha1_of m) ≡ 20
unfolding sha1_of
sha1-length m = digest-length (blocks_of (length (pad_of m) / 64) start_of (pad_of m))

one_more : (a b : ℕ) → a ≡ 64 → (a + b) / 64 ≡ 1 + b / 64
one_more a b h = omega arith

-- a message whose first block is hashed already
pub hash-front : (x m : List ℕ) → length x ≡ 64 → sha1_of (x ++ m) ≡ digest_of (hash_from 64 (blocks_of 1 start_of x) m)
unfolding sha1_of pad_of hash_from
hash-front x m l =
    let n : length (x ++ m) ≡ 64 + length m = length-append x m ∙ ap (λ (k : ℕ). k + length m) l in
    let q : List ℕ = m ++ padding_of (64 + length m) in
    let e : (x ++ m) ++ padding_of (length (x ++ m)) ≡ x ++ q =
    ap (λ (k : ℕ). (x ++ m) ++ padding_of k) n ∙ append_assoc x m (padding_of (64 + length m)) in
    let k : length (x ++ q) / 64 ≡ 1 + length q / 64 = rw length-append (one_more (length x) (length q) l) in
    ap digest_of
    (ap (λ (u : List ℕ). blocks_of (length u / 64) start_of u) e
    ∙ ap (λ (i : ℕ). blocks_of i start_of (x ++ q)) k
    ∙ blocks-add 1 (length q / 64) start_of x q l)

-- a hash value that is hashed in turn, after one block: padded, it is one block
pub last-is : (h : List ℕ) → ((i : ℕ) → get_or h i 0 < 2 ^ 32)
    → get_or h 0 0 ∷ get_or h 1 0 ∷ get_or h 2 0 ∷ get_or h 3 0 ∷ get_or h 4 0 ∷ 0x80000000 ∷ 0 ∷ 0 ∷ 0 ∷ 0 ∷ 0 ∷ 0 ∷ 0 ∷ 0 ∷ 0 ∷ 672 ∷ []
    ≡ words_in 16 (digest_of h ++ padding_of 84)
unfolding words_in padding_of
last-is h f =
    let z : List ℕ = 0x80000000 ∷ 0 ∷ 0 ∷ 0 ∷ 0 ∷ 0 ∷ 0 ∷ 0 ∷ 0 ∷ 0 ∷ 672 ∷ [] in
    let w : ℕ → ℕ = λ i. from_bytes (to_bytes 4 (get_or h i 0)) in
    let e : (i : ℕ) → get_or h i 0 ≡ w i = λ i. sym (from-to 4 (get_or h i 0) ∙ mod-eq_of_lt (f i)) in
    ap₂ (λ (a b : ℕ). a ∷ b ∷ get_or h 2 0 ∷ get_or h 3 0 ∷ get_or h 4 0 ∷ z) (e 0) (e 1)
    ∙ ap₂ (λ (a b : ℕ). w 0 ∷ w 1 ∷ a ∷ b ∷ get_or h 4 0 ∷ z) (e 2) (e 3)
    ∙ ap (λ (a : ℕ). w 0 ∷ w 1 ∷ w 2 ∷ w 3 ∷ a ∷ z) (e 4)

pub last-hash : (o h : List ℕ) → hash_from 64 o (digest_of h) ≡ compress_of o (words_in 16 (digest_of h ++ padding_of 84))
unfolding hash_from blocks_of padding_of
last-hash o h = refl
