-- The list that is hashed.
use mathlib.Core.Path.{◌≡◌, sym, ap, ap₂, ◌∙◌}
use mathlib.Core.List.{List, ◌++◌, append_assoc, append-nil}
use Prim.Native.Nat.{ℕ, ◌+◌, ◌-◌, ◌%◌, ◌≤◌}
use native.Mathlib.Omega.{arith}
use lib.ListN.{length, take, drop, replicate, length-append, length-replicate, length-drop}
use lib.Seq.{take-add, take_all}
use Rattle.ghash.specs.Ghash.{ghash_of, zeros_of, padded_of, lengths_of}
use Rattle.gcm_hash.specs.Hash.{hash_of}
use Rattle.gcm_hash.specs.Portion.{outside_of, inside_of}

-- ---- padding

pub padded-whole : (l : List ℕ) → length (padded_of l) % 16 ≡ 0
padded-whole l = simp (length-append, length-replicate) (omega arith)

-- whole blocks before a list do not change its padding
padded-after : (x l : List ℕ) → length x % 16 ≡ 0 → padded_of (x ++ l) ≡ x ++ padded_of l
padded-after x l h =
    let z : zeros_of (length (x ++ l)) ≡ zeros_of (length l) = rw length-append (omega arith) in
    ap (λ (n : ℕ). (x ++ l) ++ replicate n 0) z ∙ append_assoc x l (replicate (zeros_of (length l)) 0)

pub hashed-list : (a b c d e : List ℕ) → padded_of ((padded_of (a ++ b) ++ c) ++ d) ++ e ≡ padded_of (a ++ b) ++ (padded_of (c ++ d) ++ e)
hashed-list a b c d e =
    let x = padded_of (a ++ b) in
    ap (λ (l : List ℕ). padded_of l ++ e) (append_assoc x c d)
    ∙ ap (λ (l : List ℕ). l ++ e) (padded-after x (c ++ d) (padded-whole (a ++ b)))
    ∙ append_assoc x (padded_of (c ++ d)) e

-- what the code feeds is what GCM hashes
pub fed-is-hashed : (a b c d : List ℕ) (h : ℕ)
    → ghash_of h (padded_of ((padded_of (a ++ b) ++ c) ++ d) ++ lengths_of (length a + length b) (length c + length d)) ≡ hash_of h (a ++ b) (c ++ d)
unfolding hash_of
fed-is-hashed a b c d h =
    ap (ghash_of h) (hashed-list a b c d (lengths_of (length a + length b) (length c + length d)))
    ∙ ap₂ (λ (x y : ℕ). ghash_of h (padded_of (a ++ b) ++ (padded_of (c ++ d) ++ lengths_of x y))) (sym (length-append a b)) (sym (length-append c d))

-- ---- parts of a buffer, as the code cuts them

-- from the first place up to n; none; from n on
front : (n : ℕ) (l : List ℕ) → take (n - 0) (drop 0 l) ≡ take n l
front n l = let e : n - 0 ≡ n = omega arith in ap (λ (k : ℕ). take k l) e

back : (n : ℕ) (l : List ℕ) → take (length l - n) (drop n l) ≡ drop n l
back n l = take_all (length l - n) (drop n l) (simp length-drop (omega arith))

pub outside-cut : (first stop rest : ℕ) (l : List ℕ) → take (first - 0) (drop 0 l) ++ take (rest - stop) (drop stop l) ≡ outside_of first stop rest l
outside-cut first stop rest l = ap (λ (x : List ℕ). x ++ take (rest - stop) (drop stop l)) (front first l)

pub inside-cut : (first stop rest : ℕ) (l : List ℕ) → take (stop - first) (drop first l) ++ take (length l - rest) (drop rest l) ≡ inside_of first stop rest l
inside-cut first stop rest l = ap (λ (x : List ℕ). take (stop - first) (drop first l) ++ x) (back rest l)

-- nothing encrypted before the gap
pub outside-one : (first stop rest : ℕ) (l : List ℕ) → first ≡ stop → stop ≤ rest → take (rest - 0) (drop 0 l) ++ take (0 - 0) (drop 0 l) ≡ outside_of first stop rest l
outside-one first stop rest l e h =
    let whole : rest ≡ first + (rest - stop) = omega arith in
    append-nil (take (rest - 0) (drop 0 l))
    ∙ front rest l
    ∙ ap (λ (n : ℕ). take n l) whole
    ∙ take-add first (rest - stop) l
    ∙ ap (λ (n : ℕ). take first l ++ take (rest - stop) (drop n l)) e

pub inside_one : (first stop rest : ℕ) (l : List ℕ) → first ≡ stop → take (0 - 0) (drop 0 l) ++ take (length l - rest) (drop rest l) ≡ inside_of first stop rest l
inside_one first stop rest l e =
    let none : 0 ≡ stop - first = omega arith in
    back rest l ∙ ap (λ (n : ℕ). take n (drop first l) ++ drop rest l) none
