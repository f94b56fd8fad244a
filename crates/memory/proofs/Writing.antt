-- Words put into memory: fields put one after the other.
use mathlib.Core.Path.{◌≡◌, sym, ap, ap₂, ◌∙◌}
use mathlib.Core.List.{List, [], ◌∷◌, ◌++◌, append_assoc, map}
use Prim.Native.Nat.{ℕ, ◌+◌, ◌≤◌}
use native.Mathlib.Omega.{arith}
use lib.ListN.{length, take, drop, length-append, take-append-drop}
use lib.Seq.{length-take-le, take_at, drop_at, drop-drop}
use Rattle.memory.specs.Parts.{with_part, total, join}
use Rattle.memory.proofs.Parts.{with-length, join-length}

-- ---- parts

-- two parts beside each other
next-to : (a : ℕ) (p q words : List ℕ) → a + length p ≤ length words → with_part (a + length p) q (with_part a p words) ≡ with_part a (p ++ q) words
next-to a p q words h =
    let b = a + length p in
    let w = with_part a p words in
    let l : length (take a words ++ p) ≡ b = length-append (take a words) p ∙ ap (λ (k : ℕ). k + length p) (length-take-le a words (omega arith)) in
    let s : w ≡ (take a words ++ p) ++ drop b words = sym (append_assoc (take a words) p (drop b words)) in
    let z : b + length q ≡ a + length (p ++ q) = omega (arith, length-append p q) in
    let d : drop (b + length q) w ≡ drop (a + length (p ++ q)) words =
    sym (drop-drop (length q) b w) ∙ ap (drop (length q)) (ap (drop b) s ∙ drop_at (take a words ++ p) (drop b words) b l)
    ∙ drop-drop (length q) b words ∙ ap (λ (k : ℕ). drop k words) z in
    ap₂ (λ (u v : List ℕ). u ++ (q ++ v)) (ap (take b) s ∙ take_at (take a words ++ p) (drop b words) b l) d
    ∙ append_assoc (take a words) p (q ++ drop (a + length (p ++ q)) words)
    ∙ ap (λ (r : List ℕ). take a words ++ r) (sym (append_assoc p q (drop (a + length (p ++ q)) words)))

-- the fields of a layout put one after the other, from place a on
abbrev pub puts : List ℕ → ℕ → List (List ℕ) → List ℕ → List ℕ
puts [] a fields words = words
puts (n ∷ layout) a [] words = words
puts (n ∷ layout) a (f ∷ fields) words = puts layout (a + n) fields (with_part a f words)

pub put_all : (layout : List ℕ) (fields : List (List ℕ)) → map length fields ≡ layout → (words : List ℕ) → total layout ≤ length words
    → puts layout 0 fields words ≡ with_part 0 (join fields) words
put_all layout fields e words h =
    ap (λ (l : List ℕ). puts l 0 fields words) (sym e) ∙ go fields 0 words (omega (arith, join-length layout fields e))
  where
    go : (fields : List (List ℕ)) (a : ℕ) (words : List ℕ) → a + length (join fields) ≤ length words → puts (map length fields) a fields words ≡ with_part a (join fields) words
    go [] a words h = let z : a ≡ a + 0 = omega arith in sym (take-append-drop a words) ∙ ap (λ (k : ℕ). take a words ++ drop k words) z
    go (f ∷ fields) a words h =
        let n = length-append f (join fields) in
        go fields (a + length f) (with_part a f words) (omega (arith, n, with-length a f words (omega (arith, n)))) ∙ next-to a f (join fields) words (omega (arith, n))

-- one more part, told of its words and of memory before it
pub then : (a : ℕ) {p q before now after : List ℕ} → after ≡ with_part a p now → p ≡ q → now ≡ before → after ≡ with_part a q before
then a e f g = e ∙ ap₂ (with_part a) f g
