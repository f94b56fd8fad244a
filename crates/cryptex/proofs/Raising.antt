-- Bytes moved four places up from the last one on, and the four bytes put in below them.
use mathlib.Core.Path.{◌≡◌, sym, ap, ◌∙◌}
use mathlib.Core.List.{List, [], ◌∷◌, ◌++◌, append_assoc}
use Prim.Native.Nat.{ℕ, zero, suc, ◌+◌, ◌-◌, ◌≤◌, ◌<◌}
use native.Mathlib.Nat.{sub-zero, zero-sub, suc-sub-suc}
use native.Mathlib.Omega.{arith}
use lib.ListN.{length, take, drop, set, get_or, get_or-append}
use lib.Seq.{drop-drop, take-set-lt, get_or-take, set-append_left, take-append-le, take-take, take-nil, drop_at, length-take-le}
use Rattle.std.specs.List.{copy_within}
use Rattle.policies.specs.Cryptex.{with_block}
use Rattle.cryptex.specs.Steps.{raised_of}

pub copied-raised : (at n : ℕ) (l : List ℕ) → at ≤ n → copy_within l at n (at + 4) ≡ raised_of at n l
unfolding raised_of
copied-raised at n l h =
    let e : at + 4 + (n - at) ≡ n + 4 = omega arith in
    append_assoc (take (at + 4) l) (take (n - at) (drop at l)) (drop (at + 4 + (n - at)) l)
    ∙ ap (λ (k : ℕ). take (at + 4) l ++ (take (n - at) (drop at l) ++ drop k l)) e

-- ---- the four bytes

-- four bytes put in before the bytes from `at` up to n
abbrev inserted : ℕ → ℕ → List ℕ → List ℕ → List ℕ
inserted at n four l = take at l ++ (four ++ (take (n - at) (drop at l) ++ drop (n + 4) l))

-- what stands where the four are put
insert-four : (m n : ℕ) (l four : List ℕ) → m ≤ n → n + 4 ≤ length l
    → take m (raised_of m n l) ++ (four ++ drop 4 (drop m (raised_of m n l))) ≡ inserted m n four l
unfolding raised_of
insert-four m n l four h k =
    let t : length (take (m + 4) l) ≡ m + 4 = length-take-le (m + 4) l (omega arith) in
    let r : List ℕ = take (n - m) (drop m l) ++ drop (n + 4) l in
    rw (drop-drop 4 m (take (m + 4) l ++ r), take-append-le m (take (m + 4) l) r (omega (arith, t)), take-take m (m + 4) l (omega arith), drop_at (take (m + 4) l) r (m + 4) t)

pub drop-take : (a n : ℕ) (l : List ℕ) → drop a (take n l) ≡ take (n - a) (drop a l)
drop-take zero n l = ap (λ (k : ℕ). take k l) (sym (sub-zero n))
drop-take (suc a) zero l = ap (λ (k : ℕ). take k (drop (suc a) l)) (sym (zero-sub (suc a)))
drop-take (suc a) (suc n) [] = sym (take-nil (suc n - suc a))
drop-take (suc a) (suc n) (x ∷ l) = drop-take a n l ∙ ap (λ (k : ℕ). take k (drop a l)) (sym (suc-sub-suc n a))

module _ (l : List ℕ) (n m : ℕ) (some : 0 < m) (up : m ≤ n) (room : n + 4 ≤ length l) where
  abbrev four : List ℕ
  four = take m (raised_of m n l) ++ ((0xBE ∷ 0xDE ∷ 0x00 ∷ 0x00 ∷ []) ++ drop 4 (drop m (raised_of m n l)))

  stored : four ≡ inserted m n (0xBE ∷ 0xDE ∷ 0x00 ∷ 0x00 ∷ []) l
  stored = insert-four m n l (0xBE ∷ 0xDE ∷ 0x00 ∷ 0x00 ∷ []) up room

  front : length (take m l) ≡ m
  front = length-take-le m l (omega arith)

  pub first-kept : get_or four 0 0 ≡ get_or l 0 0
  first-kept =
      ap (λ (k : List ℕ). get_or k 0 0) stored
      ∙ get_or-append (take m l) ((0xBE ∷ 0xDE ∷ 0x00 ∷ 0x00 ∷ []) ++ (take (n - m) (drop m l) ++ drop (n + 4) l)) 0 0 (omega (arith, front))
      ∙ get_or-take m l 0 0 some

  pub block-added : set four 0 (get_or four 0 0 + 16) ≡ with_block (take n l) m ++ drop (n + 4) l
  block-added =
      rw (first-kept, stored, set-append_left (take m l) ((0xBE ∷ 0xDE ∷ 0x00 ∷ 0x00 ∷ []) ++ (take (n - m) (drop m l) ++ drop (n + 4) l)) 0 (get_or l 0 0 + 16) (omega (arith, front)), get_or-take n l 0 0 (omega arith), take-set-lt m (take n l) 0 (get_or l 0 0 + 16) some, take-take m n l up, drop-take m n l, append_assoc)
