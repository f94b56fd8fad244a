-- The sixteen words kept are those of FIPS 180-4's message schedule.
use Rattle.std.proofs.Common.{◌≡◌, ℕ, zero, suc, ◌+◌, ◌-◌, ◌<◌, ◌≤◌, List, [], ◌∷◌, ◌++◌, length, get_or, take, drop, sym, ap, ◌∙◌, ap₂, add-zero, add-suc, arith, length-append, length-drop, drop_of_length-le, get_or-drop, take_all, drop-cons, get_or-take, take-suc}
use lib.Bits.{bit_xor}
use lib.ListN.{get_or-append}
use lib.Seq.{get_or_at, take-append-le}
use Rattle.bits.specs.Xor.{◌⊕◌}
use Rattle.sha1_words.specs.Words.{rotl}
use Rattle.sha1_compress.specs.Hash.{next_word, schedule_of}
use Rattle.sha1_compress.specs.Steps.{kept_at, made_of, kept_after}

-- the n elements of w from i on
abbrev pub list_from : ℕ → ℕ → List ℕ → List ℕ
list_from zero i w = []
list_from (suc n) i w = get_or w i 0 ∷ list_from n (suc i) w

listed : (n i : ℕ) (w : List ℕ) → length w ≡ i + n → drop i w ≡ list_from n i w
listed zero i w h = drop_of_length-le w {i = i} (omega arith)
listed (suc n) i w h = drop-cons w i 0 (omega arith) ∙ ap (λ (l : List ℕ). get_or w i 0 ∷ l) (listed n (suc i) w (omega arith))

schedule-length : (m : List ℕ) (n : ℕ) → length (schedule_of m n) ≡ length m + n
unfolding schedule_of
schedule-length m zero = sym (add-zero (length m))
schedule-length m (suc n) = simp length-append (omega (arith, schedule-length m n))

-- a word of the schedule stays while further ones are made
schedule-keep : (m : List ℕ) (n j i : ℕ) → i < length m + n → get_or (schedule_of m (n + j)) i 0 ≡ get_or (schedule_of m n) i 0
unfolding schedule_of
schedule-keep m n zero i h = ap (λ (k : ℕ). get_or (schedule_of m k) i 0) (add-zero n)
schedule-keep m n (suc j) i h =
    ap (λ (k : ℕ). get_or (schedule_of m k) i 0) (add-suc n j)
    ∙ get_or-append (schedule_of m (n + j)) _ 0 i (omega (arith, schedule-length m (n + j)))
    ∙ schedule-keep m n j i h

whole-keep : (m : List ℕ) (n i : ℕ) → n ≤ 64 → i < length m + n → get_or (schedule_of m n) i 0 ≡ get_or (schedule_of m 64) i 0
whole-keep m n i b h =
    let e : n + (64 - n) ≡ 64 = omega arith in
    sym (schedule-keep m n (64 - n) i h) ∙ ap (λ (k : ℕ). get_or (schedule_of m k) i 0) e

schedule-last : (m : List ℕ) (n : ℕ) → length m ≡ 16 → get_or (schedule_of m (suc n)) (n + 16) 0 ≡ next_word (schedule_of m n) (n + 16)
unfolding schedule_of
schedule-last m n l = get_or_at (schedule_of m n) _ [] 0 (n + 16) (omega (arith, schedule-length m n))

-- words 16 to 79, each of the words before it
made : (m : List ℕ) (t : ℕ) → length m ≡ 16 → 16 ≤ t → t < 80 → next_word (schedule_of m 64) t ≡ get_or (schedule_of m 64) t 0
made m t l h b =
    let n = t - 16 in
    let e : n + 16 ≡ t = omega arith in
    let k : (i : ℕ) → i < t → get_or (schedule_of m 64) i 0 ≡ get_or (schedule_of m n) i 0 = λ i c. sym (whole-keep m n i (omega arith) (omega arith)) in
    ap (rotl 1)
    (ap₂ bit_xor
    (ap₂ bit_xor (ap₂ bit_xor (k (t - 3) (omega arith)) (k (t - 8) (omega arith))) (k (t - 14) (omega arith)))
    (k (t - 16) (omega arith)))
    ∙ ap (next_word (schedule_of m n)) (sym e)
    ∙ sym (schedule-last m n l)
    ∙ ap (λ (i : ℕ). get_or (schedule_of m (suc n)) i 0) e
    ∙ whole-keep m (suc n) t (omega arith) (omega arith)

-- words 0 to 15 are the block's own
schedule-front : (m : List ℕ) (n : ℕ) → take (length m) (schedule_of m n) ≡ m
unfolding schedule_of
schedule-front m zero = take_all (length m) m (omega arith)
schedule-front m (suc n) = take-append-le (length m) (schedule_of m n) _ (omega (arith, schedule-length m n)) ∙ schedule-front m n

pub kept-own : (m : List ℕ) → length m ≡ 16 → kept_at m 15 ≡ m
unfolding kept_at
kept-own m l = ap (λ (k : ℕ). take k (schedule_of m 64)) (sym l) ∙ schedule-front m 64

pub kept_word : (m : List ℕ) (t i : ℕ) → i < 16 → get_or (kept_at m t) i 0 ≡ get_or (schedule_of m 64) (t - 15 + i) 0
unfolding kept_at
kept_word m t i h = get_or-take 16 (drop (t - 15) (schedule_of m 64)) i 0 h ∙ get_or-drop (t - 15) (schedule_of m 64) i 0

-- making word t of the words kept, and letting word t - 16 go
module _ (m : List ℕ) (t : ℕ) (l : length m ≡ 16) (h : 16 ≤ t) (b : t < 80) (w : List ℕ) (e : w ≡ kept_at m (t - 1)) where
  next-of-kept : rotl 1 (get_or w 13 0 ⊕ get_or w 8 0 ⊕ get_or w 2 0 ⊕ get_or w 0 0) ≡ get_or (schedule_of m 64) t 0
  next-of-kept =
      let k : (i j : ℕ) → i < 16 → t - 1 - 15 + i ≡ j → get_or w i 0 ≡ get_or (schedule_of m 64) j 0 =
      λ i j c q. ap (λ (u : List ℕ). get_or u i 0) e ∙ kept_word m (t - 1) i c ∙ ap (λ (x : ℕ). get_or (schedule_of m 64) x 0) q in
      ap (rotl 1)
      (ap₂ bit_xor
      (ap₂ bit_xor (ap₂ bit_xor (k 13 (t - 3) (omega arith) (omega arith)) (k 8 (t - 8) (omega arith) (omega arith))) (k 2 (t - 14) (omega arith) (omega arith)))
      (k 0 (t - 16) (omega arith) (omega arith)))
      ∙ made m t l h b

  pub kept_next : made_of w ≡ kept_at m t
  unfolding kept_at
  kept_next =
      let W = schedule_of m 64 in
      let n = t - 16 in
      let e1 : t - 1 - 15 ≡ n = omega arith in
      let e2 : suc n ≡ t - 15 = omega arith in
      let e3 : t ≡ suc n + 15 = omega arith in
      let l_w : length W ≡ 80 = omega (arith, schedule-length m 64) in
      let ew : w ≡ take 16 (drop n W) = e ∙ ap (λ (k : ℕ). take 16 (drop k W)) e1 in
      let old : drop 1 w ≡ take 15 (drop (suc n) W) = ap (drop 1) (ew ∙ ap (take 16) (drop-cons W n 0 (omega arith))) in
      let new : rotl 1 (get_or w 13 0 ⊕ get_or w 8 0 ⊕ get_or w 2 0 ⊕ get_or w 0 0) ≡ get_or (drop (suc n) W) 15 0 = next-of-kept ∙ ap (λ (k : ℕ). get_or W k 0) e3 ∙ sym (get_or-drop (suc n) W 15 0) in
      ap₂ (λ (a : List ℕ) (y : ℕ). a ++ (y ∷ [])) old new
      ∙ sym (take-suc (drop (suc n) W) 15 0 (simp length-drop (omega arith)))
      ∙ ap (λ (k : ℕ). take 16 (drop k W)) e2

-- the words as the code writes them
pub shifted : (w : List ℕ) (x : ℕ) → length w ≡ 16 → x ≡ rotl 1 (get_or w 13 0 ⊕ get_or w 8 0 ⊕ get_or w 2 0 ⊕ get_or w 0 0) → list_from 15 1 w ++ (x ∷ []) ≡ made_of w
shifted w x l ex = ap₂ (λ (a : List ℕ) (y : ℕ). a ++ (y ∷ [])) (sym (listed 15 1 w l)) ex

kept-after : (m : List ℕ) (n : ℕ) → length m ≡ 16 → n ≤ 64 → kept_after m n ≡ kept_at m (n + 15)
unfolding kept_after
kept-after m zero l b = sym (kept-own m l)
kept-after m (suc n) l b =
    let e : n + 15 ≡ suc n + 15 - 1 = omega arith in
    ap made_of (kept-after m n l (omega arith)) ∙ kept_next m (suc n + 15) l (omega arith) (omega arith) (kept_at m (n + 15)) (ap (kept_at m) e)

pub kept : (m : List ℕ) (t : ℕ) → length m ≡ 16 → 15 ≤ t → t < 80 → kept_after m (t - 15) ≡ kept_at m t
kept m t l h b = let e : t - 15 + 15 ≡ t = omega arith in kept-after m (t - 15) l (omega arith) ∙ ap (kept_at m) e
