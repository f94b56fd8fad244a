-- The laws of parts, for any words and any part.
use mathlib.Core.Path.{◌≡◌, refl, sym, ap, ap₂, ◌∙◌}
use mathlib.Core.List.{List, [], ◌∷◌, ◌++◌, append-nil, append_assoc, map}
use Prim.Native.Nat.{ℕ, zero, suc, ◌+◌, ◌-◌, ◌*◌, ◌≤◌, ◌<◌}
use native.Mathlib.Decide.{dec_lt}
use native.Mathlib.Nat.{mul-suc, mul-le-mul_left}
use native.Mathlib.Omega.{arith}
use lib.ListN.{length, get_or, set, take, drop, length-append, length-drop, take-append-drop}
use lib.Seq.{length-take-le, get_or-take, get_or-drop, take_all, take_at, drop_at, take-add, take-take, drop-drop, take-append-le, drop-append-le, set_split, get_or-set_other}
use Rattle.memory.specs.Parts.{part_at, with_part, cells_of, total, place_in, cut, join}

-- ---- what the borrow checker says of a lent part

-- `&words[a..e]`
pub lent : (a e n : ℕ) (words : List ℕ) → e ≡ a + n → take (e - a) (drop a words) ≡ part_at a n words
lent a e n words h = let z : e - a ≡ n = omega arith in rw z

-- `&mut words[a..e]`, come back as m
pub came-back : (a e : ℕ) (words m : List ℕ) → e ≡ a + length m → take a words ++ (m ++ drop (e - a) (drop a words)) ≡ with_part a m words
came-back a e words m h =
    let z : a + (e - a) ≡ a + length m = omega arith in
    ap (λ (r : List ℕ). take a words ++ (m ++ r)) (drop-drop (e - a) a words ∙ ap (λ (k : ℕ). drop k words) z)

-- a store
pub stored : (words : List ℕ) (a x : ℕ) → a < length words → set words a x ≡ with_part a (x ∷ []) words
stored words a x h =
    let z : suc a ≡ a + 1 = omega arith in
    set_split words a x h ∙ ap (λ (k : ℕ). take a words ++ (x ∷ drop k words)) z

-- ---- one part

-- all before a part, and all from a place before it on
pub take-with : (n a : ℕ) (p words : List ℕ) → n ≤ a → a ≤ length words → take n (with_part a p words) ≡ take n words
take-with n a p words h i =
    take-append-le n (take a words) (p ++ drop (a + length p) words) (omega (arith, length-take-le a words i)) ∙ take-take n a words h

drop-take : (n q : ℕ) (l : List ℕ) → n ≤ length l → drop n (take (n + q) l) ≡ take q (drop n l)
drop-take n q l h = ap (drop n) (take-add n q l) ∙ drop_at (take n l) (take q (drop n l)) n (length-take-le n l h)

pub drop-with : (n q : ℕ) (p words : List ℕ) → n + q ≤ length words → drop n (with_part (n + q) p words) ≡ with_part q p (drop n words)
drop-with n q p words h =
    let z : n + (q + length p) ≡ n + q + length p = omega arith in
    drop-append-le n (take (n + q) words) (p ++ drop (n + q + length p) words) (omega (arith, length-take-le (n + q) words h))
    ∙ ap₂ (λ (u v : List ℕ). u ++ (p ++ v)) (drop-take n q words (omega arith)) (sym (drop-drop (q + length p) n words ∙ ap (λ (k : ℕ). drop k words) z))

-- length kept
pub with-length : (a : ℕ) (p words : List ℕ) → a + length p ≤ length words → length (with_part a p words) ≡ length words
with-length a p words h =
    simp length-append (omega (arith, length-take-le a words (omega arith), length-drop (a + length p) words))

-- read back
-- two parts, one before the other, in either order
module _ (a : ℕ) (p : List ℕ) where
  whole_with : (words : List ℕ) → with_part a p words ≡ (take a words ++ p) ++ drop (a + length p) words
  whole_with words = sym (append_assoc (take a words) p (drop (a + length p) words))

  with-front : (words : List ℕ) → a ≤ length words → length (take a words ++ p) ≡ a + length p
  with-front words h = length-append (take a words) p ∙ ap (λ (k : ℕ). k + length p) (length-take-le a words h)

  take_past : (words : List ℕ) → a ≤ length words → take (a + length p) (with_part a p words) ≡ take a words ++ p
  take_past words h = ap (take (a + length p)) (whole_with words) ∙ take_at (take a words ++ p) (drop (a + length p) words) (a + length p) (with-front words h)

  drop_past : (words : List ℕ) → a ≤ length words → drop (a + length p) (with_part a p words) ≡ drop (a + length p) words
  drop_past words h = ap (drop (a + length p)) (whole_with words) ∙ drop_at (take a words ++ p) (drop (a + length p) words) (a + length p) (with-front words h)

  pub parts-apart : (b : ℕ) (q words : List ℕ) → a + length p ≤ b → b + length q ≤ length words → with_part a p (with_part b q words) ≡ with_part b q (with_part a p words)
  parts-apart b q words h i =
      let n : ℕ = a + length p in
      let k : ℕ = b - n in
      let z : n + k ≡ b = omega arith in
      let l : length (with_part b q words) ≡ length words = with-length b q words i in
      let m : length (with_part a p words) ≡ length words = with-length a p words (omega arith) in
      let past : (l : List ℕ) → b ≤ length l → drop n (with_part b q l) ≡ with_part k q (drop n l)
      = λ l g. ap (λ (c : ℕ). drop n (with_part c q l)) (sym z) ∙ drop-with n k q l (omega arith) in
      sym (take-append-drop n (with_part a p (with_part b q words)))
      ∙ ap₂ (λ (u v : List ℕ). u ++ v)
      (take_past (with_part b q words) (omega arith) ∙ ap (λ (u : List ℕ). u ++ p) (take-with a b q words (omega arith) (omega arith))
      ∙ sym (take_past words (omega arith)) ∙ sym (take-with n b q (with_part a p words) (omega arith) (omega arith)))
      (drop_past (with_part b q words) (omega arith) ∙ past words (omega arith) ∙ ap (with_part k q) (sym (drop_past words (omega arith))) ∙ sym (past (with_part a p words) (omega arith)))
      ∙ take-append-drop n (with_part b q (with_part a p words))

pub read_back : (a n : ℕ) (p words : List ℕ) → a ≤ length words → length p ≡ n → part_at a n (with_part a p words) ≡ p
read_back a n p words h e =
    ap (take n) (drop_at (take a words) (p ++ drop (a + length p) words) a (length-take-le a words h)) ∙ take_at p (drop (a + length p) words) n e

-- a part that ends before it
pub before-it : (b m a : ℕ) (p words : List ℕ) → b + m ≤ a → a ≤ length words → part_at b m (with_part a p words) ≡ part_at b m words
before-it b m a p words h i =
    let q : b + (a - b) ≡ a = omega arith in
    let l : length (drop b words) ≡ length words - b = length-drop b words in
    ap (λ (k : ℕ). take m (drop b (with_part k p words))) (sym q)
    ∙ ap (take m) (drop-with b (a - b) p words (omega arith))
    ∙ take-with m (a - b) p (drop b words) (omega arith) (omega arith)

-- a part that begins after it
pub after-it : (b m a : ℕ) (p words : List ℕ) → a + length p ≤ b → a ≤ length words → part_at b m (with_part a p words) ≡ part_at b m words
after-it b m a p words h i =
    let q : length (take a words ++ p) ≡ a + length p = length-append (take a words) p ∙ ap (λ (k : ℕ). k + length p) (length-take-le a words i) in
    let r : a + length p + (b - (a + length p)) ≡ b = omega arith in
    ap (take m)
    (ap₂ drop (sym r) (sym (append_assoc (take a words) p (drop (a + length p) words)))
    ∙ sym (drop-drop (b - (a + length p)) (a + length p) ((take a words ++ p) ++ drop (a + length p) words))
    ∙ ap (drop (b - (a + length p))) (drop_at (take a words ++ p) (drop (a + length p) words) (a + length p) q)
    ∙ drop-drop (b - (a + length p)) (a + length p) words
    ∙ ap (λ (k : ℕ). drop k words) r)

-- a word of a part
pub part-word : (a n j : ℕ) (words : List ℕ) → j < n → get_or (part_at a n words) j 0 ≡ get_or words (a + j) 0
part-word a n j words h = get_or-take n (drop a words) j 0 h ∙ get_or-drop a words j 0

-- ---- a part of a part

pub part_of : (a n b m : ℕ) (words : List ℕ) → b + m ≤ n → part_at b m (part_at a n words) ≡ part_at (a + b) m words
part_of a n b m words h = go
  where
    -- by what is left after b
    r : b + (n - b) ≡ n
    r = omega arith

    front_of : (l : List ℕ) → take m (drop b (take n l)) ≡ take m (drop b l)
    front_of l =
        elim (dec_lt (length l) b) [
          | yes p ↦
              let s : take n l ≡ l = take_all n l (omega arith) in
              ap (λ (k : List ℕ). take m (drop b k)) s
          | no p ↦
              ap (λ (k : ℕ). take m (drop b (take k l))) (sym r)
              ∙ ap (take m) (drop-take b (n - b) l (omega arith))
              ∙ take-take m (n - b) (drop b l) (omega arith)
        ]

    go : take m (drop b (take n (drop a words))) ≡ take m (drop (a + b) words)
    go = front_of (drop a words) ∙ ap (take m) (drop-drop b a words)

pub put-in-part : (a n b : ℕ) (p words : List ℕ) → b + length p ≤ n → a + n ≤ length words
    → with_part a (with_part b p (part_at a n words)) words ≡ with_part (a + b) p words
put-in-part a n b p words h i =
    let d : length (drop a words) ≡ length words - a = length-drop a words in
    let l : length (take n (drop a words)) ≡ n = length-take-le n (drop a words) (omega arith) in
    let w : length (with_part b p (part_at a n words)) ≡ n = with-length b p (part_at a n words) (omega arith) ∙ l in
    let z : a + b + length p ≡ a + (b + length p) = omega arith in
    let r : b + length p + (n - (b + length p)) ≡ n = omega arith in
    let t : take b (take n (drop a words)) ≡ take b (drop a words) = take-take b n (drop a words) (omega arith) in
    let tail : drop (b + length p) (take n (drop a words)) ++ drop (a + n) words ≡ drop (a + b + length p) words =
    ap₂ (λ (u v : List ℕ). u ++ v)
    (ap (λ (k : ℕ). drop (b + length p) (take k (drop a words))) (sym r) ∙ drop-take (b + length p) (n - (b + length p)) (drop a words) (omega arith))
    (sym (drop-drop (n - (b + length p)) (b + length p) (drop a words) ∙ ap (λ (k : ℕ). drop k (drop a words)) r ∙ drop-drop n a words))
    ∙ take-append-drop (n - (b + length p)) (drop (b + length p) (drop a words))
    ∙ drop-drop (b + length p) a words
    ∙ ap (λ (k : ℕ). drop k words) (sym z) in
    ap (λ (k : ℕ). take a words ++ (with_part b p (part_at a n words) ++ drop (a + k) words)) w
    ∙ ap (λ (k : List ℕ). take a words ++ k)
    (append_assoc (take b (take n (drop a words))) (p ++ drop (b + length p) (take n (drop a words))) (drop (a + n) words)
    ∙ ap₂ (λ (u v : List ℕ). u ++ v) t (append_assoc p (drop (b + length p) (take n (drop a words))) (drop (a + n) words) ∙ ap (λ (k : List ℕ). p ++ k) tail))
    ∙ sym (append_assoc (take a words) (take b (drop a words)) (p ++ drop (a + b + length p) words))
    ∙ ap (λ (k : List ℕ). k ++ (p ++ drop (a + b + length p) words)) (sym (take-add a b words))

-- ---- cells

module _ {A : Type 0} (e : ℕ) (f : List ℕ → A) where
  pub cells-length : (n : ℕ) (words : List ℕ) → length (cells_of e n f words) ≡ n
  unfolding cells_of
  cells-length zero words = refl
  cells-length (suc n) words = ap suc (cells-length n (drop e words))

  pub cell-at : (n : ℕ) (words : List ℕ) (i : ℕ) (d : A) → i < n → get_or (cells_of e n f words) i d ≡ f (part_at (e * i) e words)
  unfolding cells_of
  cell-at zero words i d h = absurd (omega arith)
  cell-at (suc n) words zero d h = let z : e * 0 ≡ 0 = omega arith in rw z
  cell-at (suc n) words (suc i) d h =
      let z : e + e * i ≡ e * suc i = omega (arith, mul-suc e i) in
      cell-at n (drop e words) i d (omega arith) ∙ ap (λ (m : List ℕ). f (take e m)) (drop-drop (e * i) e words ∙ ap (λ (k : ℕ). drop k words) z)

  -- one cell stored: the others stay
  pub cell-stored : (n : ℕ) (words : List ℕ) (i : ℕ) (p : List ℕ) → i < n → length p ≡ e → e * n ≤ length words
      → cells_of e n f (with_part (e * i) p words) ≡ set (cells_of e n f words) i (f p)
  unfolding cells_of
  cell-stored zero words i p h l b = absurd (omega arith)
  cell-stored (suc n) words zero p h l b =
      let z : e * 0 ≡ 0 = omega arith in
      rw z
      (ap₂ (λ (u v : List ℕ). f u ∷ cells_of e n f v)
      (take_at p (drop (0 + length p) words) e l)
      (drop_at p (drop (0 + length p) words) e l ∙ ap (λ (k : ℕ). drop k words) (let y : 0 + length p ≡ e = omega arith in y)))
  cell-stored (suc n) words (suc i) p h l b =
      let z : e * suc i ≡ e + e * i = omega (arith, mul-suc e i) in
      let y : e * suc n ≡ e + e * n = omega (arith, mul-suc e n) in
      let m : e * i ≤ e * n = mul-le-mul_left e (let k : i ≤ n = omega arith in k) in
      let d : length (drop e words) ≡ length words - e = length-drop e words in
      ap (λ (k : ℕ). cells_of e (suc n) f (with_part k p words)) z
      ∙ ap₂ (λ (u v : List ℕ). f u ∷ cells_of e n f v) (take-with e (e + e * i) p words (omega arith) (omega arith)) (drop-with e (e * i) p words (omega arith))
      ∙ ap (λ (r : List A). f (take e words) ∷ r) (cell-stored n (drop e words) i p (omega arith) l (omega arith))

  pub other-cell : (n : ℕ) (words : List ℕ) (i j : ℕ) (p : List ℕ) (d : A) → i < n → length p ≡ e → e * n ≤ length words → (j ≡ i → ⊥)
      → get_or (cells_of e n f (with_part (e * i) p words)) j d ≡ get_or (cells_of e n f words) j d
  other-cell n words i j p d h l b o =
      ap (λ (r : List A). get_or r j d) (cell-stored n words i p h l b) ∙ get_or-set_other (cells_of e n f words) i j (f p) d o

  -- a part of a cell stored, at place b in the cell
  pub field_stored : (n : ℕ) (words : List ℕ) (i b : ℕ) (p : List ℕ) → i < n → b + length p ≤ e → e * n ≤ length words
      → cells_of e n f (with_part (e * i + b) p words) ≡ set (cells_of e n f words) i (f (with_part b p (part_at (e * i) e words)))
  field_stored n words i b p h l k =
      let y : e * suc i ≡ e + e * i = omega (arith, mul-suc e i) in
      let m : e * suc i ≤ e * n = mul-le-mul_left e h in
      let d : length (drop (e * i) words) ≡ length words - e * i = length-drop (e * i) words in
      let t : length (part_at (e * i) e words) ≡ e = length-take-le e (drop (e * i) words) (omega arith) in
      let w : length (with_part b p (part_at (e * i) e words)) ≡ e = with-length b p (part_at (e * i) e words) (omega arith) ∙ t in
      ap (cells_of e n f) (sym (put-in-part (e * i) e b p words l (omega arith))) ∙ cell-stored n words i (with_part b p (part_at (e * i) e words)) h w k

-- ---- fields

-- fields joined are cut again, whatever follows them
pub cut-joined : (layout : List ℕ) (fields : List (List ℕ)) (rest : List ℕ) → map length fields ≡ layout → cut layout (join fields ++ rest) ≡ fields
cut-joined layout fields rest e = rw (sym e) (go fields)
  where
    go : (fields : List (List ℕ)) → cut (map length fields) (join fields ++ rest) ≡ fields
    go [] = refl
    go (f ∷ fields) =
        let a = append_assoc f (join fields) rest in
        ap₂ (λ (u : List ℕ) (v : List (List ℕ)). u ∷ v) (ap (take (length f)) a ∙ take_at f (join fields ++ rest) (length f) refl)
        (ap (λ (l : List ℕ). cut (map length fields) (drop (length f) l)) a ∙ ap (cut (map length fields)) (drop_at f (join fields ++ rest) (length f) refl) ∙ go fields)

pub cut-join : (layout : List ℕ) (fields : List (List ℕ)) → map length fields ≡ layout → cut layout (join fields) ≡ fields
cut-join layout fields e = ap (cut layout) (sym (append-nil (join fields))) ∙ cut-joined layout fields [] e

pub join-length : (layout : List ℕ) (fields : List (List ℕ)) → map length fields ≡ layout → length (join fields) ≡ total layout
join-length layout fields e = rw (sym e) (go fields)
  where
    go : (fields : List (List ℕ)) → length (join fields) ≡ total (map length fields)
    go [] = refl
    go (f ∷ fields) = length-append f (join fields) ∙ ap (λ (k : ℕ). length f + k) (go fields)

pub field-inside : (layout : List ℕ) (k : ℕ) → k < length layout → place_in layout k + get_or layout k 0 ≤ total layout
field-inside [] k h = absurd (omega arith)
field-inside (n ∷ layout) zero h = omega arith
field-inside (n ∷ layout) (suc k) h = omega (arith, field-inside layout k (let i : k < length layout = omega arith in i))

-- a field is the part at its place
pub field-read : (layout : List ℕ) (k : ℕ) (words : List ℕ) → k < length layout → get_or (cut layout words) k [] ≡ part_at (place_in layout k) (get_or layout k 0) words
field-read [] k words h = absurd (omega arith)
field-read (n ∷ layout) zero words h = refl
field-read (n ∷ layout) (suc k) words h =
    field-read layout k (drop n words) (omega arith) ∙ ap (take (get_or layout k 0)) (drop-drop (place_in layout k) n words)

-- one field stored: the others stay
pub field_put : (layout : List ℕ) (k : ℕ) (p words : List ℕ) → k < length layout → length p ≡ get_or layout k 0 → total layout ≤ length words
    → cut layout (with_part (place_in layout k) p words) ≡ set (cut layout words) k p
field_put [] k p words h l b = absurd (omega arith)
field_put (n ∷ layout) zero p words h l b =
    ap₂ (λ (u v : List ℕ). u ∷ cut layout v)
    (take_at p (drop (0 + length p) words) n l)
    (drop_at p (drop (0 + length p) words) n l ∙ ap (λ (k : ℕ). drop k words) (let y : 0 + length p ≡ n = omega arith in y))
field_put (n ∷ layout) (suc k) p words h l b =
    let d : length (drop n words) ≡ length words - n = length-drop n words in
    let q = field-inside layout k (let j : k < length layout = omega arith in j) in
    ap₂ (λ (u v : List ℕ). u ∷ cut layout v) (take-with n (n + place_in layout k) p words (omega arith) (omega arith)) (drop-with n (place_in layout k) p words (omega arith))
    ∙ ap (λ (r : List (List ℕ)). take n words ∷ r) (field_put layout k p (drop n words) (omega arith) l (omega arith))

-- a word of a field
pub field-word : (layout : List ℕ) (k j : ℕ) (words : List ℕ) → k < length layout → j < get_or layout k 0
    → get_or (get_or (cut layout words) k []) j 0 ≡ get_or words (place_in layout k + j) 0
field-word layout k j words h i =
    ap (λ (f : List ℕ). get_or f j 0) (field-read layout k words h) ∙ part-word (place_in layout k) (get_or layout k 0) j words i

-- what is stored behind a layout's words leaves its fields
pub cut-before : (layout : List ℕ) (a : ℕ) (p words : List ℕ) → total layout ≤ a → a ≤ length words → cut layout (with_part a p words) ≡ cut layout words
cut-before [] a p words h b = refl
cut-before (n ∷ layout) a p words h b =
    let z : n + (a - n) ≡ a = omega arith in
    let d : length (drop n words) ≡ length words - n = length-drop n words in
    ap₂ (λ (u v : List ℕ). u ∷ cut layout v) (take-with n a p words (omega arith) b)
    (ap (λ (k : ℕ). drop n (with_part k p words)) (sym z) ∙ drop-with n (a - n) p words (omega arith))
    ∙ ap (λ (r : List (List ℕ)). take n words ∷ r) (cut-before layout (a - n) p (drop n words) (omega arith) (omega arith))
