-- The mask is all ones on the data of listed elements and zero elsewhere.
use mathlib.Core.Path.{◌≡◌, refl, sym, ap, ap₂, ◌∙◌}
use mathlib.Core.Bool.{Bool, true, false, ◌&&◌, ◌||◌}
use mathlib.Core.List.{List, [], ◌∷◌, ◌++◌}
use Prim.Native.Nat.{ℕ, zero, suc, ◌+◌, ◌/◌, ◌%◌, ◌≤◌, ◌<◌}
use native.Mathlib.Omega.{arith}
use borrow.Author.Tests.{lt-ltb, le-ltb, le-leb, lt-leb, ltb-true, ltb-false, leb-true, leb-false}
use lib.Dec.{leb, ltb}
use lib.ListN.{length, get_or}
use Rattle.bits.specs.Pick.{pick}
use Rattle.rtp_elements.specs.declared.element.Element.{Element}
use Rattle.rtp_claims.specs.Claims.{covered, MaskOnData}
use Rattle.rtp_elements.specs.Elements.{NextByte, Between, Length, Data, Ended, two_byte, start_of, has_elements, data_of, first_of, step_of, begun_of, elements_from, elements_of}
use Rattle.rtp_elements.specs.Mask.{mask_byte, mask_from, mask_of}
use Rattle.rtp_elements.proofs.Walks.{First, padding, ending, naming, opening, first-of}

-- ---- comparisons

by_le : (t : Bool) (k n : ℕ) → leb k n ≡ t → t ≡ ltb k (suc n)
by_le true k n e = sym (lt-ltb k (suc n) (let h : k ≤ n = leb-true k n e in omega arith))
by_le false k n e = sym (le-ltb k (suc n) (let h : n < k = leb-false k n e in omega arith))

le-lt : (k n : ℕ) → leb k n ≡ ltb k (suc n)
le-lt k n = by_le (leb k n) k n refl

by-lt : (t : Bool) (a k n : ℕ) → ltb k n ≡ t → ltb (a + k) (a + n) ≡ t
by-lt true a k n e = lt-ltb (a + k) (a + n) (let h : k < n = ltb-true k n e in omega arith)
by-lt false a k n e = le-ltb (a + k) (a + n) (let h : n ≤ k = ltb-false k n e in omega arith)

lt-moved : (a k n : ℕ) → ltb (a + k) (a + n) ≡ ltb k n
lt-moved a k n = by-lt (ltb k n) a k n refl

by-suc : (t : Bool) (k n : ℕ) → leb (suc k) n ≡ t → t ≡ ltb k n
by-suc true k n e = sym (lt-ltb k n (let h : suc k ≤ n = leb-true (suc k) n e in omega arith))
by-suc false k n e = sym (le-ltb k n (let h : n < suc k = leb-false (suc k) n e in omega arith))

suc-le : (k n : ℕ) → leb (suc k) n ≡ ltb k n
suc-le k n = by-suc (leb (suc k) n) k n refl

-- ---- the data that is being read, and the elements to come

module _ (listed : ℕ → Bool) (two : Bool) where
  -- the byte k places on is data of the listed element that is being read
  abbrev reached : NextByte → ℕ → Bool
  reached Between k = false
  reached (Length id) k = false
  reached (Data id n) k = leb k n && listed id
  reached Ended k = false

  data-reached : (id n k : ℕ) → reached (data_of id n) k ≡ (ltb k n && listed id)
  data-reached id zero k = rw (le-ltb k 0 (omega arith))
  data-reached id (suc n) k = ap (λ (t : Bool). t && listed id) (le-lt k n)

  -- an element that begins after place i does not cover it
  not_yet : (e : Element) (r : List Element) (k : ℕ) → k < e.begin → covered listed (e ∷ r) k ≡ covered listed r k
  not_yet e r k h = rw (lt-leb e.begin k h)

  begun-later : (p : NextByte) (i x k : ℕ) (r : List Element) → k ≤ i → covered listed (begun_of two p i x ++ r) k ≡ covered listed r k
  begun-later Between i x k r h = by (first-of two x)
    where
      by : First two x → covered listed (begun_of two Between i x ++ r) k ≡ covered listed r k
      by (padding f b) = rw (b i)
      by (ending f b) = rw (b i)
      by (naming f b) = rw (b i)
      by (opening f b) = rw (b i) (not_yet (record { id = x / 16; begin = i + 1; length = x % 16 + 1 }) r k (omega arith))
  begun-later (Length id) i x k r h = not_yet (record { id = id; begin = i + 1; length = x }) r k (omega arith)
  begun-later (Data id n) i x k r h = refl
  begun-later Ended i x k r h = refl

  later : (p : NextByte) (i : ℕ) (l : List ℕ) (k : ℕ) → k ≤ i → covered listed (elements_from two p i l) k ≡ false
  later p i [] k h = refl
  later p i (x ∷ l) k h =
      begun-later p i x k (elements_from two (step_of two p x) (i + 1) l) h ∙ later (step_of two p x) (i + 1) l k (omega arith)

  -- an element whose data comes next covers what will be reached
  begins : (id n i k : ℕ) (r : List Element)
      → covered listed (record { id = id; begin = i + 1; length = n } ∷ r) (i + 1 + k) ≡ (reached (data_of id n) k || covered listed r (i + 1 + k))
  begins id n i k r = rw (le-leb (i + 1) (i + 1 + k) (omega arith), lt-moved (i + 1) k n, data-reached id n k)

  carried : (p : NextByte) (x i k : ℕ) (r : List Element)
      → (reached p (suc k) || covered listed (begun_of two p i x ++ r) (i + 1 + k)) ≡ (reached (step_of two p x) k || covered listed r (i + 1 + k))
  carried Between x i k r = by (first-of two x)
    where
      by : First two x → covered listed (begun_of two Between i x ++ r) (i + 1 + k) ≡ (reached (first_of two x) k || covered listed r (i + 1 + k))
      by (padding f b) = rw (b i, f)
      by (ending f b) = rw (b i, f)
      by (naming f b) = rw (b i, f)
      by (opening f b) = rw (b i, f) (begins (x / 16) (x % 16 + 1) i k r)
  carried (Length id) x i k r = begins id x i k r
  carried (Data id n) x i k r =
      ap (λ (t : Bool). t || covered listed r (i + 1 + k)) (ap (λ (t : Bool). t && listed id) (suc-le k n) ∙ sym (data-reached id n k))
  carried Ended x i k r = refl

  by-list : (t : Bool) → ◌≡◌ {A = ℕ} (pick t 0xFF 0x00) (pick ((true && t) || false) 0xFF 0x00)
  by-list true = refl
  by-list false = refl

  here : (p : NextByte) → mask_byte listed p ≡ pick (reached p 0 || false) 0xFF 0x00
  here Between = refl
  here (Length id) = refl
  here (Data id n) = rw (le-leb 0 n (omega arith)) (by-list (listed id))
  here Ended = refl

  mask_at : (p : NextByte) (i : ℕ) (l : List ℕ) (k : ℕ) → k < length l
      → get_or (mask_from listed two p l) k 0 ≡ pick (reached p k || covered listed (elements_from two p i l) (i + k)) 0xFF 0x00
  mask_at p i [] k h = absurd (omega arith)
  mask_at p i (x ∷ l) zero h = rw (later p i (x ∷ l) (i + 0) (omega arith)) (here p)
  mask_at p i (x ∷ l) (suc k) h =
      let e : i + suc k ≡ i + 1 + k = omega arith in
      mask_at (step_of two p x) (i + 1) l k (omega arith)
      ∙ ap (λ (t : Bool). pick t 0xFF 0x00)
      (sym (carried p x i k (elements_from two (step_of two p x) (i + 1) l))
      ∙ ap (λ (j : ℕ). reached p (suc k) || covered listed (elements_from two p i (x ∷ l)) j) (sym e))

  mask-length : (p : NextByte) (l : List ℕ) → length (mask_from listed two p l) ≡ length l
  mask-length p [] = refl
  mask-length p (x ∷ l) = ap suc (mask-length (step_of two p x) l)

not_within : (listed : ℕ → Bool) (two : Bool) (tag : ℕ) (t : Bool) → has_elements tag ≡ t → (k : ℕ) → reached listed two (start_of tag) k ≡ false
not_within listed two tag true e k = rw e
not_within listed two tag false e k = rw e

pub mask-on-data : MaskOnData
unfolding mask_of elements_of
mask-on-data =
    record {
      same_length = λ listed tag block. mask-length listed (two_byte tag) (start_of tag) block;
      bytes =
          λ listed tag block k h.
          let e : 0 + k ≡ k = omega arith in
          mask_at listed (two_byte tag) (start_of tag) 0 block k h
          ∙ ap₂ (λ (t : Bool) (j : ℕ). pick (t || covered listed (elements_from (two_byte tag) (start_of tag) 0 block) j) 0xFF 0x00)
          (not_within listed (two_byte tag) tag (has_elements tag) refl k) e;
    }
