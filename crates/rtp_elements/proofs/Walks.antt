-- The walk over a block: what one element takes of it, and what is left.
use mathlib.Core.Path.{◌≡◌, refl, sym, ap, ap₂, ◌∙◌, fun_ext}
use mathlib.Core.Bool.{Bool, true, false}
use mathlib.Core.List.{List, [], ◌∷◌, ◌++◌}
use Prim.Native.Nat.{ℕ, zero, suc, ◌+◌, ◌/◌, ◌%◌, ◌≤◌, ◌<◌}
use native.Mathlib.Omega.{arith}
use native.Mathlib.Numerals.{add-one}
use borrow.Author.Tests.{eqb-true}
use lib.Bits.{xor_zero_r}
use lib.Dec.{eqb}
use lib.ListN.{length, get_or, take, drop}
use Rattle.bits.specs.Pick.{pick}
use Rattle.bits.specs.Xor.{◌⊕◌, xor_pad}
use Rattle.rtp_elements.specs.declared.element.Element.{Element}
use Rattle.rtp_elements.specs.Elements.{NextByte, Between, Length, Ended, two_byte, data_of, opens, start_of, first_of, end_of, within, begun_of, elements_from}
use Rattle.rtp_elements.specs.Mask.{mask_from, mask_of, masked_pad, masked_of}

-- bytes from a place on, masked
abbrev pub masked_from : (ℕ → Bool) → Bool → NextByte → (ℕ → ℕ) → List ℕ → List ℕ
masked_from listed two p pad l = xor_pad (masked_pad (mask_from listed two p l) pad) l

-- the block encrypted under its mask
pub masked-is : (listed : ℕ → Bool) (tag : ℕ) (pad : ℕ → ℕ) (block : List ℕ) → masked_of listed tag pad block ≡ xor_pad (masked_pad (mask_of listed tag block) pad) block
unfolding masked_of
masked-is listed tag pad block = refl

pub masked-all : (listed : ℕ → Bool) (tag : ℕ) (pad : ℕ → ℕ) (block : List ℕ) → masked_of listed tag pad block ≡ masked_from listed (two_byte tag) (start_of tag) pad block
unfolding masked_of mask_of
masked-all listed tag pad block = refl

-- ---- what the first byte of an element can be

pub data First (two : Bool) (x : ℕ) : Type 0 where
  padding : first_of two x ≡ Between → ((i : ℕ) → begun_of two Between i x ≡ []) → First two x
  ending : first_of two x ≡ Ended → ((i : ℕ) → begun_of two Between i x ≡ []) → First two x
  naming : first_of two x ≡ Length x → ((i : ℕ) → begun_of two Between i x ≡ []) → First two x
  opening : first_of two x ≡ data_of (x / 16) (x % 16 + 1)
      → ((i : ℕ) → begun_of two Between i x ≡ record { id = x / 16; begin = i + 1; length = x % 16 + 1 } ∷ []) → First two x

none-begun : (two : Bool) (x i : ℕ) → x ≡ 0 → begun_of two Between i x ≡ []
none-begun true x i e = refl
none-begun false x i e = rw e

by-opens : (o : Bool) (x : ℕ) → opens x ≡ o → eqb x 0 ≡ false → First false x
by-opens true x o z = opening (simp (z, o, add-one)) (λ i. simp o)
by-opens false x o z = ending (simp (z, o)) (λ i. simp o)

by_two : (two : Bool) (x : ℕ) → eqb x 0 ≡ false → First two x
by_two true x z = naming (simp z) (λ i. refl)
by_two false x z = by-opens (opens x) x refl z

by_zero : (t two : Bool) (x : ℕ) → eqb x 0 ≡ t → First two x
by_zero true two x z = padding (simp z) (λ i. none-begun two x i (eqb-true x 0 z))
by_zero false two x z = by_two two x z

pub first-of : (two : Bool) (x : ℕ) → First two x
first-of two x = by_zero (eqb x 0) two x refl

-- ---- data

shifted : (pad : ℕ → ℕ) (n : ℕ) → ◌≡◌ {A = ℕ → ℕ} (λ k. pad (suc (n + k))) (λ k. pad (suc n + k))
shifted pad n = fun_ext (λ k. ap pad (omega arith))

module _ (two : Bool) where
  pub data-elements : (id n : ℕ) (l : List ℕ) (i : ℕ) → n ≤ length l → elements_from two (data_of id n) i l ≡ elements_from two Between (i + n) (drop n l)
  data-elements id zero l i h = ap (λ (k : ℕ). elements_from two Between k l) (omega arith)
  data-elements id (suc n) [] i h = absurd (omega arith)
  data-elements id (suc n) (x ∷ l) i h = data-elements id n l (i + 1) (omega arith) ∙ ap (λ (k : ℕ). elements_from two Between k (drop n l)) (omega arith)

  pub data-end : (id n : ℕ) (l : List ℕ) → n ≤ length l → end_of two (data_of id n) l ≡ end_of two Between (drop n l)
  data-end id zero l h = refl
  data-end id (suc n) [] h = absurd (omega arith)
  data-end id (suc n) (x ∷ l) h = data-end id n l (omega arith)

  pub data-cut : (id n : ℕ) (l : List ℕ) → length l < n → within (end_of two (data_of id n) l) ≡ true
  data-cut id zero l h = absurd (omega arith)
  data-cut id (suc n) [] h = refl
  data-cut id (suc n) (x ∷ l) h = data-cut id n l (omega arith)

  pub ended-elements : (l : List ℕ) (i : ℕ) → elements_from two Ended i l ≡ []
  ended-elements [] i = refl
  ended-elements (x ∷ l) i = ended-elements l (i + 1)

  pub ended-end : (l : List ℕ) → end_of two Ended l ≡ Ended
  ended-end [] = refl
  ended-end (x ∷ l) = ended-end l

  module _ (listed : ℕ → Bool) where
    pub ended-masked : (pad : ℕ → ℕ) (l : List ℕ) → masked_from listed two Ended pad l ≡ l
    ended-masked pad [] = refl
    ended-masked pad (x ∷ l) = ap₂ (λ (a : ℕ) (r : List ℕ). a ∷ r) (xor_zero_r x) (ended-masked (λ k. pad (suc k)) l)

    by-list : (t : Bool) (a : ℕ) → pick (eqb (pick t 0xFF 0x00) 0xFF) a 0 ≡ pick t a 0
    by-list true a = refl
    by-list false a = refl

    pub data-masked : (id n : ℕ) (pad : ℕ → ℕ) (l : List ℕ) → n ≤ length l
        → masked_from listed two (data_of id n) pad l
        ≡ xor_pad (λ k. pick (listed id) (pad k) 0) (take n l) ++ masked_from listed two Between (λ k. pad (n + k)) (drop n l)
    data-masked id zero pad l h = ap (λ (f : ℕ → ℕ). masked_from listed two Between f l) (fun_ext (λ k. ap pad (omega arith)))
    data-masked id (suc n) pad [] h = absurd (omega arith)
    data-masked id (suc n) pad (x ∷ l) h =
        ap₂ (λ (a : ℕ) (r : List ℕ). x ⊕ a ∷ r) (by-list (listed id) (pad 0))
        (data-masked id n (λ k. pad (suc k)) l (omega arith)
        ∙ ap (λ (f : ℕ → ℕ). xor_pad (λ k. pick (listed id) (pad (suc k)) 0) (take n l) ++ masked_from listed two Between f (drop n l)) (shifted pad n))

-- ---- an element's header, and the padding before it

module _ (two : Bool) where
  -- the bytes l, at place i, have e as their first element: its data begins after `front`
  pub record Head (l : List ℕ) (i : ℕ) (e : Element) : Type 0 where
    pub front : List ℕ
    pub back : List ℕ
    pub joined : l ≡ front ++ back
    pub some : 0 < length front
    pub begins : e.begin ≡ i + length front
    pub elements : elements_from two Between i l ≡ e ∷ elements_from two (data_of e.id e.length) e.begin back
    pub end : end_of two Between l ≡ end_of two (data_of e.id e.length) back
    pub masked : (listed : ℕ → Bool) (pad : ℕ → ℕ)
        → masked_from listed two Between pad l ≡ front ++ masked_from listed two (data_of e.id e.length) (λ k. pad (length front + k)) back

  cons-apart : {A : Type 0} (x : A) (l : List A) → [] ≡ x ∷ l → ⊥
  cons-apart x l e = let n : 0 ≡ suc (length l) = ap length e in omega arith

  first-is : (x y : Element) (l m : List Element) → x ∷ l ≡ y ∷ m → x ≡ y
  first-is x y l m e = ap (λ (r : List Element). get_or r 0 x) e

  padded : (x : ℕ) (l : List ℕ) (i : ℕ) (e : Element) → first_of two x ≡ Between → ((j : ℕ) → begun_of two Between j x ≡ [])
      → Head l (i + 1) e → Head (x ∷ l) i e
  padded x l i e f b h =
      record {
        front = x ∷ h.front;
        back = h.back;
        joined = ap (λ (r : List ℕ). x ∷ r) h.joined;
        some = omega arith;
        begins = omega (arith, h.begins);
        elements = rw (b i, f) h.elements;
        end = rw f h.end;
        masked =
            λ listed pad.
            ap₂ (λ (a : ℕ) (r : List ℕ). a ∷ r) (xor_zero_r x)
            (ap (λ (p : NextByte). masked_from listed two p (λ k. pad (suc k)) l) f
            ∙ h.masked listed (λ k. pad (suc k))
            ∙ ap (λ (g : ℕ → ℕ). h.front ++ masked_from listed two (data_of e.id e.length) g h.back) (shifted pad (length h.front)));
      }

  opened : (x : ℕ) (l : List ℕ) (i : ℕ) (e : Element) → e.begin ≡ i + 1 → first_of two x ≡ data_of e.id e.length → begun_of two Between i x ≡ e ∷ []
      → Head (x ∷ l) i e
  opened x l i e n f b =
      record {
        front = x ∷ [];
        back = l;
        joined = refl;
        some = omega arith;
        begins = n;
        elements = rw (b, f, n);
        end = rw f;
        masked =
            λ listed pad.
            ap₂ (λ (a : ℕ) (r : List ℕ). a ∷ r) (xor_zero_r x)
            (ap (λ (p : NextByte). masked_from listed two p (λ k. pad (suc k)) l) f
            ∙ ap (λ (g : ℕ → ℕ). masked_from listed two (data_of e.id e.length) g l) (fun_ext (λ k. ap pad (omega arith))));
      }

  named : (x n : ℕ) (l : List ℕ) (i : ℕ) → first_of two x ≡ Length x → begun_of two Between i x ≡ []
      → Head (x ∷ n ∷ l) i (record { id = x; begin = i + 1 + 1; length = n })
  named x n l i f b =
      record {
        front = x ∷ n ∷ [];
        back = l;
        joined = refl;
        some = omega arith;
        begins = omega arith;
        elements = rw (b, f);
        end = rw f;
        masked =
            λ listed pad.
            ap₂ (λ (a : ℕ) (r : List ℕ). a ∷ r) (xor_zero_r x)
            (ap (λ (p : NextByte). masked_from listed two p (λ k. pad (suc k)) (n ∷ l)) f
            ∙ ap₂ (λ (a : ℕ) (r : List ℕ). a ∷ r) (xor_zero_r n)
            (ap (λ (g : ℕ → ℕ). masked_from listed two (data_of x n) g l) (fun_ext (λ k. ap pad (omega arith)))));
      }

  -- where there is a first element, this is how it stands
  pub head_of : (l : List ℕ) (i : ℕ) (e : Element) (r : List Element) → elements_from two Between i l ≡ e ∷ r → Head l i e
  head_of [] i e r q = absurd (cons-apart e r q)
  head_of (x ∷ l) i e r q = by_first (first-of two x) (head_of l (i + 1) e r)
    where
      lengthen : (m : List ℕ) → first_of two x ≡ Length x → begun_of two Between i x ≡ [] → elements_from two Between i (x ∷ m) ≡ e ∷ r → Head (x ∷ m) i e
      lengthen [] f b q = absurd (cons-apart e r (rw b at q))
      lengthen (n ∷ m) f b q =
          let s : elements_from two Between i (x ∷ n ∷ m) ≡ record { id = x; begin = i + 1 + 1; length = n } ∷ elements_from two (data_of x n) (i + 1 + 1) m = rw (b, f) in
          rw (first-is e (record { id = x; begin = i + 1 + 1; length = n }) r (elements_from two (data_of x n) (i + 1 + 1) m) (sym q ∙ s)) (named x n m i f b)

      by_first : First two x → (elements_from two Between (i + 1) l ≡ e ∷ r → Head l (i + 1) e) → Head (x ∷ l) i e
      by_first (padding f b) on = padded x l i e f b (on (rw (b i, f) at q))
      by_first (ending f b) on = absurd (cons-apart e r (rw (b i, f, ended-elements two l (i + 1)) at q))
      by_first (naming f b) on = lengthen l f (b i) q
      by_first (opening f b) on =
          let o : Element = record { id = x / 16; begin = i + 1; length = x % 16 + 1 } in
          let s : elements_from two Between i (x ∷ l) ≡ o ∷ elements_from two (first_of two x) (i + 1) l = rw (b i) in
          rw (first-is e o r (elements_from two (first_of two x) (i + 1) l) (sym q ∙ s)) (opened x l i o refl f (b i))

  -- where there is none, nothing is masked
  pub none-masked : (listed : ℕ → Bool) (pad : ℕ → ℕ) (l : List ℕ) (i : ℕ) → elements_from two Between i l ≡ [] → masked_from listed two Between pad l ≡ l
  none-masked listed pad [] i q = refl
  none-masked listed pad (x ∷ l) i q = ap₂ (λ (a : ℕ) (r : List ℕ). a ∷ r) (xor_zero_r x) (by_first (first-of two x) (none-masked listed (λ k. pad (suc k)) l (i + 1)))
    where
      lengthen : (m : List ℕ) → elements_from two (Length x) (i + 1) m ≡ [] → masked_from listed two (Length x) (λ k. pad (suc k)) m ≡ m
      lengthen [] q = refl
      lengthen (n ∷ m) q = absurd (cons-apart _ _ (sym q))

      by_first : First two x → (elements_from two Between (i + 1) l ≡ [] → masked_from listed two Between (λ k. pad (suc k)) l ≡ l)
          → masked_from listed two (first_of two x) (λ k. pad (suc k)) l ≡ l
      by_first (padding f b) on = rw f (on (rw (b i, f) at q))
      by_first (ending f b) on = rw f (ended-masked two listed (λ k. pad (suc k)) l)
      by_first (naming f b) on = rw f (lengthen l (rw (b i, f) at q))
      by_first (opening f b) on = absurd (cons-apart _ _ (sym (rw (b i) at q)))
