-- Comparing: two bytes are equal where no bit of their exclusive or is set, and two tags where that holds of each byte.
use mathlib.Core.Path.{◌≡◌, refl, sym, ap, ap₂, ◌∙◌}
use mathlib.Core.Bool.{Bool, true, false, ◌&&◌, and-true, and_assoc}
use mathlib.Core.List.{List, [], ◌∷◌, ◌++◌}
use Prim.Native.Nat.{ℕ, zero, suc, ◌+◌, ◌<◌}
use native.Mathlib.Numerals.{add-one}
use native.Mathlib.Omega.{arith}
use borrow.Author.Tests.{eq-eqb, ne_eqb, eqb-true, eqb-false}
use lib.Bits.{bit_or, or_zero_l, or_add_and, and_le_r, xor_self, xor_zero_l}
use lib.Dec.{eqb}
use lib.ListN.{length, get_or, take}
use lib.Seq.{take-suc, take_all, length-take-le}
use Rattle.bits.specs.Xor.{◌⊕◌}
use Rattle.bits.proofs.Xor.{xor-twice}
use Rattle.tags.specs.Tag.{same_of}

or-none : (d e : ℕ) → bit_or d e ≡ 0 → d ≡ 0
or-none d e h = omega (arith, or_add_and d e, and_le_r d e)

or-test : (d e : ℕ) → eqb (bit_or d e) 0 ≡ (eqb d 0 && eqb e 0)
or-test zero e = ap (λ (n : ℕ). eqb n 0) (or_zero_l e)
or-test (suc d) e =
    ne_eqb (bit_or (suc d) e) 0 (λ h. let z = or-none (suc d) e h in omega arith)
    ∙ ap (λ (t : Bool). t && eqb e 0) (sym (ne_eqb (suc d) 0 (λ h. omega arith)))

xor-test : (x y : ℕ) → eqb (x ⊕ y) 0 ≡ eqb x y
xor-test x y = by (eqb x y) refl
  where
    by : (t : Bool) → eqb x y ≡ t → eqb (x ⊕ y) 0 ≡ t
    by true e = eq-eqb (x ⊕ y) 0 (ap (λ (n : ℕ). n ⊕ y) (eqb-true x y e) ∙ xor_self y)
    by false e = ne_eqb (x ⊕ y) 0 (λ h. eqb-false x y e (sym (xor-twice x y) ∙ ap (λ (n : ℕ). n ⊕ y) h ∙ xor_zero_l y))

same_more : (a b : List ℕ) (x y : ℕ) → length a ≡ length b → same_of (a ++ (x ∷ [])) (b ++ (y ∷ [])) ≡ (same_of a b && eqb x y)
unfolding same_of
same_more [] [] x y e = and-true (eqb x y)
same_more [] (v ∷ b) x y e = absurd (omega arith)
same_more (u ∷ a) [] x y e = absurd (omega arith)
same_more (u ∷ a) (v ∷ b) x y e =
    ap (λ (t : Bool). eqb u v && t) (same_more a b x y (omega arith)) ∙ sym (and_assoc (eqb u v) (same_of a b) (eqb x y))

-- a turn of the loop
pub compared : (a b : List ℕ) (d i : ℕ) → i < length a → length a ≡ length b → eqb d 0 ≡ same_of (take i a) (take i b)
    → eqb (bit_or d (get_or a i 0 ⊕ get_or b i 0)) 0 ≡ same_of (take (i + 1) a) (take (i + 1) b)
compared a b d i h l e =
    or-test d (get_or a i 0 ⊕ get_or b i 0)
    ∙ ap₂ (λ (s t : Bool). s && t) e (xor-test (get_or a i 0) (get_or b i 0))
    ∙ sym (same_more (take i a) (take i b) (get_or a i 0) (get_or b i 0) (length-take-le i a (omega arith) ∙ sym (length-take-le i b (omega arith))))
    ∙ ap₂ same_of
    (sym (take-suc a i 0 h) ∙ ap (λ (n : ℕ). take n a) (sym (add-one i)))
    (sym (take-suc b i 0 (omega arith)) ∙ ap (λ (n : ℕ). take n b) (sym (add-one i)))

pub compared-all : (a b : List ℕ) (d i : ℕ) → i ≡ length a → length a ≡ length b → eqb d 0 ≡ same_of (take i a) (take i b) → eqb d 0 ≡ same_of a b
compared-all a b d i ei l e = e ∙ ap₂ same_of (take_all i a (omega arith)) (take_all i b (omega arith))

-- tags of different lengths differ
and_none : (t s : Bool) → false ≡ s → false ≡ (t && s)
and_none true s e = e
and_none false s e = refl

pub other_length : (a b : List ℕ) → (length a ≡ length b → ⊥) → false ≡ same_of a b
unfolding same_of
other_length [] [] h = absurd (h refl)
other_length [] (y ∷ b) h = refl
other_length (x ∷ a) [] h = refl
other_length (x ∷ a) (y ∷ b) h = and_none (eqb x y) (same_of a b) (other_length a b (λ e. h (ap suc e)))

-- a tag is the same as itself
pub same-itself : (a : List ℕ) → same_of a a ≡ true
unfolding same_of
same-itself [] = refl
same-itself (x ∷ a) = rw (eq-eqb x x refl) (same-itself a)
