-- The elements of a block, any of them: where its data begins, and that the mask covers it where it is listed.
use mathlib.Core.Path.{◌≡◌, refl, ap, subst}
use mathlib.Core.Bool.{Bool, true, false, not, ◌&&◌, ◌||◌}
use mathlib.Core.List.{List, [], ◌∷◌, ◌++◌}
use Prim.Native.Nat.{ℕ, suc, ◌+◌, ◌/◌, ◌%◌, ◌≤◌, ◌<◌}
use native.Mathlib.Omega.{arith}
use borrow.Author.Tests.{le-leb, lt-ltb}
use lib.Dec.{leb, ltb}
use lib.ListN.{length}
use Rattle.bits.specs.Pick.{pick}
use Rattle.rtp_elements.specs.declared.element.Element.{Element}
use Rattle.rtp_elements.specs.Elements.{NextByte, Between, Length, Data, Ended, opens, step_of, start_of, two_byte, elements_from, elements_of}
use Rattle.rtp_claims.specs.Claims.{covered}

-- ---- where it begins

-- every element among these begins at place n at the latest
abbrev Late : ℕ → List Element → Type 0
Late n es = (before after : List Element) (e : Element) → es ≡ before ++ (e ∷ after) → e.begin ≤ n

abbrev first-begin : ℕ → List Element → ℕ
first-begin n [] = n
first-begin n (e ∷ es) = e.begin

abbrev others : List Element → List Element
others [] = []
others (e ∷ es) = es

late-none : (n : ℕ) → Late n []
late-none n [] after e q = let z : 0 ≡ suc (length after) = ap length q in absurd (omega arith)
late-none n (b ∷ before) after e q = let z : 0 ≡ suc (length (before ++ (e ∷ after))) = ap length q in absurd (omega arith)

late-first : (n : ℕ) (d : Element) (es : List Element) → d.begin ≤ n → Late n es → Late n (d ∷ es)
late-first n d es h l [] after e q = let z : d.begin ≡ e.begin = ap (first-begin n) q in omega arith
late-first n d es h l (b ∷ before) after e q = l before after e (ap others q)

late-pick : (t : Bool) (n : ℕ) (d : Element) (es : List Element) → d.begin ≤ n → Late n es → Late n (pick t (d ∷ []) [] ++ es)
late-pick true n d es h l = late-first n d es h l
late-pick false n d es h l = l

late-shift : (i n : ℕ) (es : List Element) → Late (i + 1 + n) es → Late (i + suc n) es
late-shift i n es h = let z : i + 1 + n ≡ i + suc n = omega arith in subst (λ (m : ℕ). Late m es) z h

late-from : (two : Bool) (p : NextByte) (i : ℕ) (l : List ℕ) → Late (i + length l) (elements_from two p i l)
late-from two p i [] = late-none (i + 0)
late-from two Between i (x ∷ l) =
    let rest = elements_from two (step_of two Between x) (i + 1) l in
    late-pick (not two && opens x) (i + suc (length l)) (record { id = x / 16; begin = i + 1; length = x % 16 + 1 }) rest (omega arith)
    (late-shift i (length l) rest (late-from two (step_of two Between x) (i + 1) l))
late-from two (Length id) i (x ∷ l) =
    let rest = elements_from two (step_of two (Length id) x) (i + 1) l in
    late-first (i + suc (length l)) (record { id = id; begin = i + 1; length = x }) rest (omega arith)
    (late-shift i (length l) rest (late-from two (step_of two (Length id) x) (i + 1) l))
late-from two (Data id n) i (x ∷ l) =
    late-shift i (length l) (elements_from two (step_of two (Data id n) x) (i + 1) l) (late-from two (step_of two (Data id n) x) (i + 1) l)
late-from two Ended i (x ∷ l) =
    late-shift i (length l) (elements_from two (step_of two Ended x) (i + 1) l) (late-from two (step_of two Ended x) (i + 1) l)

pub begins-inside : (tag : ℕ) (block : List ℕ) (before after : List Element) (e : Element) → elements_of tag block ≡ before ++ (e ∷ after) → e.begin ≤ length block
unfolding elements_of
begins-inside tag block before after e q = let h = late-from (two_byte tag) (start_of tag) 0 block before after e q in omega arith

-- ---- that it is covered

or-true : (b : Bool) → (b || true) ≡ true
or-true true = refl
or-true false = refl

pub covered-in : (listed : ℕ → Bool) (before after : List Element) (e : Element) (k : ℕ) → e.begin ≤ k → k < e.begin + e.length → listed e.id ≡ true
    → covered listed (before ++ (e ∷ after)) k ≡ true
covered-in listed [] after e k a b l = simp (le-leb e.begin k a, lt-ltb k (e.begin + e.length) b, l)
covered-in listed (d ∷ before) after e k a b l = rw (covered-in listed before after e k a b l) (or-true (leb d.begin k && (ltb k (d.begin + d.length) && listed d.id)))
