-- Stretches of a keystream: the pad at each place, and stretches that meet.
use mathlib.Core.Path.{◌≡◌, refl, sym, ap, ap₂, ◌∙◌}
use mathlib.Core.Logic.{◌⊎◌, inl, inr, ⊎_elim}
use mathlib.Core.List.{List, [], ◌∷◌, ◌++◌}
use Prim.Native.Nat.{ℕ, suc, ◌+◌, ◌-◌, ◌≤◌, ◌<◌}
use native.Mathlib.Decide.{dec_lt}
use native.Mathlib.Omega.{arith}
use borrow.Author.Tests.{lt-ltb, le-ltb}
use lib.Bits.{bit_xor, xor_zero_r}
use lib.ListN.{length, take, drop, length-drop, take-append-drop}
use lib.Seq.{length-take-le}
use Rattle.bits.specs.Xor.{xor_pad}
use Rattle.bits.proofs.Xor.{pad-ext, pad-append, pad-none}
use Rattle.stretches.specs.Stretch.{stretch_pad}

-- two pads, of which one is 0 at each place
pub pad-join : (f g h : ℕ → ℕ) (l : List ℕ) → ((i : ℕ) → i < length l → ((f i ≡ 0) × (g i ≡ h i)) ⊎ ((g i ≡ 0) × (f i ≡ h i)))
    → xor_pad g (xor_pad f l) ≡ xor_pad h l
pad-join f g h [] d = refl
pad-join f g h (x ∷ l) d =
    ap₂ (λ (a : ℕ) (b : List ℕ). a ∷ b)
    (⊎_elim (λ p. ap₂ (λ (a b : ℕ). bit_xor (bit_xor x a) b) p.0 p.1 ∙ ap (λ (a : ℕ). bit_xor a (h 0)) (xor_zero_r x))
    (λ p. ap₂ (λ (a b : ℕ). bit_xor (bit_xor x a) b) p.1 p.0 ∙ xor_zero_r (bit_xor x (h 0))) (d 0 (omega arith)))
    (pad-join (λ i. f (suc i)) (λ i. g (suc i)) (λ i. h (suc i)) l (λ i b. d (suc i) (omega arith)))

-- the pad at a place
pub at_before : (a e o : ℕ) (ks : ℕ → ℕ) (i : ℕ) → i < a → stretch_pad a e o ks i ≡ 0
unfolding stretch_pad
at_before a e o ks i h = simp (lt-ltb i a h)

pub at-past : (a e o : ℕ) (ks : ℕ → ℕ) (i : ℕ) → a ≤ i → e ≤ i → stretch_pad a e o ks i ≡ 0
unfolding stretch_pad
at-past a e o ks i h k = simp (le-ltb i a h, le-ltb i e k)

pub at_in : (a e o : ℕ) (ks : ℕ → ℕ) (i k : ℕ) → a ≤ i → i < e → k + a ≡ o + i → stretch_pad a e o ks i ≡ ks k
unfolding stretch_pad
at_in a e o ks i k h l q = let m : o + (i - a) ≡ k = omega arith in simp (le-ltb i a h, lt-ltb i e l, m)

pub stretch-done : (a e o : ℕ) (ks : ℕ → ℕ) (l : List ℕ) → e ≤ a → xor_pad (stretch_pad a e o ks) l ≡ l
stretch-done a e o ks l h =
    pad-none (stretch_pad a e o ks) l
    (λ i b. elim (dec_lt i a) [ yes u ↦ at_before a e o ks i u | no u ↦ at-past a e o ks i (omega arith) (omega arith) ])

-- neighbours
pub stretch-join : (a b e o k : ℕ) (ks : ℕ → ℕ) (l : List ℕ) → a ≤ b → b ≤ e → k + a ≡ o + b
    → xor_pad (stretch_pad b e k ks) (xor_pad (stretch_pad a b o ks) l) ≡ xor_pad (stretch_pad a e o ks) l
stretch-join a b e o k ks l h g q =
    pad-join (stretch_pad a b o ks) (stretch_pad b e k ks) (stretch_pad a e o ks) l
    (λ i n. elim (dec_lt i a) [
      | yes u ↦ inr (at_before b e k ks i (omega arith), at_before a b o ks i u ∙ sym (at_before a e o ks i u))
      | no u ↦ elim (dec_lt i b) [
        | yes v ↦ inr (at_before b e k ks i v, at_in a b o ks i (o + (i - a)) (omega arith) v (omega arith) ∙ sym (at_in a e o ks i (o + (i - a)) (omega arith) (omega arith) (omega arith)))
        | no v ↦ elim (dec_lt i e) [
          | yes w ↦ inl (at-past a b o ks i (omega arith) (omega arith), at_in b e k ks i (o + (i - a)) (omega arith) w (omega arith) ∙ sym (at_in a e o ks i (o + (i - a)) (omega arith) w (omega arith)))
          | no w ↦ inl (at-past a b o ks i (omega arith) (omega arith), at-past b e k ks i (omega arith) (omega arith) ∙ sym (at-past a e o ks i (omega arith) (omega arith)))
        ]
      ]
    ])

-- a part lent, and back with its pad, where nothing else has one
part-pad : (f : ℕ → ℕ) (a e : ℕ) (l ys : List ℕ) → a ≤ e → e ≤ length l → ((i : ℕ) → i < a → f i ≡ 0) → ((i : ℕ) → e ≤ i → f i ≡ 0)
    → ys ≡ xor_pad (λ k. f (a + k)) (take (e - a) (drop a l)) → take a l ++ (ys ++ drop (e - a) (drop a l)) ≡ xor_pad f l
part-pad f a e l ys h n low high ey =
    let p = take a l in
    let q = take (e - a) (drop a l) in
    let r = drop (e - a) (drop a l) in
    let lp : length p ≡ a = length-take-le a l (omega arith) in
    let lq : length q ≡ e - a = length-take-le (e - a) (drop a l) (simp length-drop (omega arith)) in
    let whole : p ++ (q ++ r) ≡ l = ap (λ (u : List ℕ). p ++ u) (take-append-drop (e - a) (drop a l)) ∙ take-append-drop a l in
    sym
    (ap (xor_pad f) (sym whole)
    ∙ pad-append f p (q ++ r)
    ∙ ap₂ (λ (u v : List ℕ). u ++ v)
    (pad-none f p (λ i b. low i (omega arith)))
    (pad-append (λ i. f (length p + i)) q r
    ∙ ap₂ (λ (u v : List ℕ). u ++ v)
    (ap (λ (m : ℕ). xor_pad (λ k. f (m + k)) q) lp ∙ sym ey)
    (pad-none (λ i. f (length p + (length q + i))) r (λ i b. high (length p + (length q + i)) (omega arith)))))

-- with its stretch of the keystream, all of it or only its first n bytes
pub stretch-part : (a e o : ℕ) (ks : ℕ → ℕ) (l ys : List ℕ) → a ≤ e → e ≤ length l → ys ≡ xor_pad (λ k. ks (o + k)) (take (e - a) (drop a l))
    → take a l ++ (ys ++ drop (e - a) (drop a l)) ≡ xor_pad (stretch_pad a e o ks) l
stretch-part a e o ks l ys h n ey =
    let lq : length (take (e - a) (drop a l)) ≡ e - a = length-take-le (e - a) (drop a l) (simp length-drop (omega arith)) in
    part-pad (stretch_pad a e o ks) a e l ys h n (at_before a e o ks) (λ i b. at-past a e o ks i (omega arith) b)
    (ey ∙ pad-ext (λ k. ks (o + k)) (λ k. stretch_pad a e o ks (a + k)) (take (e - a) (drop a l)) (λ k b. sym (at_in a e o ks (a + k) (o + k) (omega arith) (omega arith) (omega arith))))

pub stretch-front : (a e n o : ℕ) (ks : ℕ → ℕ) (l ys : List ℕ) → a ≤ e → e ≤ length l → a + n ≤ e → ys ≡ xor_pad (stretch_pad 0 n o ks) (take (e - a) (drop a l))
    → take a l ++ (ys ++ drop (e - a) (drop a l)) ≡ xor_pad (stretch_pad a (a + n) o ks) l
stretch-front a e n o ks l ys h m w ey =
    let f = stretch_pad a (a + n) o ks in
    part-pad f a e l ys h m (at_before a (a + n) o ks) (λ i b. at-past a (a + n) o ks i (omega arith) (omega arith))
    (ey ∙ pad-ext (stretch_pad 0 n o ks) (λ k. f (a + k)) (take (e - a) (drop a l))
    (λ k b. elim (dec_lt k n) [
      | yes u ↦ at_in 0 n o ks k (o + k) (omega arith) u (omega arith) ∙ sym (at_in a (a + n) o ks (a + k) (o + k) (omega arith) (omega arith) (omega arith))
      | no u ↦ at-past 0 n o ks k (omega arith) (omega arith) ∙ sym (at-past a (a + n) o ks (a + k) (omega arith) (omega arith))
    ]))
