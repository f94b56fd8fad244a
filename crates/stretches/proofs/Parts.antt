-- The keystream over a list of bytes, from any byte on: where it is refused, and neighbours that join.
use mathlib.Core.Path.{◌≡◌, refl, sym, ap, ap₂, ◌∙◌}
use mathlib.Core.Bool.{true, false, true≢false}
use mathlib.Core.List.{List, ◌++◌}
use Prim.Native.Nat.{ℕ, ◌+◌, ◌-◌, ◌≤◌, ◌<◌}
use native.Mathlib.Decide.{dec_lt}
use native.Mathlib.Omega.{arith}
use borrow.Author.Tests.{lt-ltb, le-ltb}
use lib.Dec.{ltb}
use lib.ListN.{length, take, drop, length-append, length-drop}
use lib.Seq.{drop-drop, length-take-le}
use Rattle.bits.specs.Xor.{xor_pad}
use Rattle.bits.proofs.Xor.{pad-append, pad-ext, pad-twice, length-pad}
use Rattle.stretches.specs.Stretch.{keystream_end, is_large, Stretched, stretch_by, stretch_pad}
use Rattle.stretches.specs.Claims.{NeighboursJoin}
use Rattle.stretches.proofs.Stretches.{stretch-part}

-- the two cases of the definition
pub refused : (stream : ℕ → ℕ) (start : ℕ) (l : List ℕ) → keystream_end < start + length l → stretch_by stream start l ≡ record { number = 7; bytes = l }
unfolding stretch_by
refused stream start l h = simp (lt-ltb keystream_end (start + length l) h)

pub served : (stream : ℕ → ℕ) (start : ℕ) (l : List ℕ) → start + length l ≤ keystream_end
    → stretch_by stream start l ≡ record { number = 0; bytes = xor_pad (λ k. stream (start + k)) l }
unfolding stretch_by
served stream start l h = simp (le-ltb keystream_end (start + length l) h)

pub served-bytes : (stream : ℕ → ℕ) (start : ℕ) (l : List ℕ) → start + length l ≤ keystream_end → (stretch_by stream start l).bytes ≡ xor_pad (λ k. stream (start + k)) l
served-bytes stream start l h = ap (λ (s : Stretched). s.bytes) (served stream start l h)

pub served-number : (stream : ℕ → ℕ) (start : ℕ) (l : List ℕ) → start + length l ≤ keystream_end → (stretch_by stream start l).number ≡ 0
served-number stream start l h = ap (λ (s : Stretched). s.number) (served stream start l h)

pub refused-number : (stream : ℕ → ℕ) (start : ℕ) (l : List ℕ) → keystream_end < start + length l → (stretch_by stream start l).number ≡ 7
refused-number stream start l h = ap (λ (s : Stretched). s.number) (refused stream start l h)

-- what a number of 0, and a test that fails, say of the end
pub ends-within : (stream : ℕ → ℕ) (start : ℕ) (l : List ℕ) → (stretch_by stream start l).number ≡ 0 → start + length l ≤ keystream_end
ends-within stream start l z =
    elim (dec_lt keystream_end (start + length l)) [
      | yes h ↦ let q = sym (refused-number stream start l h) ∙ z in absurd (omega arith)
      | no h ↦ omega arith
    ]

pub not-large : (start n : ℕ) → start + n ≤ keystream_end → is_large start n ≡ false
not-large start n h = le-ltb keystream_end (start + n) h

pub small : (start n : ℕ) → is_large start n ≡ false → start + n ≤ keystream_end
small start n f =
    elim (dec_lt keystream_end (start + n)) [
      | yes h ↦ absurd (true≢false (sym (lt-ltb keystream_end (start + n) h) ∙ f))
      | no h ↦ omega arith
    ]

pub large : (start n : ℕ) → is_large start n ≡ true → keystream_end < start + n
large start n t =
    elim (dec_lt keystream_end (start + n)) [
      | yes h ↦ h
      | no h ↦ absurd (true≢false (sym t ∙ not-large start n (omega arith)))
    ]

-- without a sum
pub large-by-difference : (start n : ℕ) → start ≤ keystream_end → ltb (keystream_end - start) n ≡ is_large start n
large-by-difference start n h =
    elim (dec_lt (keystream_end - start) n) [
      | yes l ↦ lt-ltb (keystream_end - start) n l ∙ sym (lt-ltb keystream_end (start + n) (omega arith))
      | no l ↦ le-ltb (keystream_end - start) n (omega arith) ∙ sym (not-large start n (omega arith))
    ]

-- as long as they were, and undone by the same
pub length-stretch : (stream : ℕ → ℕ) (start : ℕ) (l : List ℕ) → length (stretch_by stream start l).bytes ≡ length l
length-stretch stream start l =
    elim (dec_lt keystream_end (start + length l)) [
      | yes h ↦ ap (λ (s : Stretched). length s.bytes) (refused stream start l h)
      | no h ↦ ap length (served-bytes stream start l (omega arith)) ∙ length-pad (λ k. stream (start + k)) l
    ]

pub stretch-twice : (stream : ℕ → ℕ) (start : ℕ) (l : List ℕ) → (stretch_by stream start (stretch_by stream start l).bytes).bytes ≡ l
stretch-twice stream start l =
    let again = (stretch_by stream start l).bytes in
    let n = length-stretch stream start l in
    elim (dec_lt keystream_end (start + length l)) [
      | yes h ↦ ap (λ (s : Stretched). s.bytes) (refused stream start again (omega (arith, n))) ∙ ap (λ (s : Stretched). s.bytes) (refused stream start l h)
      | no h ↦ served-bytes stream start again (omega (arith, n)) ∙ ap (xor_pad (λ k. stream (start + k))) (served-bytes stream start l (omega arith)) ∙ pad-twice (λ k. stream (start + k)) l
    ]

-- neighbours
module _ (stream : ℕ → ℕ) (start : ℕ) (front back : List ℕ) where
  both : length (front ++ back) ≡ length front + length back
  both = length-append front back

  second-number : (stretch_by stream (start + length front) back).number ≡ (stretch_by stream start (front ++ back)).number
  second-number =
      elim (dec_lt keystream_end (start + length (front ++ back))) [
        | yes h ↦ refused-number stream (start + length front) back (omega (arith, both)) ∙ sym (refused-number stream start (front ++ back) h)
        | no h ↦ served-number stream (start + length front) back (omega (arith, both)) ∙ sym (served-number stream start (front ++ back) (omega arith))
      ]

  joined_bytes : start + length (front ++ back) ≤ keystream_end
      → (stretch_by stream start front).bytes ++ (stretch_by stream (start + length front) back).bytes ≡ (stretch_by stream start (front ++ back)).bytes
  joined_bytes h =
      ap₂ (λ (u v : List ℕ). u ++ v)
      (served-bytes stream start front (omega (arith, both)))
      (served-bytes stream (start + length front) back (omega (arith, both))
      ∙ pad-ext (λ k. stream (start + length front + k)) (λ k. stream (start + (length front + k))) back (λ k b. ap stream (omega arith)))
      ∙ sym (served-bytes stream start (front ++ back) h ∙ pad-append (λ k. stream (start + k)) front back)

  pub neighbours-join : NeighboursJoin stream start front back
  neighbours-join =
      record {
        first = λ z. served-number stream start front (omega (arith, both, ends-within stream start (front ++ back) z));
        second = second-number;
        bytes = λ z. joined_bytes (ends-within stream start (front ++ back) z);
      }

-- a stretch depends on the keystream up to its end only
pub stretch-ext : (made stream : ℕ → ℕ) → ((k : ℕ) → k < keystream_end → made k ≡ stream k) → (start : ℕ) (l : List ℕ)
    → stretch_by made start l ≡ stretch_by stream start l
stretch-ext made stream same start l =
    elim (dec_lt keystream_end (start + length l)) [
      | yes h ↦ refused made start l h ∙ sym (refused stream start l h)
      | no h ↦ served made start l (omega arith)
          ∙ ap (λ (m : List ℕ). record { number = 0; bytes = m }) (pad-ext (λ k. made (start + k)) (λ k. stream (start + k)) l (λ k b. same (start + k) (omega arith)))
          ∙ sym (served stream start l (omega arith))
    ]

-- in place: a part lent, and back with its stretch
pub part_length : (a e : ℕ) (l : List ℕ) → e ≤ length l → length (take (e - a) (drop a l)) ≡ e - a
part_length a e l n = length-take-le (e - a) (drop a l) (simp length-drop (omega arith))

pub stretch-back : (stream : ℕ → ℕ) (a e o : ℕ) (l ys : List ℕ) → a ≤ e → e ≤ length l → o + (e - a) ≤ keystream_end → ys ≡ (stretch_by stream o (take (e - a) (drop a l))).bytes
    → take a l ++ (ys ++ drop (e - a) (drop a l)) ≡ xor_pad (stretch_pad a e o stream) l
stretch-back stream a e o l ys h n b ey =
    stretch-part a e o stream l ys h n (ey ∙ served-bytes stream o (take (e - a) (drop a l)) (omega (arith, part_length a e l n)))

pub stretch-placed : (stream : ℕ → ℕ) (a e o : ℕ) (l : List ℕ) → a ≤ e → e ≤ length l → (stretch_by stream o (take (e - a) (drop a l))).number ≡ 0
    → xor_pad (stretch_pad a e o stream) l ≡ take a l ++ ((stretch_by stream o (take (e - a) (drop a l))).bytes ++ drop e l)
stretch-placed stream a e o l h n z =
    let part = take (e - a) (drop a l) in
    let ys = (stretch_by stream o part).bytes in
    let q : a + (e - a) ≡ e = omega arith in
    sym (stretch-back stream a e o l ys h n (omega (arith, part_length a e l n, ends-within stream o part z)) refl)
    ∙ ap (λ (r : List ℕ). take a l ++ (ys ++ r)) (drop-drop (e - a) a l ∙ ap (λ (m : ℕ). drop m l) q)
