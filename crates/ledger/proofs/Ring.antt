-- The ring of b blocks as a set of indices: what is marked is seen, what is near and was seen is seen still, and nothing else is seen.
use mathlib.Core.Path.{◌≡◌, refl, sym, ◌∙◌}
use mathlib.Core.Bool.{true}
use mathlib.Core.Logic.{⊎_elim}
use Prim.Native.Nat.{ℕ, suc, ◌+◌, ◌*◌, ◌/◌, ◌%◌, ◌^◌, ◌<◌, ◌≤◌}
use native.Mathlib.Decide.{dec_lt}
use native.Mathlib.Nat.{mod-lt, div-add-mod', mul-le-mul_right, suc-mul}
use native.Mathlib.Omega.{arith}
use borrow.Author.Tests.{eq-eqb, ne_eqb}
use lib.Bits.{bit_or}
use lib.ListN.{length, get_or, set, length-set}
use lib.Seq.{get_or-set_same, get_or-set_other}
use Rattle.bits.proofs.Bits.{or_same, or-other, no-bit}
use Rattle.bits.proofs.Tests.{same?}
use Rattle.replay.specs.Window.{Window, block_of, seen_in, mark_of}

-- ---- places

-- two numbers less than b apart have two places
apart : (b m n : ℕ) → m < n → n < m + b → m % b ≡ n % b → ⊥
apart b m n l u e =
    elim (dec_lt (m / b) (n / b)) [
      | yes p ↦ let q : suc (m / b) * b ≤ n / b * b = mul-le-mul_right b p in omega (arith, suc-mul (m / b) b, div-add-mod' m b, div-add-mod' n b)
      | no p ↦ let r : n / b ≤ m / b = omega arith in let q : n / b * b ≤ m / b * b = mul-le-mul_right b r in omega (arith, div-add-mod' m b, div-add-mod' n b)
    ]

two-places : (b m n : ℕ) → (m ≡ n → ⊥) → m < n + b → n < m + b → m % b ≡ n % b → ⊥
two-places b m n d l u e =
    elim (dec_lt m n) [ yes p ↦ apart b m n p u e | no p ↦ apart b n m (omega arith) l (sym e) ]

-- ---- a window of b blocks

pub record Whole (b : ℕ) (w : Window) : Type 0 where
  pub stamps : length w.stamps ≡ b
  pub bits : length w.bits ≡ b

pub mark-whole : (b : ℕ) (w : Window) (i : ℕ) → Whole b w → Whole b (mark_of b w i)
unfolding mark_of
mark-whole b w i h = record { stamps = simp length-set h.stamps; bits = simp length-set h.bits }

module _ (b : ℕ) (some : 0 < b) (w : Window) (whole : Whole b w) (i : ℕ) where
  in-stamps : i / 64 % b < length w.stamps
  in-stamps = rw whole.stamps (mod-lt (i / 64) some)

  in-bits : i / 64 % b < length w.bits
  in-bits = rw whole.bits (mod-lt (i / 64) some)

  block_same : block_of b (mark_of b w i) (i / 64) ≡ bit_or (block_of b w (i / 64)) (2 ^ (i % 64))
  unfolding mark_of
  block_same =
      let n : get_or (set w.stamps (i / 64 % b) (i / 64)) (i / 64 % b) 0 ≡ i / 64 =
      get_or-set_same w.stamps (i / 64 % b) (i / 64) 0 in-stamps in
      rw (n, eq-eqb (i / 64) (i / 64) refl) (get_or-set_same w.bits (i / 64 % b) (bit_or (block_of b w (i / 64)) (2 ^ (i % 64))) 0 in-bits)

  block-other : (n : ℕ) → (n % b ≡ i / 64 % b → ⊥) → block_of b (mark_of b w i) n ≡ block_of b w n
  unfolding mark_of
  block-other n h =
      rw (get_or-set_other w.stamps (i / 64 % b) (n % b) (i / 64) 0 h, get_or-set_other w.bits (i / 64 % b) (n % b) _ 0 h)

  block-gone : (n : ℕ) → n % b ≡ i / 64 % b → (n ≡ i / 64 → ⊥) → block_of b (mark_of b w i) n ≡ 0
  unfolding mark_of
  block-gone n e h =
      let s : get_or (set w.stamps (i / 64 % b) (i / 64)) (i / 64 % b) 0 ≡ i / 64 =
      get_or-set_same w.stamps (i / 64 % b) (i / 64) 0 in-stamps in
      rw (e, s, ne_eqb (i / 64) n (λ q. h (sym q)))

  pub seen_same : seen_in b (mark_of b w i) i ≡ true
  unfolding seen_in
  seen_same = rw block_same (or_same (block_of b w (i / 64)) (i % 64))

  -- another index in the same block is as it was
  seen-beside : (j : ℕ) → (j ≡ i → ⊥) → j / 64 ≡ i / 64 → seen_in b (mark_of b w i) j ≡ seen_in b w j
  unfolding seen_in
  seen-beside j h e = rw (e, block_same) (or-other (block_of b w (i / 64)) (j % 64) (i % 64) (λ q. h (omega arith)))

  -- one less than 64 * (b - 1) away is as it was: its block is the same, or stands in another place
  pub seen-near : (W : ℕ) → W + 64 ≤ 64 * b → (j : ℕ) → (j ≡ i → ⊥) → j < i + W → i < j + W → seen_in b (mark_of b w i) j ≡ seen_in b w j
  unfolding seen_in
  seen-near W room j h p q =
      ⊎_elim (λ e. seen-beside j h e)
      (λ d. rw (block-other (j / 64) (two-places b (j / 64) (i / 64) d (omega arith) (omega arith))))
      (same? (j / 64) (i / 64))

  -- nothing is seen that was not seen, but i
  pub seen-only : (j : ℕ) → (j ≡ i → ⊥) → seen_in b (mark_of b w i) j ≡ true → seen_in b w j ≡ true
  unfolding seen_in
  seen-only j h s =
      ⊎_elim (λ e. sym (seen-beside j h e) ∙ s)
      (λ d. ⊎_elim
      (λ e. absurd (no-bit (j % 64) (rw (block-gone (j / 64) e d) at s)))
      (λ e. rw (block-other (j / 64) e) at s)
      (same? (j / 64 % b) (i / 64 % b)))
      (same? (j / 64) (i / 64))
