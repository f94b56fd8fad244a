-- A portion as two stretches, under any keystream and from any byte of it on.
use mathlib.Core.Path.{◌≡◌, sym, ap, ap₂, ◌∙◌}
use mathlib.Core.List.{List, ◌++◌}
use Prim.Native.Nat.{ℕ, ◌+◌, ◌-◌, ◌≤◌, ◌<◌}
use native.Mathlib.Decide.{dec_lt}
use native.Mathlib.Omega.{arith}
use mathlib.Core.Logic.{inl, inr}
use lib.ListN.{length, take, drop}
use Rattle.bits.specs.Xor.{xor_pad}
use Rattle.bits.proofs.Xor.{pad-ext, length-pad}
use Rattle.aes_cm.specs.Portion.{portion_pad}
use Rattle.stretches.specs.Stretch.{keystream_end, stretch_by, stretch_pad}
use Rattle.aes_cm.proofs.Portions.{before-first, in-first, in-gap, past-gap}
use Rattle.stretches.proofs.Stretches.{at_before, at-past, at_in, pad-join, stretch-done}
use Rattle.stretches.proofs.Parts.{part_length, stretch-back}

-- a portion is two stretches, of a keystream from byte o on
module _ (first stop rest o : ℕ) (ks : ℕ → ℕ) (up : first ≤ stop) (on : stop ≤ rest) where
  abbrev from : ℕ → ℕ
  from k = ks (o + k)

  low : (i : ℕ) → i < stop → portion_pad first stop rest from i ≡ stretch_pad first stop o ks i
  low i h =
      elim (dec_lt i first) [
        | yes u ↦ before-first first stop rest from i u ∙ sym (at_before first stop o ks i u)
        | no u ↦ in-first first stop rest from i (omega arith) h ∙ sym (at_in first stop o ks i (o + (i - first)) (omega arith) h (omega arith))
      ]

  high : (n i : ℕ) → stop ≤ i → i < n → portion_pad first stop rest from i ≡ stretch_pad rest n (o + (stop - first)) ks i
  high n i h b =
      elim (dec_lt i rest) [
        | yes u ↦ in-gap first stop rest from i (omega arith) h u ∙ sym (at_before rest n (o + (stop - first)) ks i u)
        | no u ↦ past-gap first stop rest from i (omega arith) h (omega arith)
            ∙ sym (at_in rest n (o + (stop - first)) ks i (o + (stop - first + (i - rest))) (omega arith) b (omega arith))
      ]

  pub two-stretches : (l : List ℕ)
      → xor_pad (stretch_pad rest (length l) (o + (stop - first)) ks) (xor_pad (stretch_pad first stop o ks) l) ≡ xor_pad (portion_pad first stop rest (λ k. ks (o + k))) l
  two-stretches l =
      pad-join (stretch_pad first stop o ks) (stretch_pad rest (length l) (o + (stop - first)) ks) (portion_pad first stop rest from) l
      (λ i b. elim (dec_lt i stop) [
        | yes u ↦ inr (at_before rest (length l) (o + (stop - first)) ks i (omega arith), sym (low i u))
        | no u ↦ inl (at-past first stop o ks i (omega arith) (omega arith), sym (high (length l) i (omega arith) b))
      ])

-- the portion's pad depends on the keystream's first bytes only
portion-ext : (first stop rest m : ℕ) (f g : ℕ → ℕ) → first ≤ stop → stop ≤ rest → ((k : ℕ) → k < m → f k ≡ g k)
    → (i : ℕ) → i < m → portion_pad first stop rest f i ≡ portion_pad first stop rest g i
portion-ext first stop rest m f g up on h i b =
    elim (dec_lt i first) [
      | yes u ↦ before-first first stop rest f i u ∙ sym (before-first first stop rest g i u)
      | no u ↦ elim (dec_lt i stop) [
        | yes v ↦ in-first first stop rest f i (omega arith) v ∙ h (i - first) (omega arith) ∙ sym (in-first first stop rest g i (omega arith) v)
        | no v ↦ elim (dec_lt i rest) [
          | yes w ↦ in-gap first stop rest f i (omega arith) (omega arith) w ∙ sym (in-gap first stop rest g i (omega arith) (omega arith) w)
          | no w ↦ past-gap first stop rest f i (omega arith) (omega arith) (omega arith)
              ∙ h (stop - first + (i - rest)) (omega arith)
              ∙ sym (past-gap first stop rest g i (omega arith) (omega arith) (omega arith))
        ]
      ]
    ]

-- the two stretches of the code are the portion: each part lent, and back
module _ (stream : ℕ → ℕ) (o first stop rest : ℕ) (l : List ℕ) (up : first ≤ stop) (on : stop ≤ rest) (to : rest ≤ length l) (end : o + length l ≤ keystream_end) where
  -- the first stretch may be empty
  pub one-part : (ys : List ℕ) → first ≡ stop → ys ≡ (stretch_by stream o (take (length l - rest) (drop rest l))).bytes
      → take rest l ++ (ys ++ drop (length l - rest) (drop rest l)) ≡ xor_pad (portion_pad first stop rest (λ k. stream (o + k))) l
  one-part ys none ey =
      let z : o ≡ o + (stop - first) = omega arith in
      stretch-back stream rest (length l) o l ys to (omega arith) (omega arith) ey
      ∙ ap₂ (λ (k : ℕ) (u : List ℕ). xor_pad (stretch_pad rest (length l) k stream) u) z (sym (stretch-done first stop o stream l (omega arith)))
      ∙ two-stretches first stop rest o stream up on l

  module _ (ys : List ℕ) (ey : ys ≡ (stretch_by stream o (take (stop - first) (drop first l))).bytes) where
    pub first_part : take first l ++ (ys ++ drop (stop - first) (drop first l)) ≡ xor_pad (stretch_pad first stop o stream) l
    first_part = stretch-back stream first stop o l ys up (omega arith) (omega arith) ey

    pub length-after : length (take first l ++ (ys ++ drop (stop - first) (drop first l))) ≡ length l
    length-after = ap length first_part ∙ length-pad (stretch_pad first stop o stream) l

    pub two-parts : (p : ℕ) (m zs : List ℕ) → p ≡ o + length (take (stop - first) (drop first l)) → m ≡ take first l ++ (ys ++ drop (stop - first) (drop first l))
        → zs ≡ (stretch_by stream p (take (length m - rest) (drop rest m))).bytes
        → take rest m ++ (zs ++ drop (length m - rest) (drop rest m)) ≡ xor_pad (portion_pad first stop rest (λ k. stream (o + k))) l
    two-parts p m zs ep em ez =
        let n : length m ≡ length l = ap length em ∙ length-after in
        let z : p ≡ o + (stop - first) = omega (arith, ep, part_length first stop l (omega arith)) in
        stretch-back stream rest (length m) p m zs (omega arith) (omega arith) (omega arith) ez
        ∙ ap (λ (e : ℕ). xor_pad (stretch_pad rest e p stream) m) n
        ∙ ap₂ (λ (k : ℕ) (u : List ℕ). xor_pad (stretch_pad rest (length l) k stream) u) z (em ∙ first_part)
        ∙ two-stretches first stop rest o stream up on l

-- and what its blocks are is the portion's keystream, as far as the buffer goes
pub portion-is : (made stream : ℕ → ℕ) (first stop rest : ℕ) (l m : List ℕ) → first ≤ stop → stop ≤ rest → ((k : ℕ) → k < length l → made k ≡ stream k)
    → m ≡ xor_pad (portion_pad first stop rest made) l → m ≡ xor_pad (portion_pad first stop rest stream) l
portion-is made stream first stop rest l m up on same e =
    e
    ∙ pad-ext (portion_pad first stop rest made) (portion_pad first stop rest stream) l
    (portion-ext first stop rest (length l) made stream up on same)
