-- The guess by two numbers, and what the code computes of it.
use mathlib.Core.Path.{◌≡◌, refl, sym, ap, ◌∙◌}
use lib.Dec.{ltb}
use Rattle.bits.specs.Pick.{pick}
use Rattle.std.proofs.lemmas.Int.{ints}
use Prim.Native.Nat.{ℕ, suc, ◌+◌, ◌-◌, ◌*◌, ◌<◌, ◌≤◌}
use native.Mathlib.Decide.{dec_lt}
use native.Mathlib.Omega.{arith}
use borrow.Author.Tests.{lt-ltb, le-ltb, lt-leb, le-leb}
use lib.IntN.{ℤ, pos, negsuc, sub_ℕ, ◌+ℤ◌, ◌-ℤ◌, ◌*ℤ◌}
use Rattle.replay.specs.Guess.{low_of, rollover_of, guessed_rollover, guess_of, distance_of}
use Rattle.replay.proofs.Differences.{by_sign, lands, same-difference, minus, minus_number}

-- the guess as two numbers: the guessed index is h + up - down
pub record Offset : Type 0 where
  pub up : ℕ
  pub down : ℕ

unfoldable pub offset_of : ℕ → ℕ → Offset
offset_of h seq =
    pick (ltb (low_of h) 32768)
    (pick (ltb (low_of h + 32768) seq) (record { up = seq; down = low_of h + 65536 }) (record { up = seq; down = low_of h }))
    (pick (ltb (seq + 32768) (low_of h)) (record { up = seq + 65536; down = low_of h }) (record { up = seq; down = low_of h }))

-- the three cases of the rule
module _ (P : ℤ → Offset → Type 0) (h seq : ℕ) (small : seq < 65536)
    (back : low_of h + 32768 < seq → P (sub_ℕ (rollover_of h) 1) (record { up = seq; down = low_of h + 65536 }))
    (forward : seq + 32768 < low_of h → P (pos (rollover_of h + 1)) (record { up = seq + 65536; down = low_of h }))
    (same : seq ≤ low_of h + 32768 → low_of h ≤ seq + 32768 → P (pos (rollover_of h)) (record { up = seq; down = low_of h })) where
  low : low_of h < 32768 → P (guessed_rollover (low_of h) (rollover_of h) seq) (offset_of h seq)
  unfolding offset_of
  low p =
      elim (dec_lt (low_of h + 32768) seq) [
        | yes q ↦
            simp (lt-ltb (low_of h) 32768 p, lt-ltb 32768 (seq - low_of h) (omega arith), lt-ltb (low_of h + 32768) seq q)
            (back q)
        | no q ↦
            simp (lt-ltb (low_of h) 32768 p, le-ltb 32768 (seq - low_of h) (omega arith), lt-leb 32768 (low_of h) p, le-ltb (low_of h + 32768) seq (omega arith))
            (same (omega arith) (omega arith))
      ]

  high : 32768 ≤ low_of h → P (guessed_rollover (low_of h) (rollover_of h) seq) (offset_of h seq)
  unfolding offset_of
  high p =
      elim (dec_lt (seq + 32768) (low_of h)) [
        | yes q ↦
            simp (le-ltb (low_of h) 32768 p, le-leb 32768 (low_of h) p, lt-ltb seq (low_of h - 32768) (omega arith), lt-ltb (seq + 32768) (low_of h) q)
            (forward q)
        | no q ↦
            simp (le-ltb (low_of h) 32768 p, le-leb 32768 (low_of h) p, le-ltb seq (low_of h - 32768) (omega arith), le-ltb (seq + 32768) (low_of h) (omega arith))
            (same (omega arith) (omega arith))
      ]

  pub by-guess : P (guessed_rollover (low_of h) (rollover_of h) seq) (offset_of h seq)
  by-guess = elim (dec_lt (low_of h) 32768) [ yes p ↦ low p | no p ↦ high (omega arith) ]

-- a rollover less
back_is : (h seq : ℕ) → sub_ℕ (rollover_of h) 1 *ℤ pos 65536 +ℤ pos seq ≡ sub_ℕ (h + seq) (low_of h + 65536)
back_is h seq =
    by_sign (λ (z : ℤ). z *ℤ pos 65536 +ℤ pos seq ≡ sub_ℕ (h + seq) (low_of h + 65536)) (rollover_of h) 1
    (λ l.
    let e : 1 - suc (rollover_of h) ≡ 0 = omega arith in
    ap (λ (n : ℕ). negsuc n *ℤ pos 65536 +ℤ pos seq) e ∙ same-difference seq 65536 (h + seq) (low_of h + 65536) (omega arith))
    (λ l. sym (lands (h + seq) (low_of h + 65536) ((rollover_of h - 1) * 65536 + seq) (omega arith)))

module _ (h seq : ℕ) (small : seq < 65536) where
  pub guess-is : guess_of h seq ≡ sub_ℕ (h + (offset_of h seq).up) (offset_of h seq).down
  unfolding guess_of
  guess-is =
      by-guess (λ (v : ℤ) (o : Offset). v *ℤ pos 65536 +ℤ pos seq ≡ sub_ℕ (h + o.up) o.down) h seq small
      (λ p. back_is h seq)
      (λ p. sym (lands (h + (seq + 65536)) (low_of h) ((rollover_of h + 1) * 65536 + seq) (omega arith)))
      (λ p q. sym (lands (h + seq) (low_of h) (rollover_of h * 65536 + seq) (omega arith)))

  pub distance_is : distance_of h seq ≡ sub_ℕ (offset_of h seq).up (offset_of h seq).down
  unfolding distance_of
  distance_is =
      let o = offset_of h seq in
      ap (λ (z : ℤ). z -ℤ pos h) guess-is
      ∙ minus_number (h + o.up) o.down h
      ∙ same-difference (h + o.up) (o.down + h) o.up o.down (omega arith)

  -- and in the code's three cases
  pub one_back : low_of h + 32768 < seq → distance_of h seq ≡ pos seq -ℤ pos (low_of h + 65536)
  unfolding offset_of
  one_back p = rw (distance_is, minus seq (low_of h + 65536)) (simp (lt-ltb (low_of h) 32768 (omega arith), lt-ltb (low_of h + 32768) seq p) refl)

  pub one_on : seq + 32768 < low_of h → distance_of h seq ≡ pos (seq + 65536) -ℤ pos (low_of h)
  unfolding offset_of
  one_on p = rw (distance_is, minus (seq + 65536) (low_of h)) (simp (le-ltb (low_of h) 32768 (omega arith), lt-ltb (seq + 32768) (low_of h) p) refl)

  pub same_rollover : seq ≤ low_of h + 32768 → low_of h ≤ seq + 32768 → distance_of h seq ≡ pos seq -ℤ pos (low_of h)
  unfolding offset_of
  same_rollover p q =
      rw (distance_is, minus seq (low_of h)) (elim (dec_lt (low_of h) 32768) [
        | yes l ↦ simp (lt-ltb (low_of h) 32768 l, le-ltb (low_of h + 32768) seq p) refl
        | no l ↦ simp (le-ltb (low_of h) 32768 (omega arith), le-ltb (seq + 32768) (low_of h) q) refl
      ])

  pub reached : pos h +ℤ distance_of h seq ≡ guess_of h seq
  reached =
      let o = offset_of h seq in
      rw (distance_is, guess-is, ← minus o.up o.down, ← minus (h + o.up) o.down) (omega (arith, ints))
