-- What is claimed of the guess: where it leads, and that a near packet is guessed right.
use mathlib.Core.Path.{◌≡◌, sym, ◌∙◌}
use Prim.Native.Nat.{ℕ, suc, ◌+◌, ◌-◌, ◌<◌, ◌≤◌}
use native.Mathlib.Omega.{arith}
use lib.IntN.{ℤ, pos, sub_ℕ, nat_abs, ◌+ℤ◌, ◌-ℤ◌, +ℤ_comm, -ℤ-+ℤ_cancel, pos-ne-negsuc}
use Rattle.replay.specs.Guess.{low_of, guess_of, distance_of}
use Rattle.replay.proofs.Differences.{by_sign, lands}
use Rattle.replay.proofs.Guesses.{Offset, offset_of, by-guess, guess-is, distance_is}

-- a difference that is not negative
landed : (a b n : ℕ) → sub_ℕ a b ≡ pos n → a ≡ n + b
landed a b n =
    by_sign (λ (z : ℤ). z ≡ pos n → a ≡ n + b) a b
    (λ l e. absurd (pos-ne-negsuc n (b - suc a) (sym e)))
    (λ l e. let f : a - b ≡ n = cc in omega arith)

-- how far a difference goes
size : (a b n : ℕ) → a ≤ b + n → b ≤ a + n → nat_abs (sub_ℕ a b) ≤ n
size a b n h k = by_sign (λ (z : ℤ). nat_abs z ≤ n) a b (λ l. omega arith) (λ l. omega arith)

pub range : (h seq : ℕ) → seq < 65536 → nat_abs (distance_of h seq) ≤ 32768
range h seq small =
    rw (distance_is h seq small)
    (by-guess (λ (v : ℤ) (o : Offset). nat_abs (sub_ℕ o.up o.down) ≤ 32768) h seq small
    (λ p. size seq (low_of h + 65536) 32768 (omega arith) (omega arith))
    (λ p. size (seq + 65536) (low_of h) 32768 (omega arith) (omega arith))
    (λ p q. size seq (low_of h) 32768 (omega arith) (omega arith)))

pub reaches : (h seq : ℕ) → pos h +ℤ distance_of h seq ≡ guess_of h seq
unfolding distance_of
reaches h seq = +ℤ_comm (pos h) (guess_of h seq -ℤ pos h) ∙ -ℤ-+ℤ_cancel (guess_of h seq) (pos h)

-- an index that is guessed ends in the sequence number
pub guess-low : (h seq i : ℕ) → seq < 65536 → guess_of h seq ≡ pos i → low_of i ≡ seq
guess-low h seq i small e =
    by-guess (λ (v : ℤ) (o : Offset). sub_ℕ (h + o.up) o.down ≡ pos i → low_of i ≡ seq) h seq small
    (λ p f. let g = landed (h + seq) (low_of h + 65536) i f in omega arith)
    (λ p f. let g = landed (h + (seq + 65536)) (low_of h) i f in omega arith)
    (λ p q f. let g = landed (h + seq) (low_of h) i f in omega arith)
    (sym (guess-is h seq small) ∙ e)

pub near : (h i : ℕ) → i < h + 32768 → h < i + 32768 → guess_of h (low_of i) ≡ pos i
near h i p q =
    let small : low_of i < 65536 = omega arith in
    let e : h + (offset_of h (low_of i)).up ≡ i + (offset_of h (low_of i)).down =
    by-guess (λ (v : ℤ) (o : Offset). h + o.up ≡ i + o.down) h (low_of i) small (λ l. omega arith) (λ l. omega arith) (λ l m. omega arith) in
    guess-is h (low_of i) small ∙ lands (h + (offset_of h (low_of i)).up) (offset_of h (low_of i)).down i e

pub at_zero : (h : ℕ) → distance_of h (low_of h) ≡ pos 0
at_zero h =
    distance_is h (low_of h) (omega arith)
    ∙ by-guess (λ (v : ℤ) (o : Offset). sub_ℕ o.up o.down ≡ pos 0) h (low_of h) (omega arith)
    (λ l. absurd (omega arith)) (λ l. absurd (omega arith)) (λ l m. lands (low_of h) (low_of h) 0 (omega arith))
