-- Document 01, "Index and record" (RFC 3711, 3.3.1): the index that a receiver guesses for a sequence number SEQ.
use Rattle.std.specs.Prelude.{◌&&◌, ℕ, ◌+◌, ◌-◌, ◌/◌, ◌%◌, ltb, leb, ℤ, pos, ◌+ℤ◌, ◌-ℤ◌, ◌*ℤ◌}
use Rattle.std.proofs.Math.IntN.{sub_ℕ}
use Rattle.bits.specs.Pick.{pick}

-- s, the low 16 bits of an index, and R, its rollover counter
abbrev pub low_of : ℕ → ℕ
low_of i = i % 65536

abbrev pub rollover_of : ℕ → ℕ
rollover_of i = i / 65536

-- The rollover counter of the guess: R - 1, R + 1 or R. It is an integer, since R - 1 is below 0 where R is 0.
-- SEQ - s stops at 0 where SEQ is below s, and is then not above 32,768 either.
abbrev pub guessed_rollover : ℕ → ℕ → ℕ → ℤ
guessed_rollover s r seq =
    pick (ltb s 32768 && ltb 32768 (seq - s)) (sub_ℕ r 1)
    (pick (leb 32768 s && ltb seq (s - 32768)) (pos (r + 1))
    (pos r))

-- the guessed index, beside the highest accepted index h
unfoldable pub guess_of : ℕ → ℕ → ℤ
guess_of h seq = guessed_rollover (low_of h) (rollover_of h) seq *ℤ pos 65536 +ℤ pos seq

-- the same, told as a signed distance from the highest accepted index
unfoldable pub distance_of : ℕ → ℕ → ℤ
distance_of h seq = guess_of h seq -ℤ pos h
