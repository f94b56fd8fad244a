-- The answers of the definitions, one law for each way to an answer.
use Rattle.std.specs.Prelude.{Ok, Err}
use mathlib.Core.Path.{◌≡◌, ◌∙◌}
use mathlib.Core.Bool.{true, false}
use Prim.Native.Nat.{ℕ, ◌+◌, ◌*◌, ◌^◌, ◌<◌, ◌≤◌}
use borrow.Author.Tests.{lt-leb, le-leb}
use lib.Dec.{leb}
use lib.IntN.{ℤ, pos}
use Rattle.bits.specs.declared.refusal.Refusal.TheVariants as refusal
use Rattle.replay.specs.State.{ReplayState, judge_of, accept_of, after_of}
use Rattle.replay.specs.Guess.{guess_of, distance_of}
use Rattle.replay.specs.Window.{seen_in}
use Rattle.replay.specs.Receive.{judge_index, receive_of}
use Rattle.replay.specs.Send.{step_of, stepped_of, next_of}

module _ (b W : ℕ) (s : ReplayState) (i : ℕ) where
  pub first_taken : s.started ≡ false → judge_of b W s i ≡ Ok i
  unfolding judge_of
  first_taken e = simp e

  pub old : s.started ≡ true → leb (i + W) s.highest ≡ true → judge_of b W s i ≡ Err refusal.Old
  unfolding judge_of
  old e o = simp (e, o)

  pub repeated : s.started ≡ true → leb (i + W) s.highest ≡ false → seen_in b s.window i ≡ true → judge_of b W s i ≡ Err refusal.Repeat
  unfolding judge_of
  repeated e o r = simp (e, o, r)

  pub taken : s.started ≡ true → leb (i + W) s.highest ≡ false → seen_in b s.window i ≡ false → judge_of b W s i ≡ Ok i
  unfolding judge_of
  taken e o r = simp (e, o, r)

  pub worn : 2 ^ 48 ≤ i → judge_index b W s (pos i) ≡ Err refusal.Worn
  worn h = simp (le-leb (2 ^ 48) i h)

  pub unworn : i < 2 ^ 48 → judge_index b W s (pos i) ≡ judge_of b W s i
  unworn h = simp (lt-leb (2 ^ 48) i h)

pub first-sent : (s : ReplayState) (rollover seq : ℕ) → s.started ≡ false → next_of s rollover seq ≡ Ok (rollover * 65536 + seq)
unfolding next_of
first-sent s rollover seq e = simp e

pub later-sent : (s : ReplayState) (rollover seq : ℕ) → s.started ≡ true → next_of s rollover seq ≡ stepped_of s.highest (step_of s.highest seq)
unfolding next_of
later-sent s rollover seq e = simp e

module _ (b W : ℕ) (s : ReplayState) (rollover seq : ℕ) where
  -- a first packet takes the index that rollover and sequence number make
  pub first-received : s.started ≡ false → rollover * 65536 + seq < 2 ^ 48
      → receive_of b W s rollover seq ≡ record { judged = Ok (rollover * 65536 + seq); distance = pos 0; state = accept_of b s (rollover * 65536 + seq) }
  unfolding receive_of
  first-received e h =
      let t : judge_index b W s (pos (rollover * 65536 + seq)) ≡ Ok (rollover * 65536 + seq) =
      unworn b W s (rollover * 65536 + seq) h ∙ first_taken b W s (rollover * 65536 + seq) e in
      simp (e, t)

  -- a later one is judged at its guess
  pub later-received : (z d : ℤ) → s.started ≡ true → guess_of s.highest seq ≡ z → distance_of s.highest seq ≡ d
      → receive_of b W s rollover seq ≡ record { judged = judge_index b W s z; distance = d; state = after_of b s (judge_index b W s z) }
  unfolding receive_of
  later-received z d e g k = simp (e, g, k)
