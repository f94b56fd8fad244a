-- Document 01, "Index and record" and numbers 11 to 13: the step of a receiver, with b blocks and width W.
use Rattle.bits.specs.declared.refusal.Refusal.{Refusal}
use Rattle.std.specs.Prelude.{ℕ, ◌+◌, ◌*◌, ◌^◌, leb, ℤ, pos, negsuc, Result, Err}
use Rattle.bits.specs.Pick.{pick}
use Rattle.bits.specs.declared.refusal.Refusal.TheVariants as refusal
use Rattle.replay.specs.Guess.{guess_of, distance_of}
use Rattle.replay.specs.State.{ReplayState, judge_of, after_of}

-- `distance` is the guessed index less the highest accepted one. `state` is the state as it becomes: unchanged with a refusal.
pub record Received : Type 0 where
  pub judged : Result ℕ Refusal
  pub distance : ℤ
  pub state : ReplayState

-- the first packet has index rollover * 65,536 + SEQ, a later one the guess
abbrev pub index_for : ReplayState → ℕ → ℕ → ℤ
index_for s rollover seq = pick s.started (guess_of s.highest seq) (pos (rollover * 65536 + seq))

-- The distance of a first packet is free: there is no highest index to tell it from. It is 0.
abbrev pub distance_for : ReplayState → ℕ → ℤ
distance_for s seq = pick s.started (distance_of s.highest seq) (pos 0)

-- WORN: past 2^48 - 1. OLD: below 0, or W or more behind the highest. REPEAT: accepted before, less than W behind.
-- Any highest index has an answer, also one of 2^48 or more, which no step makes.
abbrev pub judge_index : ℕ → ℕ → ReplayState → ℤ → Result ℕ Refusal
judge_index b W s (pos i) = pick (leb (2 ^ 48) i) (Err refusal.Worn) (judge_of b W s i)
judge_index b W s (negsuc n) = Err refusal.Old

unfoldable pub receive_of : ℕ → ℕ → ReplayState → ℕ → ℕ → Received
receive_of b W s rollover seq =
    record {
      judged = judge_index b W s (index_for s rollover seq);
      distance = distance_for s seq;
      state = after_of b s (judge_index b W s (index_for s rollover seq));
    }
