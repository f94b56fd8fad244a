-- Document 01, "Index and record" and numbers 10 and 11: the step of a sender.
use Rattle.bits.specs.declared.refusal.Refusal.{Refusal}
use Rattle.std.specs.Prelude.{true, not, ◌&&◌, ℕ, ◌+◌, ◌-◌, ◌*◌, ◌%◌, ◌^◌, leb, Result, Ok, Err}
use Rattle.bits.specs.Pick.{pick}
use Rattle.bits.specs.declared.refusal.Refusal.TheVariants as refusal
use Rattle.replay.specs.State.{ReplayState}
use Rattle.replay.specs.Guess.{low_of}

-- `state` is the state as it becomes: unchanged with a refusal.
pub record Sent : Type 0 where
  pub judged : Result ℕ Refusal
  pub state : ReplayState

-- the step: the sequence number minus the last's, modulo 65,536
unfoldable pub step_of : ℕ → ℕ → ℕ
step_of last seq = (seq + 65536 - low_of last) % 65536

-- The last index plus the step. ORDER: the step is not 1 to 32,767. WORN: the index would pass 2^48 - 1.
abbrev pub stepped_of : ℕ → ℕ → Result ℕ Refusal
stepped_of last step =
    pick (not (leb 1 step && leb step 32767)) (Err refusal.Order)
    (pick (leb (2 ^ 48) (last + step)) (Err refusal.Worn)
    (Ok (last + step)))

-- the first packet has index rollover * 65,536 + SEQ, and gets neither refusal
unfoldable pub next_of : ReplayState → ℕ → ℕ → Result ℕ Refusal
next_of s rollover seq =
    pick s.started (stepped_of s.highest (step_of s.highest seq)) (Ok (rollover * 65536 + seq))

-- "A record changes only on success." A sender keeps its last index only.
abbrev pub sent_of : ReplayState → Result ℕ Refusal → ReplayState
sent_of s (Ok i) = record { started = true; highest = i; window = s.window }
sent_of s (Err r) = s

unfoldable pub send_of : ReplayState → ℕ → ℕ → Sent
send_of s rollover seq = record { judged = next_of s rollover seq; state = sent_of s (next_of s rollover seq) }
