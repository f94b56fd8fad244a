-- What a stream remembers, and an index judged beside it (document 01, numbers 12 and 13; RFC 3711, 3.3.2), with b blocks and width W.
use Rattle.bits.specs.declared.refusal.Refusal.{Refusal}
use Rattle.std.specs.Prelude.{Bool, true, false, ℕ, ◌+◌, max, leb, replicate, Result, Ok, Err}
use Rattle.bits.specs.Pick.{pick}
use Rattle.bits.specs.declared.refusal.Refusal.TheVariants as refusal
use Rattle.replay.specs.Window.{Window, seen_in, mark_of}

-- `highest` is the highest index accepted, or the last one sent, and counts only where a packet was (`started`).
pub record ReplayState : Type 0 where
  pub started : Bool
  pub highest : ℕ
  pub window : Window

-- before the first packet
abbrev pub fresh_of : ℕ → ReplayState
fresh_of b = record { started = false; highest = 0; window = record { stamps = replicate b 0; bits = replicate b 0 } }

-- OLD: W or more behind the highest. REPEAT: accepted before, less than W behind. A first packet is neither.
unfoldable pub judge_of : ℕ → ℕ → ReplayState → ℕ → Result ℕ Refusal
judge_of b W s i =
    pick s.started
    (pick (leb (i + W) s.highest) (Err refusal.Old)
    (pick (seen_in b s.window i) (Err refusal.Repeat)
    (Ok i)))
    (Ok i)

-- the state with index i accepted
unfoldable pub accept_of : ℕ → ReplayState → ℕ → ReplayState
accept_of b s i =
    record { started = true; highest = pick s.started (max s.highest i) i; window = mark_of b s.window i }

-- "A record changes only on success."
abbrev pub after_of : ℕ → ReplayState → Result ℕ Refusal → ReplayState
after_of b s (Ok i) = accept_of b s i
after_of b s (Err r) = s
