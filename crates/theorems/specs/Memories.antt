-- Lists of calls on lent memory, which are the calls: two memories answer as the two sessions that they hold.
use Rattle.std.specs.Prelude.{◌≡◌, List, [], ◌∷◌, ℕ, ◌^◌, ◌<◌, length}
use Rattle.bits.specs.Lists.{Each}
use Rattle.policies.specs.declared.policy.Way.{Way}
use Rattle.policies.specs.declared.policy.Way.TheVariants.{Sending, Receiving}
use Rattle.session.specs.Calls.{Left, add_call, protect_call, unprotect_call}
use Rattle.session.specs.Memory.{size, decode}
use Rattle.theorems.specs.Lists.{End, sender, receiver, Call, add, protect, unprotect, end_of, Sessions, Event, event, Run, run}

-- ---- a list of calls on two memories

pub record Memories : Type 0 where
  pub at_sender : List ℕ
  pub at_receiver : List ℕ

abbrev pub memory_at : End → Memories → List ℕ
memory_at sender m = m.at_sender
memory_at receiver m = m.at_receiver

abbrev pub with_memory : End → Memories → List ℕ → Memories
with_memory sender m words = record { at_sender = words; at_receiver = m.at_receiver }
with_memory receiver m words = record { at_sender = m.at_sender; at_receiver = words }

-- the number of a way, as add takes it
abbrev pub way_number : Way → ℕ
way_number Sending = 0
way_number Receiving = 1

abbrev pub left_by : List ℕ → Call → Left
left_by words (add e ssrc way rollover) = add_call words ssrc (way_number way) rollover
left_by words (protect e buf n) = protect_call words buf n
left_by words (unprotect e buf n) = unprotect_call words buf n

abbrev pub next_in : Memories → Call → Memories
next_in m c = with_memory (end_of c) m (left_by (memory_at (end_of c) m) c).words

-- each call with its answer, both memories afterwards
abbrev pub events_in : Memories → List Call → List Event
events_in m [] = []
events_in m (c ∷ calls) = event c (left_by (memory_at (end_of c) m) c).answer ∷ events_in (next_in m c) calls

abbrev pub after_in : Memories → List Call → Memories
after_in m [] = m
after_in m (c ∷ calls) = after_in (next_in m c) calls

-- the sessions that two memories hold
abbrev pub decoded : Memories → Sessions
decoded m = record { at_sender = decode m.at_sender; at_receiver = decode m.at_receiver }

abbrev pub run_in : Memories → List Call → Run Memories
run_in m calls = record { events = events_in m calls; left = after_in m calls }

-- a run on memories as one on the sessions that they hold
abbrev pub held : Run Memories → Run Sessions
held r = record { events = r.events; left = decoded r.left }

-- ---- the claim

pub record Sized (m : Memories) : Type 0 where
  pub at_sender : length m.at_sender ≡ size
  pub at_receiver : length m.at_receiver ≡ size

-- SSRC and starting rollover are 32-bit numbers, as the code's types say.
abbrev pub Words32 : Call → Type 0
Words32 (add e ssrc way rollover) = (ssrc < 2 ^ 32) × (rollover < 2 ^ 32)
Words32 (protect e buf n) = Unit {0}
Words32 (unprotect e buf n) = Unit {0}

-- For any two memories, whatever they hold: every answer, and both sessions afterwards.
unfoldable pub AnswersAsSessions : Type 0
AnswersAsSessions = (m : Memories) → Sized m → (calls : List Call) → Each Words32 calls → held (run_in m calls) ≡ run (decoded m) calls
