-- Document 01, "Lists of calls in demand 3": calls on a sender's and a receiver's session. "Each call gets its session as the last call on it left it."
use Rattle.std.specs.Prelude.{◌≡◌, List, [], ◌∷◌, ℕ, ◌<◌, get_or}
use Rattle.rtp_elements.specs.Mask.{among}
use Rattle.suites.specs.declared.suite.Suite.{Suite}
use Rattle.policies.specs.declared.policy.Way.{Way}
use Rattle.policies.specs.declared.policy.Way.TheVariants.{Sending}
use Rattle.session.specs.Session.{Session, Made}
use Rattle.session.specs.Making.{make_of}
use Rattle.session.specs.Adding.{add_of}
use Rattle.session.specs.Packets.{Answer, Outcome, protect_of, unprotect_of}

-- whose session a call is on
pub data End : Type 0 where
  sender : End
  receiver : End

-- add: SSRC, way and starting rollover. A packet call: what its buffer holds, and the length n that it is told.
pub data Call : Type 0 where
  add : End → ℕ → Way → ℕ → Call
  protect : End → List ℕ → ℕ → Call
  unprotect : End → List ℕ → ℕ → Call

abbrev pub end_of : Call → End
end_of (add e ssrc way rollover) = e
end_of (protect e buf n) = e
end_of (unprotect e buf n) = e

pub record Sessions : Type 0 where
  pub at_sender : Session
  pub at_receiver : Session

abbrev pub session_at : End → Sessions → Session
session_at sender s = s.at_sender
session_at receiver s = s.at_receiver

abbrev pub with_session : End → Sessions → Session → Sessions
with_session sender s t = record { at_sender = t; at_receiver = s.at_receiver }
with_session receiver s t = record { at_sender = s.at_sender; at_receiver = t }

-- "Both sessions start just made, with equal master key, master salt, policy and set.": the sender's from a list of ids, the receiver's from another. Since
-- document 02, CR 3, with equal suites too.
abbrev pub just_made : Suite → List ℕ → List ℕ → ℕ → List ℕ → List ℕ → Sessions
just_made suite key salt policy ids others =
    record { at_sender = (make_of suite key salt policy ids).session; at_receiver = (make_of suite key salt policy others).session }

-- two lists of the same ids from 1 to 255: order, repeats and 0 do not matter, and no byte is above 255
abbrev pub EqualSets : List ℕ → List ℕ → Type 0
EqualSets ids others = (id : ℕ) → 0 < id → id < 256 → among ids id ≡ among others id

-- ---- one call

-- an add has neither length nor buffer
abbrev pub add_outcome : Made → Outcome
add_outcome m = record { answer = record { number = m.number; length = 0; buffer = [] }; session = m.session }

abbrev pub outcome_of : Session → Call → Outcome
outcome_of s (add e ssrc way rollover) = add_outcome (add_of s ssrc way rollover)
outcome_of s (protect e buf n) = protect_of s buf n
outcome_of s (unprotect e buf n) = unprotect_of s buf n

abbrev pub answer_of : Sessions → Call → Answer
answer_of s c = (outcome_of (session_at (end_of c) s) c).answer

abbrev pub next : Sessions → Call → Sessions
next s c = with_session (end_of c) s (outcome_of (session_at (end_of c) s) c).session

-- ---- a list of calls

-- a call and its answer
pub data Event : Type 0 where
  event : Call → Answer → Event

abbrev pub call_in : Event → Call
call_in (event c a) = c

abbrev pub answer_in : Event → Answer
answer_in (event c a) = a

-- the event of an add with a result; and what is read past the end of the events: a refused add, so that it is never taken for one
abbrev pub added : End → ℕ → Way → ℕ → Event
added e ssrc way rollover = event (add e ssrc way rollover) (record { number = 0; length = 0; buffer = [] })

abbrev pub no_event : Event
no_event = event (add sender 0 Sending 0) (record { number = 15; length = 0; buffer = [] })

abbrev pub events_of : Sessions → List Call → List Event
events_of s [] = []
events_of s (c ∷ calls) = event c (answer_of s c) ∷ events_of (next s c) calls

abbrev pub after : Sessions → List Call → Sessions
after s [] = s
after s (c ∷ calls) = after (next s c) calls

-- every answer, in order, and what is left: both sessions, or the memories that hold them
pub record Run (S : Type 0) : Type 0 where
  pub events : List Event
  pub left : S

abbrev pub run : Sessions → List Call → Run Sessions
run s calls = record { events = events_of s calls; left = after s calls }

-- What is handed to protect is bytes. Definitions speak of numbers, so this has to be said; the code's types say it.
abbrev pub Bytes : Call → Type 0
Bytes (add e ssrc way rollover) = Unit {0}
Bytes (protect e buf n) = (i : ℕ) → get_or buf i 0 < 256
Bytes (unprotect e buf n) = Unit {0}
