-- Lists of calls on two memories.
use mathlib.Core.Path.{◌≡◌, refl, ap, ap₂, ◌∙◌}
use mathlib.Core.List.{List, [], ◌∷◌}
use Prim.Native.Nat.{ℕ}
use borrow.Author.Tests.{eq-eqb}
use lib.ListN.{length}
use Rattle.bits.specs.Lists.{Each}
use Rattle.policies.specs.declared.policy.Way.{Way}
use Rattle.policies.specs.declared.policy.Way.TheVariants.{Sending, Receiving}
use Rattle.session.specs.Session.{Session}
use Rattle.session.specs.Adding.{add_of}
use Rattle.session.specs.Packets.{Answer}
use Rattle.session.specs.Calls.{add_call}
use Rattle.session.specs.Memory.{size, decode}
use Rattle.session.proofs.Decoding.{Holds, call-answers, call-holds, added-holds}
use Rattle.theorems.specs.Lists.{End, sender, receiver, Call, add, protect, unprotect, end_of, Sessions, session_at, with_session, add_outcome, outcome_of, answer_of, next, event, Run, run}
use Rattle.theorems.specs.Memories.{Memories, memory_at, with_memory, way_number, left_by, next_in, decoded, run_in, held, Sized, Words32, AnswersAsSessions}

-- ---- one call

module _ (words : List ℕ) (sized : length words ≡ size) where
  add-answers : (ssrc rollover : ℕ) (way : Way) → (add_call words ssrc (way_number way) rollover).answer ≡ (add_outcome (add_of (decode words) ssrc way rollover)).answer
  unfolding add_call
  add-answers ssrc rollover Sending = rw (eq-eqb (length words) size sized)
  add-answers ssrc rollover Receiving = rw (eq-eqb (length words) size sized)

  answers : (c : Call) → (left_by words c).answer ≡ (outcome_of (decode words) c).answer
  answers (add e ssrc way rollover) = add-answers ssrc rollover way
  answers (protect e buf n) = call-answers words sized buf n Sending
  answers (unprotect e buf n) = call-answers words sized buf n Receiving

  add_holds : (ssrc rollover : ℕ) → (e : End) (way : Way) → Words32 (add e ssrc way rollover) → Holds (add_call words ssrc (way_number way) rollover) (add_of (decode words) ssrc way rollover).session
  unfolding add_call
  add_holds ssrc rollover e Sending w = rw (eq-eqb (length words) size sized) (added-holds words sized ssrc rollover w.0 w.1 Sending)
  add_holds ssrc rollover e Receiving w = rw (eq-eqb (length words) size sized) (added-holds words sized ssrc rollover w.0 w.1 Receiving)

  pub holds : (c : Call) → Words32 c → Holds (left_by words c) (outcome_of (decode words) c).session
  holds (add e ssrc way rollover) w = add_holds ssrc rollover e way w
  holds (protect e buf n) w = call-holds words sized buf n Sending
  holds (unprotect e buf n) w = call-holds words sized buf n Receiving

-- ---- on two memories

pub at-end : (e : End) (m : Memories) → decode (memory_at e m) ≡ session_at e (decoded m)
at-end sender m = refl
at-end receiver m = refl

with-end : (e : End) (m : Memories) (words : List ℕ) → decoded (with_memory e m words) ≡ with_session e (decoded m) (decode words)
with-end sender m words = refl
with-end receiver m words = refl

pub sized-at : (e : End) (m : Memories) → Sized m → length (memory_at e m) ≡ size
sized-at sender m s = s.at_sender
sized-at receiver m s = s.at_receiver

sized-with : (e : End) (m : Memories) (words : List ℕ) → Sized m → length words ≡ size → Sized (with_memory e m words)
sized-with sender m words s l = record { at_sender = l; at_receiver = s.at_receiver }
sized-with receiver m words s l = record { at_sender = s.at_sender; at_receiver = l }

module _ (m : Memories) (s : Sized m) (c : Call) (w : Words32 c) where
  after_call : Holds (left_by (memory_at (end_of c) m) c) (outcome_of (decode (memory_at (end_of c) m)) c).session
  after_call = holds (memory_at (end_of c) m) (sized-at (end_of c) m s) c w

  pub next-sized : Sized (next_in m c)
  next-sized = sized-with (end_of c) m (left_by (memory_at (end_of c) m) c).words s after_call.long

  pub next-decoded : decoded (next_in m c) ≡ next (decoded m) c
  next-decoded =
      with-end (end_of c) m (left_by (memory_at (end_of c) m) c).words
      ∙ ap (with_session (end_of c) (decoded m)) (after_call.session ∙ ap (λ (t : Session). (outcome_of t c).session) (at-end (end_of c) m))

  same_answer : (left_by (memory_at (end_of c) m) c).answer ≡ answer_of (decoded m) c
  same_answer = answers (memory_at (end_of c) m) (sized-at (end_of c) m s) c ∙ ap (λ (t : Session). (outcome_of t c).answer) (at-end (end_of c) m)

-- ---- the claim

same-run : (m : Memories) → Sized m → (calls : List Call) → Each Words32 calls → held (run_in m calls) ≡ run (decoded m) calls
same-run m s [] w = refl
same-run m s (c ∷ calls) w =
    ap₂ (λ (a : Answer) (r : Run Sessions). record { events = event c a ∷ r.events; left = r.left }) (same_answer m s c w.0)
    (same-run (next_in m c) (next-sized m s c w.0) calls w.1 ∙ ap (λ (t : Sessions). run t calls) (next-decoded m s c w.0))

pub answer-as-sessions : AnswersAsSessions
unfolding AnswersAsSessions
answer-as-sessions = same-run
