-- Two neighbouring packet calls for different streams change places.
use mathlib.Core.Path.{◌≡◌, refl, ap, ◌∙◌, sym}
use mathlib.Core.Bool.{false}
use mathlib.Core.List.{List, [], ◌∷◌}
use mathlib.Core.Logic.{⊎_elim}
use Prim.Native.Nat.{ℕ, zero, suc}
use native.Mathlib.Omega.{arith}
use lib.ListN.{get_or}
use Rattle.bits.specs.Refusals.{number_of}
use Rattle.rtp_elements.specs.Mask.{among}
use Rattle.policies.specs.declared.policy.Way.{Way}
use Rattle.policies.specs.declared.policy.Way.TheVariants.{Sending, Receiving}
use Rattle.session.specs.Session.{Setup, Session}
use Rattle.session.specs.Records.{Found, record_for}
use Rattle.session.specs.Packets.{Effect, refuse, give, Answer, Outcome, settled}
use Rattle.session.proofs.Ways.{effect_by, outcome-is}
use Rattle.theorems.specs.Answers.{buffer_of}
use Rattle.theorems.specs.Lists.{End, sender, receiver, Call, add, protect, unprotect, end_of, Sessions, session_at, with_session, outcome_of, answer_of, next, Event, event, call_in, answer_in, no_event, after, events_of, Run, run}
use Rattle.theorems.specs.Places.{IsPacketCall, ssrc_in, way_in, LengthOrShort, DifferentStreams, exchanged, NeighboursChangePlaces}
use Rattle.theorems.proofs.Records.{clash}
use Rattle.theorems.proofs.Refusing.{late_numbers, Refuses, Early, Timing, early, later, timing}
use Rattle.theorems.proofs.Settling.{setup-settled, answer-settled, found-settled, settled-commute}
use Rattle.theorems.proofs.Holding.{setup-next}

-- ---- a packet call as its buffer and its effect

abbrev pub size_in : Call → ℕ
size_in (add e x w r) = 0
size_in (protect e buf n) = n
size_in (unprotect e buf n) = n

abbrev pub effect_in : Setup → Call → Found → Effect
effect_in h c = effect_by h (buffer_of c) (size_in c) (way_in c)

abbrev pub effect_of : Session → Call → Effect
effect_of s c = effect_in s.setup c (record_for s.records (ssrc_in c) (way_in c))

pub packet-call : (s : Session) (c : Call) → IsPacketCall c → outcome_of s c ≡ settled s (buffer_of c) (ssrc_in c) (way_in c) (effect_of s c)
packet-call s (add e x w r) k = absurd k
packet-call s (protect e buf n) k = outcome-is Sending s buf n
packet-call s (unprotect e buf n) k = outcome-is Receiving s buf n

-- ---- in one session

module _ (s : Session) (c d : Call) (kc : IsPacketCall c) (kd : IsPacketCall d) (differ : way_in c ≡ way_in d → ssrc_in c ≡ ssrc_in d → ⊥) where
  abbrev first : Outcome
  first = settled s (buffer_of c) (ssrc_in c) (way_in c) (effect_of s c)

  pub effect-kept : effect_of first.session d ≡ effect_of s d
  effect-kept =
      rw (setup-settled s (buffer_of c) (ssrc_in c) (way_in c) (effect_of s c), found-settled (ssrc_in c) (ssrc_in d) (way_in c) (way_in d) differ s (buffer_of c) (effect_of s c))

  answer-kept : (outcome_of (outcome_of s c).session d).answer ≡ (outcome_of s d).answer
  answer-kept =
      rw (packet-call s c kc, packet-call first.session d kd, packet-call s d kd, effect-kept)
      (answer-settled first.session s (buffer_of d) (ssrc_in d) (way_in d) (effect_of s d))

  second_is : (outcome_of (outcome_of s c).session d).session ≡ (settled first.session (buffer_of d) (ssrc_in d) (way_in d) (effect_of s d)).session
  second_is = rw (packet-call s c kc, packet-call first.session d kd, effect-kept)

sessions-commute : (s : Session) (c d : Call) → IsPacketCall c → IsPacketCall d → (way_in c ≡ way_in d → ssrc_in c ≡ ssrc_in d → ⊥)
    → (outcome_of (outcome_of s c).session d).session ≡ (outcome_of (outcome_of s d).session c).session
sessions-commute s c d kc kd differ =
    second_is s c d kc kd differ
    ∙ settled-commute (ssrc_in c) (ssrc_in d) (way_in c) (way_in d) differ s (buffer_of c) (buffer_of d) (effect_of s c) (effect_of s d)
    ∙ sym (second_is s d c kd kc (λ w y. differ (sym w) (sym y)))

-- ---- in two sessions

with-commute : (e f : End) (s : Sessions) (F G : Session → Session) → (e ≡ f → (t : Session) → G (F t) ≡ F (G t))
    → with_session f (with_session e s (F (session_at e s))) (G (session_at f (with_session e s (F (session_at e s)))))
    ≡ with_session e (with_session f s (G (session_at f s))) (F (session_at e (with_session f s (G (session_at f s)))))
with-commute sender sender s F G h = ap (λ (t : Session). record { at_sender = t; at_receiver = s.at_receiver }) (h refl s.at_sender)
with-commute sender receiver s F G h = refl
with-commute receiver sender s F G h = refl
with-commute receiver receiver s F G h = ap (λ (t : Session). record { at_sender = s.at_sender; at_receiver = t }) (h refl s.at_receiver)

with-answer : (e f : End) (s : Sessions) (F : Session → Session) (H : Session → Answer) → (e ≡ f → (t : Session) → H (F t) ≡ H t)
    → H (session_at f (with_session e s (F (session_at e s)))) ≡ H (session_at f s)
with-answer sender sender s F H h = h refl s.at_sender
with-answer sender receiver s F H h = refl
with-answer receiver sender s F H h = refl
with-answer receiver receiver s F H h = h refl s.at_receiver

with-own : (e : End) (s : Sessions) → with_session e s (session_at e s) ≡ s
with-own sender s = refl
with-own receiver s = refl

record Commute (s : Sessions) (c d : Call) : Type 0 where
  sessions : next (next s c) d ≡ next (next s d) c
  left : answer_of (next s d) c ≡ answer_of s c
  right : answer_of (next s c) d ≡ answer_of s d

apart-commute : (s : Sessions) (c d : Call) → IsPacketCall c → IsPacketCall d → (end_of c ≡ end_of d → way_in c ≡ way_in d → ssrc_in c ≡ ssrc_in d → ⊥) → Commute s c d
apart-commute s c d kc kd differ =
    record {
      sessions = with-commute (end_of c) (end_of d) s (λ t. (outcome_of t c).session) (λ t. (outcome_of t d).session) (λ e t. sessions-commute t c d kc kd (differ e));
      left = with-answer (end_of d) (end_of c) s (λ t. (outcome_of t d).session) (λ t. (outcome_of t c).answer) (λ e t. answer-kept t d c kd kc (λ w y. differ (sym e) (sym w) (sym y)));
      right = with-answer (end_of c) (end_of d) s (λ t. (outcome_of t c).session) (λ t. (outcome_of t d).answer) (λ e t. answer-kept t c d kc kd (differ e));
    }

-- ---- refused with LENGTH or SHORT

-- a refusal that looks at the record, or a result, has another number
not_late : (way : Way) → (among (late_numbers way) 1 ≡ false) × (among (late_numbers way) 2 ≡ false)
not_late Sending = (refl, refl)
not_late Receiving = (refl, refl)

late-read : (s : Session) (buf : List ℕ) (x : ℕ) (way : Way) (d : Effect) → Refuses (late_numbers way) d → LengthOrShort (settled s buf x way d).answer → ⊥
late-read s buf x way (refuse r) l a = ⊎_elim (λ z. clash _ (rw z at l) (not_late way).0) (λ z. clash _ (rw z at l) (not_late way).1) a
late-read s buf x way (give m b t) l a = ⊎_elim (λ z. omega arith) (λ z. omega arith) a

pub unread-early : (s : Session) (c : Call) → IsPacketCall c → LengthOrShort (outcome_of s c).answer → Early (effect_in s.setup c)
unread-early s c k a = go (timing s.setup (buffer_of c) (size_in c) (way_in c))
  where
    go : Timing (late_numbers (way_in c)) (effect_in s.setup c) → Early (effect_in s.setup c)
    go (early e) = e
    go (later l) =
        absurd (late-read s (buffer_of c) (ssrc_in c) (way_in c) (effect_of s c) (l (record_for s.records (ssrc_in c) (way_in c))) (rw (packet-call s c k) at a))

module _ (c : Call) (k : IsPacketCall c) (h : Setup) (e : Early (effect_in h c)) where
  abbrev refused_as : Answer
  refused_as = record { number = number_of e.reason; length = 0; buffer = buffer_of c }

  early-outcome : (s : Session) → s.setup ≡ h → outcome_of s c ≡ record { answer = refused_as; session = s }
  early-outcome s q =
      let f : effect_of s c ≡ refuse e.reason = rw q (e.refuses (record_for s.records (ssrc_in c) (way_in c))) in
      packet-call s c k ∙ ap (λ (d : Effect). settled s (buffer_of c) (ssrc_in c) (way_in c) d) f

  early-next : (s : Sessions) → (session_at (end_of c) s).setup ≡ h → next s c ≡ s
  early-next s q = ap (λ (o : Outcome). with_session (end_of c) s o.session) (early-outcome (session_at (end_of c) s) q) ∙ with-own (end_of c) s

  early-answer : (s : Sessions) → (session_at (end_of c) s).setup ≡ h → answer_of s c ≡ refused_as
  early-answer s q = ap (λ (o : Outcome). o.answer) (early-outcome (session_at (end_of c) s) q)

early-commute : (s : Sessions) (c d : Call) → IsPacketCall c → Early (effect_in (session_at (end_of c) s).setup c) → Commute s c d
early-commute s c d k e =
    let h : Setup = (session_at (end_of c) s).setup in
    let a : next s c ≡ s = early-next c k h e s refl in
    let b : next (next s d) c ≡ next s d = early-next c k h e (next s d) (setup-next (end_of c) s d) in
    record {
      sessions = ap (λ (t : Sessions). next t d) a ∙ sym b;
      left = early-answer c k h e (next s d) (setup-next (end_of c) s d) ∙ sym (early-answer c k h e s refl);
      right = ap (λ (t : Sessions). answer_of t d) a;
    }

flipped : (s : Sessions) (c d : Call) → Commute s d c → Commute s c d
flipped s c d o = record { sessions = sym o.sessions; left = o.right; right = o.left }

-- d is refused after c, so it is refused before
pub second-early : (s : Sessions) (c d : Call) → IsPacketCall d → LengthOrShort (answer_of (next s c) d) → Early (effect_in (session_at (end_of d) s).setup d)
second-early s c d k a = rw (setup-next (end_of d) s c) at (unread-early (session_at (end_of d) (next s c)) d k a)

commute : (s : Sessions) (c d : Call) → IsPacketCall c → IsPacketCall d → DifferentStreams c (answer_of s c) d (answer_of (next s c) d) → Commute s c d
commute s c d kc kd a =
    ⊎_elim (λ f. apart-commute s c d kc kd f)
    (λ b. ⊎_elim
    (λ f. early-commute s c d kc (unread-early (session_at (end_of c) s) c kc f))
    (λ f. flipped s c d (early-commute s d c kd (second-early s c d kd f)))
    b)
    a

-- ---- along the list

pub record Neighbours (u v : Event) : Type 0 where
  pub first : IsPacketCall (call_in u)
  pub second : IsPacketCall (call_in v)
  pub differ : DifferentStreams (call_in u) (answer_in u) (call_in v) (answer_in v)

along : (k : ℕ) (calls : List Call) (s : Sessions) → Neighbours (get_or (events_of s calls) k no_event) (get_or (events_of s calls) (suc k) no_event)
    → run s (exchanged k calls) ≡ record { events = exchanged k (events_of s calls); left = after s calls }
along k [] s o = absurd o.first
along zero (c ∷ []) s o = absurd o.second
along zero (c ∷ d ∷ calls) s o = let q = commute s c d o.first o.second o.differ in rw (q.left, q.right, q.sessions)
along (suc k) (c ∷ calls) s o = ap (λ (r : Run Sessions). record { events = event c (answer_of s c) ∷ r.events; left = r.left }) (along k calls (next s c) o)

pub exchange : (s : Sessions) (calls : List Call) → NeighboursChangePlaces (run s) calls
exchange s calls k c d a b e f kc kd differ = along k calls s (rw (e, f) (record { first = kc; second = kd; differ = differ }))
