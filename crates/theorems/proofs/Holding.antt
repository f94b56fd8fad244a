-- A stream's record through calls that are not its own; where an add leaves it; and nothing is sent before the add.
use mathlib.Core.Path.{◌≡◌, refl, ap, ◌∙◌, sym}
use mathlib.Core.Bool.{Bool, true, false}
use mathlib.Core.List.{List, [], ◌∷◌}
use Prim.Native.Nat.{ℕ, zero, suc}
use native.Mathlib.Omega.{arith}
use borrow.Author.Tests.{ne_eqb, eqb-true}
use lib.Dec.{eqb}
use lib.ListN.{get_or, take, drop}
use Rattle.bits.specs.Refusals.{number_of}
use Rattle.bits.proofs.Refusals.{above_zero}
use Rattle.bits.specs.Lists.{Each}
use Rattle.rtp_header.specs.Header.{ssrc_of}
use Rattle.policies.specs.declared.policy.Way.{Way}
use Rattle.policies.specs.declared.policy.Way.TheVariants.{Sending, Receiving}
use Rattle.session.specs.Session.{Record, Setup, Session}
use Rattle.session.specs.Records.{none, some, record_for, has_ssrc, fresh_record}
use Rattle.session.specs.Adding.{add_of}
use Rattle.session.specs.Packets.{Effect, refuse, give, settled, protect_of, unprotect_of}
use Rattle.session.proofs.Ways.{effect_by, done_by}
use Rattle.theorems.specs.Lists.{End, sender, receiver, Call, add, protect, unprotect, end_of, Sessions, session_at, with_session, outcome_of, answer_of, next, Event, event, call_in, added, no_event, events_of, Bytes}
use Rattle.theorems.specs.Sent.{Last, sent_from}
use Rattle.theorems.proofs.Records.{none_found, stored-ssrc, add-found, add-setup, add-new, add-made, add-absent, add-keeps}
use Rattle.theorems.proofs.Settling.{setup-settled, found-settled, none-given}

-- ---- a session with a record for a stream

pub record Holds (h : Setup) (x : ℕ) (w : Way) (r : Record) (s : Session) : Type 0 where
  pub setup : s.setup ≡ h
  pub found : record_for s.records x w ≡ some r

pub holds-add : (h : Setup) (x : ℕ) (w : Way) (r : Record) (s : Session) (y : ℕ) (v : Way) (rollover : ℕ) → Holds h x w r s
    → Holds h x w r (add_of s y v rollover).session
holds-add h x w r s y v rollover o =
    record { setup = add-setup s y v rollover ∙ o.setup; found = add-keeps s y v rollover x w r o.found }

pub holds-settled : (h : Setup) (x : ℕ) (w : Way) (r : Record) (s : Session) (buf : List ℕ) (y : ℕ) (v : Way) (d : Effect) → (v ≡ w → y ≡ x → ⊥)
    → Holds h x w r s → Holds h x w r (settled s buf y v d).session
holds-settled h x w r s buf y v d differ o =
    record { setup = setup-settled s buf y v d ∙ o.setup; found = found-settled y x v w differ s buf d ∙ o.found }

-- ---- no call changes a setup

pub setup-outcome : (s : Session) (c : Call) → (outcome_of s c).session.setup ≡ s.setup
unfolding protect_of unprotect_of
setup-outcome s (add e x w rollover) = add-setup s x w rollover
setup-outcome s (protect e buf n) = setup-settled s buf (ssrc_of (take n buf)) Sending (done_by Sending s buf n)
setup-outcome s (unprotect e buf n) = setup-settled s buf (ssrc_of (take n buf)) Receiving (done_by Receiving s buf n)

setup-with : (e f : End) (s : Sessions) (t : Session) → t.setup ≡ (session_at f s).setup → (session_at e (with_session f s t)).setup ≡ (session_at e s).setup
setup-with sender sender s t h = h
setup-with sender receiver s t h = refl
setup-with receiver sender s t h = refl
setup-with receiver receiver s t h = h

pub setup-next : (e : End) (s : Sessions) (c : Call) → (session_at e (next s c)).setup ≡ (session_at e s).setup
setup-next e s c = setup-with e (end_of c) s _ (setup-outcome (session_at (end_of c) s) c)

same_end : (e : End) (s : Sessions) (t : Session) → session_at e (with_session e s t) ≡ t
same_end sender s t = refl
same_end receiver s t = refl

-- ---- the place of an add

abbrev number_in : Event → ℕ
number_in (event c a) = a.number

-- what comes after the add is a run from sessions that hold the new record
pub record Behind (h : Setup) (e : End) (x : ℕ) (w : Way) (rollover : ℕ) (rest : List Event) : Type 0 where
  pub made : h.made ≡ true
  pub sessions : Sessions
  pub calls : List Call
  pub run : rest ≡ events_of sessions calls
  pub holds : Holds h x w (fresh_record x w rollover) (session_at e sessions)
  pub bytes : Each Bytes calls

module _ (h : Setup) (e : End) (x : ℕ) (w : Way) (rollover : ℕ) where
  added-made : (s : Sessions) (c : Call) → c ≡ add e x w rollover → (session_at e s).setup ≡ h → (answer_of s c).number ≡ 0 → h.made ≡ true
  added-made s c q k a =
      let a' : (add_of (session_at e s) x w rollover).number ≡ 0 = rw q at a in
      ap (λ (t : Setup). t.made) (sym k) ∙ add-made (session_at e s) x w rollover a'

  added-holds : (s : Sessions) (c : Call) → c ≡ add e x w rollover → (session_at e s).setup ≡ h → (answer_of s c).number ≡ 0
      → Holds h x w (fresh_record x w rollover) (session_at e (next s c))
  added-holds s c q k a =
      let a' : (add_of (session_at e s) x w rollover).number ≡ 0 = rw q at a in
      rw (q, same_end e s (add_of (session_at e s) x w rollover).session)
      (record { setup = add-setup (session_at e s) x w rollover ∙ k; found = add-found (session_at e s) x w rollover a' })

  pub behind-add : (cs : List Call) → Each Bytes cs → (s : Sessions) (i : ℕ) → (session_at e s).setup ≡ h
      → get_or (events_of s cs) i no_event ≡ added e x w rollover → Behind h e x w rollover (drop (suc i) (events_of s cs))
  behind-add [] b s i k q = let z : ◌≡◌ {A = ℕ} 15 0 = ap number_in q in absurd (omega arith)
  behind-add (c ∷ cs) b s zero k q =
      record {
        made = added-made s c (ap call_in q) k (ap number_in q);
        sessions = next s c;
        calls = cs;
        run = refl;
        holds = added-holds s c (ap call_in q) k (ap number_in q);
        bytes = b.1;
      }
  behind-add (c ∷ cs) b s (suc i) k q = behind-add cs b.1 (next s c) i (setup-next e s c ∙ k) q

-- ---- nothing of a stream is sent before its add

module _ (x rollover : ℕ) where
  absent-settled : (s : Session) (buf : List ℕ) (y : ℕ) (w : Way) (d : Effect) → has_ssrc (settled s buf y w d).session.records x ≡ false
      → has_ssrc s.records x ≡ false
  absent-settled s buf y w (refuse r) e = e
  absent-settled s buf y w (give m b t) e = sym (stored-ssrc x y w t s.records) ∙ e

  absent-next : (s : Sessions) (c : Call) → has_ssrc (next s c).at_sender.records x ≡ false → has_ssrc s.at_sender.records x ≡ false
  unfolding protect_of unprotect_of
  absent-next s (add sender y w r) e = add-absent s.at_sender y w r x e
  absent-next s (add receiver y w r) e = e
  absent-next s (protect sender buf n) e = absent-settled s.at_sender buf (ssrc_of (take n buf)) Sending (done_by Sending s.at_sender buf n) e
  absent-next s (protect receiver buf n) e = e
  absent-next s (unprotect sender buf n) e = absent-settled s.at_sender buf (ssrc_of (take n buf)) Receiving (done_by Receiving s.at_sender buf n) e
  absent-next s (unprotect receiver buf n) e = e

  absent-here : (s : Sessions) (c : Call) → c ≡ add sender x Sending rollover → (answer_of s c).number ≡ 0 → has_ssrc s.at_sender.records x ≡ false
  absent-here s c q a = add-new s.at_sender x Sending rollover (rw q at a)

  absent : (cs : List Call) (s : Sessions) (i : ℕ) → get_or (events_of s cs) i no_event ≡ added sender x Sending rollover → has_ssrc s.at_sender.records x ≡ false
  absent [] s i q = let z : ◌≡◌ {A = ℕ} 15 0 = ap number_in q in absurd (omega arith)
  absent (c ∷ cs) s zero q = absent-here s c (ap call_in q) (ap number_in q)
  absent (c ∷ cs) s (suc i) q = absent-next s c (absent cs (next s c) i q)

  -- a call that sends nothing of the stream
  quiet_effect : (s : Session) (buf : List ℕ) (n : ℕ) (last : Last) (es : List Event) (b : Bool) (d : Effect) → has_ssrc s.records x ≡ false
      → eqb (ssrc_of (take n buf)) x ≡ b → done_by Sending s buf n ≡ d
      → sent_from x rollover last (event (protect sender buf n) (settled s buf (ssrc_of (take n buf)) Sending d).answer ∷ es) ≡ sent_from x rollover last es
  quiet_effect s buf n last es false d a e f = rw e
  quiet_effect s buf n last es true (refuse r) a e f = rw (e, ne_eqb (number_of r) 0 (λ q. omega (arith, above_zero r)))
  quiet_effect s buf n last es true (give m b t) a e f =
      let y : ssrc_of (take n buf) ≡ x = eqb-true (ssrc_of (take n buf)) x e in
      let own : done_by Sending s buf n ≡ effect_by s.setup buf n Sending none = rw (y, none_found s.records x Sending a) in
      absurd (none-given s.setup buf n Sending m b t (sym own ∙ f))

  quiet : (s : Sessions) (c : Call) (last : Last) (es : List Event) → has_ssrc s.at_sender.records x ≡ false
      → sent_from x rollover last (event c (answer_of s c) ∷ es) ≡ sent_from x rollover last es
  unfolding protect_of
  quiet s (add e y w r) last es a = refl
  quiet s (protect sender buf n) last es a = quiet_effect s.at_sender buf n last es _ (done_by Sending s.at_sender buf n) a refl refl
  quiet s (protect receiver buf n) last es a = refl
  quiet s (unprotect e buf n) last es a = refl

  pub nothing-before : (cs : List Call) (s : Sessions) (i : ℕ) (last : Last) → get_or (events_of s cs) i no_event ≡ added sender x Sending rollover
      → sent_from x rollover last (events_of s cs) ≡ sent_from x rollover last (drop (suc i) (events_of s cs))
  nothing-before [] s i last q = refl
  nothing-before (c ∷ cs) s zero last q = quiet s c last (events_of (next s c) cs) (absent (c ∷ cs) s zero q)
  nothing-before (c ∷ cs) s (suc i) last q =
      quiet s c last (events_of (next s c) cs) (absent (c ∷ cs) s (suc i) q) ∙ nothing-before cs (next s c) i last q
