-- What a stream sends: each packet was protected under the index that the paper's rule gives it.
use Rattle.std.specs.Prelude.{Ok}
use mathlib.Core.Path.{◌≡◌, refl, ap, ◌∙◌, sym}
use mathlib.Core.Bool.{Bool, true, false, ◌&&◌}
use mathlib.Core.List.{List, [], ◌∷◌}
use Prim.Native.Nat.{ℕ, suc, ◌+◌, ◌-◌, ◌*◌, ◌%◌, ◌^◌, ◌<◌}
use native.Mathlib.Decide.{dec_lt}
use native.Mathlib.Omega.{arith}
use borrow.Author.Tests.{ne_eqb, eqb-true, eqb-false}
use lib.Dec.{eqb}
use lib.ListN.{length, get_or, take, drop, length-take, get_or-eq_default}
use lib.Seq.{take_at, get_or-take, length-take-le}
use Rattle.bits.specs.Pick.{pick}
use Rattle.bits.specs.Refusals.{number_of}
use Rattle.bits.proofs.Refusals.{above_zero}
use Rattle.bits.specs.Lists.{Each}
use Rattle.rtp_header.specs.Header.{header_number, layout_of, seq_of, ssrc_of}
use Rattle.replay.specs.State.{ReplayState}
use Rattle.replay.specs.Guess.{low_of}
use Rattle.replay.specs.Send.{step_of, sent_of, send_of}
use Rattle.ledger.proofs.Indices.{gives_at, next-gives, sending}
use Rattle.policies.specs.declared.policy.Way.TheVariants.{Sending, Receiving}
use Rattle.wire.specs.Claims.{RoundTrip}
use Rattle.policies.specs.Judging.{added_of, judged_of}
use Rattle.suites.specs.declared.suite.Suite.{Suite}
use Rattle.suites.specs.Suites.{tag_length_of}
use Rattle.wire.specs.Wire.{wire_of, restore_of}
use Rattle.policies.proofs.Layouts.{apart}
use Rattle.wire.proofs.RoundTrips.{sent-is-given-back}
use Rattle.session.specs.Session.{Record, Setup, Session}
use Rattle.session.specs.Records.{some, with_replay, store_for, fresh_record}
use Rattle.session.specs.Making.{setup_of, make_of}
use Rattle.session.specs.Packets.{listed_by, Effect, refuse, give, wire_length, protect_effect, Outcome, settled, protect_of, unprotect_of}
use Rattle.session.proofs.Ways.{done_by}
use Rattle.session.proofs.Making.{make-cases}
use Rattle.theorems.specs.Lists.{sender, receiver, Call, add, protect, unprotect, Sessions, just_made, Event, added, no_event, events_of, Bytes}
use Rattle.theorems.specs.Sent.{Sent, Last, none_sent, last_sent, index_of, sent_by, sent_from, SentAs, SentUnderItsIndex}
use Rattle.theorems.proofs.Records.{clash, found-stored}
use Rattle.theorems.proofs.Settling.{Given, given}
use Rattle.theorems.proofs.Holding.{Holds, holds-add, holds-settled, Behind, behind-add, nothing-before}

ways-differ : Receiving ≡ Sending → ⊥
ways-differ e = apart cc

take-bytes : (n : ℕ) (buf : List ℕ) → ((i : ℕ) → get_or buf i 0 < 256) → (i : ℕ) → get_or (take n buf) i 0 < 256
take-bytes n buf b i =
    elim (dec_lt i n) [
      | yes h ↦ rw (get_or-take n buf i 0 h) (b i)
      | no h ↦ let l : length (take n buf) < suc i = omega (arith, length-take n buf) in rw (get_or-eq_default (take n buf) 0 {n = i} (omega arith)) (omega arith)
    ]

seq-small : (p : List ℕ) → ((i : ℕ) → get_or p i 0 < 256) → seq_of p < 65536
unfolding seq_of
seq-small p b = omega (arith, b 2, b 3)

-- ---- the index

-- a sender's state knows the packet sent before
abbrev pub Knows : Last → ReplayState → Type 0
Knows none_sent t = t.started ≡ false
Knows (last_sent s) t = (t.started ≡ true) × (t.highest ≡ s.index) × (low_of s.index ≡ seq_of s.packet)

pub record Indexed (rollover : ℕ) (last : Last) (p : List ℕ) (i : ℕ) : Type 0 where
  pub index : index_of rollover last p ≡ i
  pub low : low_of i ≡ seq_of p
  pub small : i < 2 ^ 48

module _ (t : ReplayState) (rollover : ℕ) (large : rollover < 2 ^ 32) (p : List ℕ) (bytes : (i : ℕ) → get_or p i 0 < 256) (i : ℕ)
    (step : (send_of t rollover (seq_of p)).judged ≡ Ok i) where
  from : (P : ℕ → Type 0) → (t.started ≡ false → P (rollover * 65536 + seq_of p)) → (t.started ≡ true → P (t.highest + step_of t.highest (seq_of p))) → P i
  unfolding send_of
  from P f g = gives_at P (send_of t rollover (seq_of p)).judged i step (next-gives t rollover (seq_of p) P f (λ e a b. g e))

  index_is : (last : Last) → Knows last t → index_of rollover last p ≡ i
  unfolding step_of
  index_is none_sent k = from (λ m. rollover * 65536 + seq_of p ≡ m) (λ e. refl) (λ e. clash _ e k)
  index_is (last_sent s) (a, b, c) =
      from (λ m. s.index + (seq_of p + 65536 - seq_of s.packet) % 65536 ≡ m) (λ e. clash _ a e) (λ e. rw (b, c))

  pub indexed : (last : Last) → Knows last t → Indexed rollover last p i
  indexed last k =
      let s = sending t rollover (seq_of p) large (seq-small p bytes) in
      record { index = index_is last k; low = gives_at (λ m. low_of m ≡ seq_of p) _ i step s.low; small = gives_at (λ m. m < 2 ^ 48) _ i step s.small }

  pub state-is : (send_of t rollover (seq_of p)).state ≡ record { started = true; highest = i; window = t.window }
  unfolding send_of
  state-is = ap (sent_of t) step

-- ---- a packet that was sent

pub record Good (h : Setup) (x : ℕ) (s : Sent) : Type 0 where
  pub passes : header_number (judged_of Sending h.policy (tag_length_of h.suite) s.packet) ≡ 0
  pub bytes : (i : ℕ) → get_or s.packet i 0 < 256
  pub ssrc : ssrc_of s.packet ≡ x
  pub small : s.index < 2 ^ 48
  pub low : low_of s.index ≡ seq_of s.packet
  pub wire : s.wire ≡ wire_of h.suite h.keys h.policy (listed_by h) x s.index s.packet

-- what packet says of it
pub trip : (h : Setup) (x i : ℕ) (p : List ℕ) → ((k : ℕ) → get_or p k 0 < 256) → header_number (judged_of Sending h.policy (tag_length_of h.suite) p) ≡ 0
    → RoundTrip h.policy (tag_length_of h.suite) p (wire_of h.suite h.keys h.policy (listed_by h) x i p)
    (restore_of h.suite h.keys h.policy (listed_by h) x i (wire_of h.suite h.keys h.policy (listed_by h) x i p))
trip h x i p bytes passes = sent-is-given-back.back h.suite h.keys h.policy (listed_by h) x i p bytes passes

module _ (h : Setup) (x rollover : ℕ) (large : rollover < 2 ^ 32) where
  -- a sender's session between two of its calls
  record Keeps (last : Last) (s : Session) : Type 0 where
    rec : Record
    holds : Holds h x Sending rec s
    start : rec.rollover ≡ rollover
    knows : Knows last rec.replay

  -- a protect in the sender's session; K is what the calls after it send
  module _ (s : Session) (buf : List ℕ) (n : ℕ) (bytes : (i : ℕ) → get_or buf i 0 < 256) (last : Last) (o : Keeps last s)
      (K : Last → Session → List Sent) (ih : (l : Last) (t : Session) → Keeps l t → Each (Good h x) (K l t)) where
    abbrev outcome : Effect → Outcome
    outcome d = settled s buf (ssrc_of (take n buf)) Sending d

    abbrev sent_here : Bool → Effect → List Sent
    sent_here b d =
        pick (b && eqb (outcome d).answer.number 0)
        (sent_by rollover last (take n buf) (outcome d).answer ∷ K (last_sent (sent_by rollover last (take n buf) (outcome d).answer)) (outcome d).session)
        (K last (outcome d).session)

    own : ssrc_of (take n buf) ≡ x → done_by Sending s buf n ≡ protect_effect h.suite h.keys h.policy (listed_by h) buf n (some o.rec)
    own e = rw (e, o.holds.setup, o.holds.found)

    module _ (e : ssrc_of (take n buf) ≡ x) (m : ℕ) (b : List ℕ) (t : ReplayState) (g : Given h buf n o.rec m b t) where
      all-bytes : (i : ℕ) → get_or (take n buf) i 0 < 256
      all-bytes = take-bytes n buf bytes

      step : (send_of o.rec.replay rollover (seq_of (take n buf))).judged ≡ Ok g.index
      step = rw o.start at g.step

      numbered : Indexed rollover last (take n buf) g.index
      numbered = indexed o.rec.replay rollover large (take n buf) all-bytes g.index step last o.knows

      abbrev wire : List ℕ
      wire = wire_of h.suite h.keys h.policy (listed_by h) x g.index (take n buf)

      on-wire : take m b ≡ wire
      on-wire =
          let size : length wire ≡ length (take n buf) + added_of Sending h.policy (tag_length_of h.suite) (layout_of (take n buf)) = (trip h x g.index (take n buf) all-bytes g.passes).size in
          let k : length (take n buf) ≡ n = length-take-le n buf g.inside in
          let w : length wire ≡ wire_length h.suite h.policy buf n = omega arith in
          rw (g.size, g.buffer, e) (take_at wire (drop (wire_length h.suite h.policy buf n) buf) (wire_length h.suite h.policy buf n) w)

      good : Good h x (sent_by rollover last (take n buf) (record { number = 0; length = m; buffer = b }))
      good =
          record {
            passes = g.passes;
            bytes = all-bytes;
            ssrc = e;
            small = rw numbered.index numbered.small;
            low = rw numbered.index numbered.low;
            wire = rw numbered.index on-wire;
          }

      keeps : Keeps (last_sent (sent_by rollover last (take n buf) (record { number = 0; length = m; buffer = b })))
          (record { setup = s.setup; records = store_for s.records (ssrc_of (take n buf)) Sending t })
      keeps =
          let after : t ≡ record { started = true; highest = g.index; window = o.rec.replay.window }
          = (rw o.start at g.state) ∙ state-is o.rec.replay rollover large (take n buf) all-bytes g.index step in
          record {
            rec = with_replay o.rec t;
            holds = record { setup = o.holds.setup; found = rw e (found-stored x Sending t s.records o.rec o.holds.found) };
            start = o.start;
            knows = rw (numbered.index, after) (refl, refl, numbered.low);
          }

    by-effect : (b : Bool) (d : Effect) → eqb (ssrc_of (take n buf)) x ≡ b → done_by Sending s buf n ≡ d → Each (Good h x) (sent_here b d)
    by-effect false d e f =
        ih last (outcome d).session
        (record {
          rec = o.rec;
          holds = holds-settled h x Sending o.rec s buf (ssrc_of (take n buf)) Sending d (λ w y. eqb-false (ssrc_of (take n buf)) x e y) o.holds;
          start = o.start;
          knows = o.knows;
        })
    by-effect true (refuse r) e f = rw (ne_eqb (number_of r) 0 (λ q. omega (arith, above_zero r))) (ih last s o)
    by-effect true (give m b t) e f =
        let y : ssrc_of (take n buf) ≡ x = eqb-true (ssrc_of (take n buf)) x e in
        let g : Given h buf n o.rec m b t = given h buf n o.rec m b t (sym (own y) ∙ f) in
        (good y m b t g, ih _ _ (keeps y m b t g))

  all-good : (cs : List Call) → Each Bytes cs → (s : Sessions) (last : Last) → Keeps last s.at_sender → Each (Good h x) (sent_from x rollover last (events_of s cs))
  unfolding protect_of unprotect_of
  all-good [] b s last o = tt
  all-good (add sender y v r ∷ cs) b s last o =
      all-good cs b.1 _ last (record { rec = o.rec; holds = holds-add h x Sending o.rec s.at_sender y v r o.holds; start = o.start; knows = o.knows })
  all-good (add receiver y v r ∷ cs) b s last o = all-good cs b.1 _ last o
  all-good (protect sender buf n ∷ cs) b s last o =
      by-effect s.at_sender buf n b.0 last o
      (λ l t. sent_from x rollover l (events_of (record { at_sender = t; at_receiver = s.at_receiver }) cs))
      (λ l t k. all-good cs b.1 (record { at_sender = t; at_receiver = s.at_receiver }) l k)
      _ _ refl refl
  all-good (protect receiver buf n ∷ cs) b s last o = all-good cs b.1 _ last o
  all-good (unprotect sender buf n ∷ cs) b s last o =
      all-good cs b.1 _ last
      (record {
        rec = o.rec;
        holds = holds-settled h x Sending o.rec s.at_sender buf (ssrc_of (take n buf)) Receiving (done_by Receiving s.at_sender buf n) (λ w y. ways-differ w) o.holds;
        start = o.start;
        knows = o.knows;
      })
  all-good (unprotect receiver buf n ∷ cs) b s last o = all-good cs b.1 _ last o

  pub sent-good : (rest : List Event) → Behind h sender x Sending rollover rest → Each (Good h x) (sent_from x rollover none_sent rest)
  sent-good rest a =
      rw a.run (all-good a.calls a.bytes a.sessions none_sent
      (record { rec = fresh_record x Sending rollover; holds = a.holds; start = refl; knows = refl }))

-- ---- the whole list

module _ (suite : Suite) (key salt : List ℕ) (policy : ℕ) (ids : List ℕ) where
  abbrev pub setup : Setup
  setup = (make_of suite key salt policy ids).session.setup

  pub made-setup : setup.made ≡ true → setup ≡ setup_of suite key salt policy ids
  made-setup =
      make-cases suite key salt policy ids (λ m. m.session.setup.made ≡ true → m.session.setup ≡ setup_of suite key salt policy ids) (λ r n e. clash false e refl) (λ l e. refl)

  pub all-sent : (others : List ℕ) (calls : List Call) → Each Bytes calls → (x rollover i : ℕ) → rollover < 2 ^ 32
      → get_or (events_of (just_made suite key salt policy ids others) calls) i no_event ≡ added sender x Sending rollover
      → Each (Good setup x) (sent_from x rollover none_sent (events_of (just_made suite key salt policy ids others) calls))
  all-sent others calls bytes x rollover i large q =
      rw (nothing-before x rollover calls (just_made suite key salt policy ids others) i none_sent q)
      (sent-good setup x rollover large (drop (suc i) (events_of (just_made suite key salt policy ids others) calls))
      (behind-add setup sender x Sending rollover calls bytes (just_made suite key salt policy ids others) i refl q))

  sent-as : (x : ℕ) → setup.made ≡ true → (l : List Sent) → Each (Good setup x) l → Each (SentAs suite key salt policy ids x) l
  sent-as x made [] g = tt
  sent-as x made (s ∷ l) (g, gs) =
      (record { ssrc = g.ssrc; low = g.low; small = g.small; wire = rw (made-setup made) at g.wire }, sent-as x made l gs)

pub sent-under-its-index : SentUnderItsIndex
unfolding SentUnderItsIndex
sent-under-its-index suite key salt policy ids others calls bytes x rollover i large q =
    sent-as suite key salt policy ids x
    (behind-add (setup suite key salt policy ids) sender x Sending rollover calls bytes (just_made suite key salt policy ids others) i refl q).made
    (sent_from x rollover none_sent (events_of (just_made suite key salt policy ids others) calls))
    (all-sent suite key salt policy ids others calls bytes x rollover i large q)
