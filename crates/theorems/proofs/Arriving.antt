-- Each arrival of a stream is given back right or refused, as the ledger says.
use Rattle.std.specs.Prelude.{Result, Ok, Err}
use mathlib.Core.Path.{◌≡◌, refl, ap, ap₂, ◌∙◌, sym, subst}
use mathlib.Core.Bool.{Bool, true, false}
use mathlib.Core.List.{List, [], ◌∷◌, ◌++◌}
use Prim.Native.Nat.{ℕ, zero, suc, ◌+◌, ◌-◌, ◌*◌, ◌^◌, ◌<◌, ◌≤◌, min}
use native.Mathlib.Omega.{arith}
use borrow.Author.Tests.{eqb-false, le-ltb}
use lib.Dec.{eqb, leb}
use lib.ListN.{length, get_or, take, drop, length-take}
use lib.Seq.{take_at}
use Rattle.bits.specs.BigEndian.{from_bytes}
use Rattle.bits.specs.Pick.{pick}
use Rattle.bits.specs.declared.refusal.Refusal.{Refusal}
use Rattle.bits.proofs.Refusals.{above_zero}
use Rattle.bits.specs.Lists.{Each}
use Rattle.rtp_header.specs.Header.{layout_of, seq_of, ssrc_of}
use Rattle.replay.specs.declared.answer.Told.{Told}
use Rattle.replay.specs.Receive.{Received, receive_of}
use Rattle.replay.specs.State.{ReplayState, after_of}
use Rattle.replay.specs.Answers.{told_of}
use Rattle.replay.specs.Guess.{low_of}
use Rattle.replay.specs.Window.{blocks, width}
use Rattle.ledger.specs.Ledger.{highest_of, holds, given, refused, enter, Near}
use Rattle.ledger.proofs.Ledger.{Remembers, fresh-remembers, Agrees, received-by-ledger, near-right}
use Rattle.policies.specs.declared.policy.Policy.{Policy}
use Rattle.policies.specs.declared.policy.Way.TheVariants.{Sending, Receiving}
use Rattle.wire.specs.Claims.{RoundTrip}
use Rattle.policies.specs.Cryptex.{adds_block}
use Rattle.suites.specs.declared.suite.Suite.{Suite}
use Rattle.suites.specs.Suites.{tag_length_of}
use Rattle.wire.specs.Wire.{given_back_of, wire_of, restore_of, tag_fits}
use Rattle.policies.specs.Judging.{judged_of}
use Rattle.policies.proofs.Layouts.{apart, layout-extension}
use Rattle.wire.proofs.RoundTrips.{passed, judged, sent-is-given-back}
use Rattle.session.specs.Session.{Record, Setup, Session, Made}
use Rattle.session.specs.Records.{some, with_replay, fresh_record}
use Rattle.session.specs.Packets.{listed_by, Effect, refuse, give, unprotect_at, unprotect_effect, Outcome, settled, protect_of, unprotect_of}
use Rattle.session.proofs.Ways.{done_by}
use Rattle.theorems.specs.Lists.{sender, receiver, Call, add, protect, unprotect, Sessions, just_made, EqualSets, Event, events_of, Bytes}
use Rattle.theorems.specs.Sent.{Sent, no_packet}
use Rattle.theorems.specs.Arrivals.{Mark, unmarked, carries, Arrival, arrival_at, other_at, arrivals_of, others_of, Carries, AllNear, Premises, Right, AsTheLedger, ArrivalsFollowTheLedger}
use Rattle.theorems.proofs.Records.{found-stored}
use Rattle.theorems.proofs.Holding.{Holds, holds-add, holds-settled, Behind, behind-add}
use Rattle.theorems.proofs.Sending.{Good, trip, setup, made-setup, all-sent}
use Rattle.theorems.proofs.Keeping.{equal-sets}

ways-differ : Sending ≡ Receiving → ⊥
ways-differ e = apart cc

room : width + 64 ≤ 64 * blocks
room = omega arith

each_at : {A : Type 0} (P : A → Type 0) (l : List A) (d : A) (k : ℕ) → k < length l → Each P l → P (get_or l k d)
each_at P [] d k h e = absurd (omega arith)
each_at P (a ∷ l) d zero h e = e.0
each_at P (a ∷ l) d (suc k) h e = each_at P l d k (omega arith) e.1

-- ---- the ledger's index is the arrival's

entered : (a b : Bool) (l : List ℕ) (i : ℕ) → (pick a (refused l 12) (pick b (refused l 13) (given l i))).told.number ≡ 0
    → (pick a (refused l 12) (pick b (refused l 13) (given l i))).told.index ≡ i
entered true b l i e = absurd (omega arith)
entered false true l i e = absurd (omega arith)
entered false false l i e = refl

enter-index : (W : ℕ) (l : List ℕ) (i : ℕ) → (enter W l i).told.number ≡ 0 → (enter W l i).told.index ≡ i
enter-index W [] i e = refl
enter-index W (k ∷ l) i e = entered (leb (i + W) (highest_of (k ∷ l))) (holds (k ∷ l) i) (k ∷ l) i e

-- ---- a refusal leaves the state

stays : (s : ReplayState) (rollover seq : ℕ) (r : Refusal) → (receive_of blocks width s rollover seq).judged ≡ Err r
    → (receive_of blocks width s rollover seq).state ≡ s
unfolding receive_of
stays s rollover seq r e = ap (after_of blocks s) e

-- ---- a sent packet unprotected

-- by the judgement of its index
abbrev verdict : Result ℕ Refusal → ReplayState → ℕ → List ℕ → Effect
verdict (Err r) t m b = refuse r
verdict (Ok i) t m b = give m b t

module _ (h : Setup) (x : ℕ) (s : Sent) (g : Good h x s) (buf : List ℕ) (n : ℕ) (size : n ≡ length s.wire) (starts : take n buf ≡ s.wire) where
  abbrev wire : List ℕ
  wire = wire_of h.suite h.keys h.policy (listed_by h) x s.index s.packet

  back : RoundTrip h.policy (tag_length_of h.suite) s.packet wire (restore_of h.suite h.keys h.policy (listed_by h) x s.index wire)
  back = trip h x s.index s.packet g.bytes g.passes

  begins : take n buf ≡ wire
  begins = starts ∙ g.wire

  long : n ≡ length wire
  long = size ∙ ap length g.wire

  pub same-seq : seq_of (take n buf) ≡ low_of s.index
  unfolding seq_of
  same-seq =
      ap seq_of begins
      ∙ ap₂ (λ (a b : ℕ). from_bytes (a ∷ b ∷ [])) (back.header 2 (omega arith) (omega arith)) (back.header 3 (omega arith) (omega arith))
      ∙ sym g.low

  pub same-ssrc : ssrc_of (take n buf) ≡ x
  unfolding ssrc_of
  same-ssrc =
      let e : ssrc_of wire ≡ ssrc_of s.packet
      = rw (back.header 8 (omega arith) (omega arith), back.header 9 (omega arith) (omega arith), back.header 10 (omega arith) (omega arith), back.header 11 (omega arith) (omega arith)) in
      ap ssrc_of begins ∙ e ∙ g.ssrc

  abbrev pub shown : List ℕ
  shown = given_back_of h.policy s.packet

  inside : n ≤ length buf
  inside = let e : min n (length buf) ≡ n = sym (length-take n buf) ∙ ap length begins ∙ sym long in omega arith

  read : judged_of Receiving h.policy (tag_length_of h.suite) (take n buf) ≡ Ok (layout_of (take n buf))
  read = judged Receiving h.policy (tag_length_of h.suite) (take n buf) (passed Receiving h.policy (tag_length_of h.suite) (take n buf) (rw begins back.accepted))

  fits : tag_fits h.suite h.keys h.policy (ssrc_of (take n buf)) s.index (take n buf) ≡ true
  fits = rw (same-ssrc, begins) (sent-is-given-back.fits h.suite h.keys h.policy (listed_by h) x s.index s.packet)

  restored : restore_of h.suite h.keys h.policy (listed_by h) (ssrc_of (take n buf)) s.index (take n buf) ≡ shown
  restored = rw (same-ssrc, begins) back.restored

  at-index : (j : Result ℕ Refusal) (t : ReplayState) → ((i : ℕ) → j ≡ Ok i → i ≡ s.index)
      → unprotect_at h.suite h.keys h.policy (listed_by h) buf n j t ≡ verdict j t (n - tag_length_of h.suite) (shown ++ drop (n - tag_length_of h.suite) buf)
  at-index (Err r) t e = refl
  at-index (Ok i) t e = rw (e i refl, fits, restored)

  pub unprotected : (r : Record) (o : Received) → receive_of blocks width r.replay r.rollover (low_of s.index) ≡ o
      → ((i : ℕ) → o.judged ≡ Ok i → i ≡ s.index)
      → unprotect_effect h.suite h.keys h.policy (listed_by h) buf n (some r) ≡ verdict o.judged o.state (n - tag_length_of h.suite) (shown ++ drop (n - tag_length_of h.suite) buf)
  unfolding unprotect_effect
  unprotected r o e f = rw (le-ltb (length buf) n inside, read, same-seq, e) (at-index o.judged o.state f)

  pub enough : n - tag_length_of h.suite ≡ length shown
  enough = let e : length shown + tag_length_of h.suite ≡ length wire = ap (λ (l : List ℕ). length l + tag_length_of h.suite) (sym back.restored) ∙ back.shorter in omega (arith, long)

  count : (b : Bool) → adds_block h.policy (layout_of s.packet) ≡ b → n - tag_length_of h.suite ≡ length s.packet + pick b 4 0
  count b e =
      let k : length wire ≡ length s.packet + (pick (adds_block h.policy (layout_of s.packet)) 4 0 + tag_length_of h.suite) = back.size in
      let m : n ≡ length s.packet + (pick b 4 0 + tag_length_of h.suite) = long ∙ (rw e at k) in
      omega arith

  -- the packet's own bytes, or these with the block
  pub right : Right h.policy s.packet (record { number = 0; length = n - tag_length_of h.suite; buffer = shown ++ drop (n - tag_length_of h.suite) buf })
  unfolding given_back_of
  right =
      let front : take (n - tag_length_of h.suite) (shown ++ drop (n - tag_length_of h.suite) buf) ≡ shown = take_at shown (drop (n - tag_length_of h.suite) buf) (n - tag_length_of h.suite) (sym enough) in
      record {
        same = λ e. (count false e ∙ omega arith, front ∙ rw e);
        block = λ e. (count true e, front ∙ rw (e, layout-extension s.packet));
      }

-- ---- along the list

module _ (h : Setup) (x rollover : ℕ) (large : rollover < 2 ^ 32) (sent : List Sent) (goods : Each (Good h x) sent) where
  -- a receiver's session between two of its calls
  record Follows (held : List ℕ) (s : Session) : Type 0 where
    rec : Record
    holds : Holds h x Receiving rec s
    start : rec.rollover ≡ rollover
    remembers : Remembers blocks width rec.replay held

  -- the premises from here on
  record Ahead (held : List ℕ) (arrivals : List Arrival) (others : List ℕ) : Type 0 where
    carried : Each (Carries sent) arrivals
    nothing-else : Each (λ (number : ℕ). number ≡ 0 → ⊥) others
    near : AllNear rollover sent held arrivals

  -- an unprotect in the receiver's session; A and O are the arrivals and others after it
  module _ (s : Session) (buf : List ℕ) (n : ℕ) (held : List ℕ) (o : Follows held s) (A : Session → List Arrival) (O : Session → List ℕ)
      (ih : (l : List ℕ) (t : Session) → Follows l t → Ahead l (A t) (O t) → AsTheLedger h.policy sent l (A t)) where
    abbrev outcome : Effect → Outcome
    outcome d = settled s buf (ssrc_of (take n buf)) Receiving d

    -- one that is unmarked
    by-other : (b : Bool) (d : Effect) → eqb (ssrc_of (take n buf)) x ≡ b
        → Ahead held (A (outcome d).session) (pick b ((outcome d).answer.number ∷ O (outcome d).session) (O (outcome d).session))
        → AsTheLedger h.policy sent held (A (outcome d).session)
    by-other false d e p =
        ih held (outcome d).session
        (record {
          rec = o.rec;
          holds = holds-settled h x Receiving o.rec s buf (ssrc_of (take n buf)) Receiving d (λ w y. eqb-false (ssrc_of (take n buf)) x e y) o.holds;
          start = o.start;
          remembers = o.remembers;
        }) p
    by-other true (refuse r) e p = ih held s o (record { carried = p.carried; nothing-else = p.nothing-else.1; near = p.near })
    by-other true (give m b t) e p = absurd (p.nothing-else.0 refl)

    -- an arrival of packet k
    module _ (k : ℕ) where
      abbrev pkt : Sent
      pkt = get_or sent k no_packet

      abbrev arrival : Effect → Arrival
      arrival d = record { packet = k; buffer = buf; n = n; answer = (outcome d).answer }

      module _ (known : k < length sent) (size : n ≡ length pkt.wire) (starts : take n buf ≡ pkt.wire) (near : Near rollover held pkt.index) where
        good : Good h x pkt
        good = each_at (Good h x) sent no_packet k known goods

        abbrev got : Received
        got = receive_of blocks width o.rec.replay o.rec.rollover (low_of pkt.index)

        agrees : Agrees blocks width got.judged got.state (enter width held pkt.index)
        agrees =
            rw o.start
            (received-by-ledger blocks width room o.rec.replay rollover held pkt.index o.remembers good.small (near-right rollover held pkt.index near))

        same_index : (i : ℕ) → got.judged ≡ Ok i → i ≡ pkt.index
        same_index i e =
            let t : told_of (Ok i) ≡ (enter width held pkt.index).told = ap told_of (sym e) ∙ agrees.told in
            ap (λ (u : Told). u.index) t ∙ enter-index width held pkt.index (sym (ap (λ (u : Told). u.number) t))

        effect_is : done_by Receiving s buf n ≡ verdict got.judged got.state (n - tag_length_of h.suite) (given_back_of h.policy pkt.packet ++ drop (n - tag_length_of h.suite) buf)
        effect_is =
            let own : done_by Receiving s buf n ≡ unprotect_effect h.suite h.keys h.policy (listed_by h) buf n (some o.rec) = rw (same-ssrc h x pkt good buf n size starts, o.holds.setup, o.holds.found) in
            own ∙ unprotected h x pkt good buf n size starts o.rec got refl same_index

        record Settles (d : Effect) : Type 0 where
          number : (outcome d).answer.number ≡ (enter width held pkt.index).told.number
          right : (outcome d).answer.number ≡ 0 → Right h.policy pkt.packet (outcome d).answer
          follows : Follows (enter width held pkt.index).held (outcome d).session

        settles : (j : Result ℕ Refusal) → got.judged ≡ j
            → Settles (verdict j got.state (n - tag_length_of h.suite) (given_back_of h.policy pkt.packet ++ drop (n - tag_length_of h.suite) buf))
        settles (Err r) e =
            let kept : got.state ≡ o.rec.replay = stays o.rec.replay o.rec.rollover (low_of pkt.index) r e in
            record {
              number = ap (λ (u : Told). u.number) (ap told_of (sym e) ∙ agrees.told);
              right = λ z. absurd (omega (arith, above_zero r));
              follows = record { rec = o.rec; holds = o.holds; start = o.start; remembers = rw kept at agrees.remembers };
            }
        settles (Ok i) e =
            record {
              number = ap (λ (u : Told). u.number) (ap told_of (sym e) ∙ agrees.told);
              right = λ z. right h x pkt good buf n size starts;
              follows = record {
                rec = with_replay o.rec got.state;
                holds = record {
                  setup = o.holds.setup;
                  found = rw (same-ssrc h x pkt good buf n size starts) (found-stored x Receiving got.state s.records o.rec o.holds.found);
                };
                start = o.start;
                remembers = agrees.remembers;
              };
            }

      by-arrival : (d : Effect) → done_by Receiving s buf n ≡ d → Ahead held (arrival d ∷ A (outcome d).session) (O (outcome d).session)
          → AsTheLedger h.policy sent held (arrival d ∷ A (outcome d).session)
      by-arrival d f p =
          let c : Carries sent (arrival d) = p.carried.0 in
          let near : Near rollover held pkt.index = p.near.0 in
          let q = sym (effect_is c.known c.size c.bytes near) ∙ f in
          let t : Settles c.known c.size c.bytes near d =
          subst (λ (v : Effect). Settles c.known c.size c.bytes near v) q (settles c.known c.size c.bytes near _ refl) in (
            t.number,
            t.right,
            ih (enter width held pkt.index).held (outcome d).session t.follows
                (record { carried = p.carried.1; nothing-else = p.nothing-else; near = p.near.1 }),
          )

    by-mark : (m : Mark) (d : Effect) → done_by Receiving s buf n ≡ d
        → Ahead held (arrival_at m (unprotect receiver buf n) (outcome d).answer (A (outcome d).session))
        (other_at x m (unprotect receiver buf n) (outcome d).answer (O (outcome d).session))
        → AsTheLedger h.policy sent held (arrival_at m (unprotect receiver buf n) (outcome d).answer (A (outcome d).session))
    by-mark unmarked d f p = by-other (eqb (ssrc_of (take n buf)) x) d refl p
    by-mark (carries k) d f p = by-arrival k d f p

  all-follow : (cs : List Call) (marks : ℕ → Mark) (s : Sessions) (held : List ℕ) → Follows held s.at_receiver
      → Ahead held (arrivals_of marks (events_of s cs)) (others_of x marks (events_of s cs)) → AsTheLedger h.policy sent held (arrivals_of marks (events_of s cs))
  unfolding protect_of unprotect_of
  all-follow [] marks s held o p = tt
  all-follow (add sender y v r ∷ cs) marks s held o p = all-follow cs (λ k. marks (suc k)) _ held o p
  all-follow (add receiver y v r ∷ cs) marks s held o p =
      all-follow cs (λ k. marks (suc k)) _ held
      (record { rec = o.rec; holds = holds-add h x Receiving o.rec s.at_receiver y v r o.holds; start = o.start; remembers = o.remembers }) p
  all-follow (protect sender buf n ∷ cs) marks s held o p = all-follow cs (λ k. marks (suc k)) _ held o p
  all-follow (protect receiver buf n ∷ cs) marks s held o p =
      all-follow cs (λ k. marks (suc k)) _ held
      (record {
        rec = o.rec;
        holds = holds-settled h x Receiving o.rec s.at_receiver buf (ssrc_of (take n buf)) Sending (done_by Sending s.at_receiver buf n) (λ w y. ways-differ w) o.holds;
        start = o.start;
        remembers = o.remembers;
      }) p
  all-follow (unprotect sender buf n ∷ cs) marks s held o p = all-follow cs (λ k. marks (suc k)) _ held o p
  all-follow (unprotect receiver buf n ∷ cs) marks s held o p =
      by-mark s.at_receiver buf n held o
      (λ t. arrivals_of (λ k. marks (suc k)) (events_of (record { at_sender = s.at_sender; at_receiver = t }) cs))
      (λ t. others_of x (λ k. marks (suc k)) (events_of (record { at_sender = s.at_sender; at_receiver = t }) cs))
      (λ l t f q. all-follow cs (λ k. marks (suc k)) (record { at_sender = s.at_sender; at_receiver = t }) l f q)
      (marks 0) (done_by Receiving s.at_receiver buf n) refl p

  -- from the add on
  from-add : (rest : List Event) → Behind h receiver x Receiving rollover rest → (marks : ℕ → Mark) → Premises x rollover sent marks rest
      → AsTheLedger h.policy sent [] (arrivals_of marks rest)
  from-add rest b marks p =
      let q = rw b.run at p in
      rw b.run
      (all-follow b.calls marks b.sessions []
      (record { rec = fresh_record x Receiving rollover; holds = b.holds; start = refl; remembers = fresh-remembers blocks width (omega arith) })
      (record { carried = q.carried; nothing-else = q.nothing-else; near = q.near }))

pub follow : (suite : Suite) (key salt : List ℕ) (policy : ℕ) (ids others : List ℕ) → EqualSets ids others → (calls : List Call) → Each Bytes calls
    → ArrivalsFollowTheLedger policy (events_of (just_made suite key salt policy ids others) calls)
follow suite key salt policy ids others equal calls bytes x rollover i j large there here sent sent_is marks p =
    let start : Sessions = just_made suite key salt policy ids others in
    let events : List Event = events_of start calls in
    let h : Setup = setup suite key salt policy ids in
    let b : Behind h receiver x Receiving rollover (drop (suc j) events)
    = behind-add h receiver x Receiving rollover calls bytes start j (ap (λ (m : Made). m.session.setup) (sym (equal-sets.equal suite key salt policy ids others equal))) here in
    let goods : Each (Good h x) sent = rw sent_is (all-sent suite key salt policy ids others calls bytes x rollover i large there) in
    subst (λ (q : Policy). AsTheLedger q sent [] (arrivals_of marks (drop (suc j) events)))
    (ap (λ (t : Setup). t.policy) (made-setup suite key salt policy ids b.made))
    (from-add h x rollover large sent goods (drop (suc j) events) b marks p)
