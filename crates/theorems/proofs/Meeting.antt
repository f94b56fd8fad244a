-- The example's list meets the premises.
use mathlib.Core.Path.{◌≡◌, refl, ap, ap₂, ◌∙◌, sym}
use mathlib.Core.Bool.{Bool, true, false, ◌&&◌, ◌||◌}
use mathlib.Core.List.{List, [], ◌∷◌, ◌++◌, map}
use Prim.Native.Nat.{ℕ, zero, suc, ◌+◌, ◌^◌, ◌<◌, ◌≤◌}
use native.Mathlib.Omega.{arith}
use borrow.Author.Tests.{ne_eqb, ltb-true}
use lib.Dec.{eqb, ltb}
use lib.ListN.{length, get_or, take, drop, replicate, get_or-append}
use lib.Seq.{take_at, get_or-take}
use Rattle.bits.specs.Lists.{Each}
use Rattle.rtp_header.specs.Header.{header_number, layout_of, bounded_of, header_of, seq_of, ssrc_of}
use Rattle.rtp_elements.specs.Mask.{listed_in}
use Rattle.replay.specs.Send.{step_of, next_of, send_of}
use Rattle.ledger.specs.Ledger.{enter}
use Rattle.policies.specs.declared.policy.Policy.{Policy}
use Rattle.policies.specs.declared.policy.Policy.TheVariants.{CryptexRequired}
use Rattle.policies.specs.declared.policy.Way.TheVariants.{Sending, Receiving}
use Rattle.policies.specs.Cryptex.{adds_block}
use Rattle.policies.specs.Judging.{profile_fits, judged_of}
use Rattle.policies.proofs.Layouts.{layout-same}
use Rattle.wire.proofs.RoundTrips.{passed, sent-is-given-back}
use Rattle.packet_cipher.proofs.Crypting.{and_left, and_right}
use Rattle.suites.specs.declared.suite.Suite.{Suite}
use Rattle.suites.specs.declared.suite.Suite.TheVariants.{CmHmac, Gcm}
use Rattle.session.specs.Session.{Session}
use Rattle.session.specs.Making.{keys_of, ids_of, make_of}
use Rattle.session.specs.Adding.{add_of}
use Rattle.session.specs.Packets.{Answer, protect_effect, unprotect_effect, protect_of, unprotect_of}
use Rattle.theorems.specs.Lists.{sender, receiver, Call, add, protect, unprotect, EqualSets, added, no_event, Bytes}
use Rattle.theorems.specs.Sent.{Sent, none_sent, sent_from, no_packet, SentAs, SentUnderItsIndex}
use Rattle.theorems.specs.Arrivals.{Mark, Arrival, arrivals_of, others_of, Carries, Premises, Right, AsTheLedger}
use Rattle.theorems.specs.DemandThree.{DemandThree}
use Rattle.theorems.specs.Example.{key, salt, ids, others, voice, drums, calls, events, wire, sent_as, voice0, voice1, voice2, voice3, voice4, drums0, wrong_version, voice_sent, drums_sent, marked, voice_marks, drums_marks, PremisesAreMet, answer_at, HollowProgramsDiffer}
use Rattle.theorems.proofs.Records.{clash}
use Rattle.theorems.proofs.Sending.{sent-under-its-index}
use Rattle.theorems.proofs.DemandThree.{demand-three}

-- ---- sets

-- 3 and 5, with a 0 between them, or the other way round with a 3 more
sets : EqualSets ids others
sets id above below = rw (ne_eqb id 0 (λ z. omega arith)) (go (eqb id 3) (eqb id 5))
  where
    go : (a b : Bool) → (a || (false || (b || false))) ≡ (b || (a || (a || false)))
    go true true = refl
    go true false = refl
    go false true = refl
    go false false = refl

-- ---- bytes

are_bytes : List ℕ → Bool
are_bytes [] = true
are_bytes (b ∷ l) = ltb b 256 && are_bytes l

are-bytes : (l : List ℕ) → are_bytes l ≡ true → (i : ℕ) → get_or l i 0 < 256
unfolding are_bytes
are-bytes [] e i = omega arith
are-bytes (b ∷ l) e zero = ltb-true b 256 (and_left (ltb b 256) (are_bytes l) e)
are-bytes (b ∷ l) e (suc i) = are-bytes l (and_right (ltb b 256) (are_bytes l) e) i

call-bytes : Call → Bool
call-bytes (add e x w r) = true
call-bytes (protect e buf n) = are_bytes buf
call-bytes (unprotect e buf n) = true

all-calls : List Call → Bool
all-calls [] = true
all-calls (c ∷ cs) = call-bytes c && all-calls cs

one-call : (c : Call) → call-bytes c ≡ true → Bytes c
unfolding call-bytes
one-call (add e x w r) h = tt
one-call (protect e buf n) h = are-bytes buf h
one-call (unprotect e buf n) h = tt

each-call : (cs : List Call) → all-calls cs ≡ true → Each Bytes cs
unfolding all-calls
each-call [] h = tt
each-call (c ∷ cs) h = (one-call c (and_left (call-bytes c) (all-calls cs) h), each-call cs (and_right (call-bytes c) (all-calls cs) h))

pub bytes : Each Bytes calls
unfolding are_bytes call-bytes all-calls
bytes = each-call calls refl

-- ---- what is sent: indices and packets compute, and the wire bytes are those of `SentUnderItsIndex`

record Pair : Type 0 where
  index : ℕ
  packet : List ℕ

abbrev pair_of : Sent → Pair
pair_of s = record { index = s.index; packet = s.packet }

abbrev sent_pair : ℕ → Pair → Sent
sent_pair x p = sent_as x p.index p.packet

known-wires : (x : ℕ) (l : List Sent) → Each (SentAs CmHmac key salt 2 ids x) l → l ≡ map (sent_pair x) (map pair_of l)
known-wires x [] e = refl
known-wires x (s ∷ l) (e, es) =
    ap₂ (λ (w : List ℕ) (r : List Sent). record { index = s.index; packet = s.packet; wire = w } ∷ r) e.wire (known-wires x l es)

voice-pairs : map pair_of (sent_from voice 0 none_sent events)
    ≡ record { index = 65534; packet = voice0 } ∷ record { index = 65535; packet = voice1 } ∷ record { index = 65536; packet = voice2 }
    ∷ record { index = 65736; packet = voice3 } ∷ record { index = 65737; packet = voice4 } ∷ []
unfolding make_of add_of protect_of unprotect_of protect_effect unprotect_effect judged_of header_of bounded_of layout_of seq_of ssrc_of send_of next_of step_of
voice-pairs = refl

drums-pairs : map pair_of (sent_from drums 7 none_sent events) ≡ record { index = 458761; packet = drums0 } ∷ []
unfolding make_of add_of protect_of unprotect_of protect_effect unprotect_effect judged_of header_of bounded_of layout_of seq_of ssrc_of send_of next_of step_of
drums-pairs = refl

pub adds : (get_or events 0 no_event ≡ added sender voice Sending 0) × (get_or events 1 no_event ≡ added receiver voice Receiving 0)
unfolding make_of add_of
adds = (refl, refl)

pub adds-drums : (get_or events 2 no_event ≡ added sender drums Sending 7) × (get_or events 3 no_event ≡ added receiver drums Receiving 7)
unfolding make_of add_of
adds-drums = (refl, refl)

under-index : (x rollover i : ℕ) → rollover < 2 ^ 32 → get_or events i no_event ≡ added sender x Sending rollover
    → Each (SentAs CmHmac key salt 2 ids x) (sent_from x rollover none_sent events)
unfolding SentUnderItsIndex
under-index x rollover i large q = sent-under-its-index CmHmac key salt 2 ids others calls bytes x rollover i large q

pub sent : voice_sent ≡ sent_from voice 0 none_sent events
sent =
    sym (known-wires voice (sent_from voice 0 none_sent events) (under-index voice 0 0 (omega arith) adds.0) ∙ ap (map (sent_pair voice)) voice-pairs)

pub sent-drums : drums_sent ≡ sent_from drums 7 none_sent events
sent-drums =
    sym (known-wires drums (sent_from drums 7 none_sent events) (under-index drums 7 2 (omega arith) adds-drums.0) ∙ ap (map (sent_pair drums)) drums-pairs)

-- ---- what arrives

starts : (w : List ℕ) → take (length w) (w ++ replicate 3 0) ≡ w
starts w = take_at w (replicate 3 0) (length w) refl

-- the SSRC of what is sent is the packet's
wire-ssrc : (x i : ℕ) (p : List ℕ) → are_bytes p ≡ true → header_number (judged_of Sending CryptexRequired 10 p) ≡ 0
    → ssrc_of (take (length (wire x i p)) (wire x i p ++ replicate 3 0)) ≡ ssrc_of p
unfolding ssrc_of
wire-ssrc x i p b h =
    let t = sent-is-given-back.back CmHmac (keys_of key salt) CryptexRequired (listed_in (ids_of ids)) x i p (are-bytes p b) h in
    ap ssrc_of (starts (wire x i p))
    ∙ rw (t.header 8 (omega arith) (omega arith), t.header 9 (omega arith) (omega arith), t.header 10 (omega arith) (omega arith), t.header 11 (omega arith) (omega arith)) refl

abbrev place : List ℕ → List ℕ
place w = take (length w) (w ++ replicate 3 0)

of-drums : ssrc_of (place (wire drums 458761 drums0)) ≡ drums
unfolding are_bytes judged_of header_of bounded_of layout_of ssrc_of
of-drums = wire-ssrc drums 458761 drums0 refl refl

junk-ssrc : ssrc_of (take (length wrong_version) wrong_version) ≡ voice
unfolding ssrc_of
junk-ssrc = refl

-- whatever the suite
junk-number : (s : Session) → (unprotect_of s wrong_version (length wrong_version)).answer.number ≡ 3
unfolding unprotect_of unprotect_effect judged_of header_of
junk-number s = go s.setup.suite refl
  where
    go : (q : Suite) → s.setup.suite ≡ q → (unprotect_of s wrong_version (length wrong_version)).answer.number ≡ 3
    go CmHmac e = rw e
    go Gcm e = rw e

other-calls : others_of voice (marked voice_marks) (drop 2 events) ≡ 3 ∷ []
other-calls = rw (of-drums, junk-ssrc, junk-number _)

of-voice0 : ssrc_of (place (wire voice 65534 voice0)) ≡ voice
unfolding are_bytes judged_of header_of bounded_of layout_of ssrc_of
of-voice0 = wire-ssrc voice 65534 voice0 refl refl

of-voice1 : ssrc_of (place (wire voice 65535 voice1)) ≡ voice
unfolding are_bytes judged_of header_of bounded_of layout_of ssrc_of
of-voice1 = wire-ssrc voice 65535 voice1 refl refl

of-voice2 : ssrc_of (place (wire voice 65536 voice2)) ≡ voice
unfolding are_bytes judged_of header_of bounded_of layout_of ssrc_of
of-voice2 = wire-ssrc voice 65536 voice2 refl refl

of-voice4 : ssrc_of (place (wire voice 65737 voice4)) ≡ voice
unfolding are_bytes judged_of header_of bounded_of layout_of ssrc_of
of-voice4 = wire-ssrc voice 65737 voice4 refl refl

other-calls-drums : others_of drums (marked drums_marks) (drop 4 events) ≡ []
other-calls-drums = rw (of-voice0, of-voice1, of-voice2, of-voice4, junk-ssrc)

carried : (l : List Sent) (k : ℕ) (a : Answer) → k < length l
    → Carries l (record { packet = k; buffer = (get_or l k no_packet).wire ++ replicate 3 0; n = length (get_or l k no_packet).wire; answer = a })
carried l k a h = record { known = h; size = refl; bytes = starts (get_or l k no_packet).wire }

pub met : Premises voice 0 voice_sent (marked voice_marks) (drop 2 events)
met =
    record {
      carried = (
        carried voice_sent 0 _ (omega arith),
        (
          carried voice_sent 2 _ (omega arith),
          (
            carried voice_sent 1 _ (omega arith),
            (
              carried voice_sent 2 _ (omega arith),
              (carried voice_sent 4 _ (omega arith), (carried voice_sent 0 _ (omega arith), tt)),
            ),
          ),
        ),
      );
      nothing-else = rw other-calls (λ e. omega arith, tt);
      near = (refl, ((omega arith, omega arith), ((omega arith, omega arith), ((omega arith, omega arith), ((omega arith, omega arith), ((omega arith, omega arith), tt))))));
    }

pub met-drums : Premises drums 7 drums_sent (marked drums_marks) (drop 4 events)
met-drums = record { carried = (carried drums_sent 0 _ (omega arith), tt); nothing-else = rw other-calls-drums tt; near = (refl, tt) }

-- ---- so the theorem gives the answers

abbrev ledger_numbers : List Sent → List ℕ → List Arrival → List ℕ
ledger_numbers l held [] = []
ledger_numbers l held (a ∷ rest) =
    (enter 64 held (get_or l a.packet no_packet).index).told.number ∷ ledger_numbers l (enter 64 held (get_or l a.packet no_packet).index).held rest

numbered : (policy : Policy) (l : List Sent) (held : List ℕ) (rest : List Arrival) → AsTheLedger policy l held rest
    → map (λ (a : Arrival). a.answer.number) rest ≡ ledger_numbers l held rest
numbered policy l held [] e = refl
numbered policy l held (a ∷ rest) (e, f, g) = ap₂ (λ (n : ℕ) (ns : List ℕ). n ∷ ns) e (numbered policy l (enter 64 held (get_or l a.packet no_packet).index).held rest g)

followed : (x rollover i j : ℕ) → rollover < 2 ^ 32 → get_or events i no_event ≡ added sender x Sending rollover → get_or events j no_event ≡ added receiver x Receiving rollover
    → (l : List Sent) → l ≡ sent_from x rollover none_sent events → (marks : ℕ → Mark) → Premises x rollover l marks (drop (suc j) events)
    → AsTheLedger CryptexRequired l [] (arrivals_of marks (drop (suc j) events))
unfolding DemandThree
followed x rollover i j large there here l e marks p = (demand-three CmHmac key salt 2 ids others sets calls).ledger bytes x rollover i j large there here l e marks p

pub premises-are-met : PremisesAreMet
premises-are-met =
    record {
      sets = sets;
      bytes = bytes;
      adds = adds;
      adds-drums = adds-drums;
      sent = sent;
      sent-drums = sent-drums;
      met = met;
      met-drums = met-drums;
      numbers = numbered CryptexRequired voice_sent [] (arrivals_of (marked voice_marks) (drop 2 events)) (followed voice 0 0 1 (omega arith) adds.0 adds.1 voice_sent sent (marked voice_marks) met);
      numbers-drums = numbered CryptexRequired drums_sent [] (arrivals_of (marked drums_marks) (drop 4 events)) (followed drums 7 2 3 (omega arith) adds-drums.0 adds-drums.1 drums_sent sent-drums (marked drums_marks) met-drums);
    }

-- ---- hollow programs differ

followed-voice : AsTheLedger CryptexRequired voice_sent [] (arrivals_of (marked voice_marks) (drop 2 events))
followed-voice = followed voice 0 0 1 (omega arith) adds.0 adds.1 voice_sent sent (marked voice_marks) met

-- a packet that is sent as it is would be refused with PROFILE
not-as-it-is : (x i : ℕ) (p : List ℕ) → are_bytes p ≡ true → header_number (judged_of Sending CryptexRequired 10 p) ≡ 0
    → profile_fits Receiving CryptexRequired (layout_of p) ≡ false → ((layout_of p).x ≡ true → (layout_of p).extension + 4 ≤ length p)
    → ((k : ℕ) → k < length p → get_or (wire x i p) k 0 ≡ get_or p k 0) → ⊥
not-as-it-is x i p b h wrong fits same =
    let t = sent-is-given-back.back CmHmac (keys_of key salt) CryptexRequired (listed_in (ids_of ids)) x i p (are-bytes p b) h in
    let l : layout_of (wire x i p) ≡ layout_of p = layout-same p (wire x i p) (same 0 (omega (arith, (passed Sending CryptexRequired 10 p h).long))) (λ q k u v. same k (omega (arith, fits q))) in
    let f : profile_fits Receiving CryptexRequired (layout_of (wire x i p)) ≡ true = (passed Receiving CryptexRequired 10 (wire x i p) t.accepted).profile in
    clash _ (rw l at f) wrong

module _ (x i : ℕ) (p : List ℕ) (b : are_bytes p ≡ true) (h : header_number (judged_of Sending CryptexRequired 10 p) ≡ 0)
    (wrong : profile_fits Receiving CryptexRequired (layout_of p) ≡ false) (fits : (layout_of p).x ≡ true → (layout_of p).extension + 4 ≤ length p) where
  longer : length p ≤ length (wire x i p)
  longer = omega (arith, (sent-is-given-back.back CmHmac (keys_of key salt) CryptexRequired (listed_in (ids_of ids)) x i p (are-bytes p b) h).size)

  not-left-by-protect : (more rest : List ℕ) → wire x i p ++ rest ≡ p ++ more → ⊥
  not-left-by-protect more rest e =
      not-as-it-is x i p b h wrong fits
      (λ k u. sym (get_or-append (wire x i p) rest 0 k (omega (arith, longer))) ∙ ap (λ (l : List ℕ). get_or l k 0) e ∙ get_or-append p more 0 k u)

  not-left-by-unprotect : (a : Answer) (more : List ℕ) → adds_block CryptexRequired (layout_of p) ≡ false → Right CryptexRequired p a → a.buffer ≡ wire x i p ++ more → ⊥
  not-left-by-unprotect a more adds r e =
      let front : take (length p) (wire x i p ++ more) ≡ p = rw (e, (r.same adds).0) at (r.same adds).1 in
      not-as-it-is x i p b h wrong fits
      (λ k u. sym (get_or-append (wire x i p) more 0 k (omega (arith, longer))) ∙ sym (get_or-take (length p) (wire x i p ++ more) k 0 u) ∙ ap (λ (l : List ℕ). get_or l k 0) front)

sends0 : answer_at 4 ≡ record { number = 0; length = 29; buffer = wire voice 65534 voice0 ++ replicate 6 0 }
unfolding make_of add_of protect_of unprotect_of protect_effect unprotect_effect judged_of header_of bounded_of layout_of seq_of ssrc_of send_of next_of step_of
sends0 = refl

sends2 : answer_at 7 ≡ record { number = 0; length = 32; buffer = wire voice 65536 voice2 ++ replicate 6 0 }
unfolding make_of add_of protect_of unprotect_of protect_effect unprotect_effect judged_of header_of bounded_of layout_of seq_of ssrc_of send_of next_of step_of
sends2 = refl

pub hollow-programs-differ : HollowProgramsDiffer
unfolding are_bytes judged_of header_of bounded_of layout_of
hollow-programs-differ =
    let f = followed-voice in
    record {
      not-refused = (ap (λ (a : Answer). a.number) sends0, f.0);
      not-fixed = (
        λ e. let z : ◌≡◌ {A = ℕ} 29 32 = ap (λ (a : Answer). a.length) (sym sends0 ∙ e ∙ sends2) in omega arith,
        λ e. let z : ◌≡◌ {A = ℕ} 19 22 = sym ((f.1 f.0).same refl).0 ∙ ap (λ (a : Answer). a.length) e ∙ ((f.2.1 f.2.0).same refl).0 in omega arith,
      );
      not_left = (
        λ e. not-left-by-protect voice 65534 voice0 refl refl refl (λ q. omega arith) (replicate 16 0) (replicate 6 0) (ap (λ (a : Answer). a.buffer) (sym sends0) ∙ e),
        λ e. not-left-by-unprotect voice 65534 voice0 refl refl refl (λ q. omega arith) (answer_at 10) (replicate 3 0) refl (f.1 f.0) e,
      );
      not-echoed = (
        λ e. not-left-by-protect voice 65536 voice2 refl refl refl (λ q. omega arith) (replicate 16 0) (replicate 6 0) (ap (λ (a : Answer). a.buffer) (sym sends2) ∙ e),
        λ e. not-left-by-unprotect voice 65536 voice2 refl refl refl (λ q. omega arith) (answer_at 11) (replicate 3 0) refl (f.2.1 f.2.0) e,
      );
    }
