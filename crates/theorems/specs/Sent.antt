-- Document 01, "Lists of calls in demand 3": the packets that a stream sends in a list of calls.
use Rattle.std.specs.Prelude.{◌≡◌, ◌&&◌, List, [], ◌∷◌, ℕ, ◌+◌, ◌-◌, ◌*◌, ◌%◌, ◌^◌, ◌<◌, eqb, get_or, take}
use Rattle.bits.specs.Pick.{pick}
use Rattle.bits.specs.Lists.{Each}
use Rattle.rtp_header.specs.Header.{seq_of, ssrc_of}
use Rattle.rtp_elements.specs.Mask.{listed_in}
use Rattle.policies.specs.declared.policy.Way.TheVariants.{Sending}
use Rattle.wire.specs.Wire.{wire_of}
use Rattle.suites.specs.declared.suite.Suite.{Suite}
use Rattle.session.specs.Making.{full_salt, keys_of, ids_of, policy_of}
use Rattle.session.specs.Packets.{Answer}
use Rattle.theorems.specs.Lists.{sender, receiver, Call, add, protect, unprotect, just_made, Event, event, added, no_event, events_of, Bytes}

-- a packet that was sent: its index, the packet that was handed to protect, the protected packet
pub record Sent : Type 0 where
  pub index : ℕ
  pub packet : List ℕ
  pub wire : List ℕ

-- the packet sent before, if there is one
pub data Last : Type 0 where
  none_sent : Last
  last_sent : Sent → Last

-- "The first sent has index starting rollover * 65,536 + its sequence number; each later one has the index sent before it plus the step.": the sequence
-- number minus the last's, modulo 65,536
abbrev pub index_of : ℕ → Last → List ℕ → ℕ
index_of rollover none_sent p = rollover * 65536 + seq_of p
index_of rollover (last_sent s) p = s.index + (seq_of p + 65536 - seq_of s.packet) % 65536

abbrev pub sent_by : ℕ → Last → List ℕ → Answer → Sent
sent_by rollover last p a = record { index = index_of rollover last p; packet = p; wire = take a.length a.buffer }

-- "A packet of the stream is sent by a protect with a result in the sender's session."
abbrev pub sent_from : ℕ → ℕ → Last → List Event → List Sent
sent_from ssrc rollover last [] = []
sent_from ssrc rollover last (event (add e y way r) a ∷ es) = sent_from ssrc rollover last es
sent_from ssrc rollover last (event (protect sender buf n) a ∷ es) =
    pick (eqb (ssrc_of (take n buf)) ssrc && eqb a.number 0)
    (sent_by rollover last (take n buf) a ∷ sent_from ssrc rollover (last_sent (sent_by rollover last (take n buf) a)) es)
    (sent_from ssrc rollover last es)
sent_from ssrc rollover last (event (protect receiver buf n) a ∷ es) = sent_from ssrc rollover last es
sent_from ssrc rollover last (event (unprotect e buf n) a ∷ es) = sent_from ssrc rollover last es

abbrev pub no_packet : Sent
no_packet = record { index = 0; packet = []; wire = [] }

-- P of each packet that a stream sends, for every list of calls, and every stream that it adds to send in the sender's session, in call i
abbrev pub OfEachSent : (Suite → List ℕ → List ℕ → ℕ → List ℕ → ℕ → Sent → Type 0) → Type 0
OfEachSent P =
    (suite : Suite) (key salt : List ℕ) (policy : ℕ) (ids others : List ℕ) (calls : List Call) → Each Bytes calls
    → (ssrc rollover i : ℕ) → rollover < 2 ^ 32
    → get_or (events_of (just_made suite key salt policy ids others) calls) i no_event ≡ added sender ssrc Sending rollover
    → Each (P suite key salt policy ids ssrc) (sent_from ssrc rollover none_sent (events_of (just_made suite key salt policy ids others) calls))

-- ---- the claim

-- The bytes sent are the standards', under the stream's SSRC and the index of the rule above: the index that protect used.
pub record SentAs (suite : Suite) (key salt : List ℕ) (policy : ℕ) (ids : List ℕ) (x : ℕ) (s : Sent) : Type 0 where
  pub ssrc : ssrc_of s.packet ≡ x
  pub low : s.index % 65536 ≡ seq_of s.packet
  pub small : s.index < 2 ^ 48
  pub wire : s.wire ≡ wire_of suite (keys_of key (full_salt salt)) (policy_of policy) (listed_in (ids_of ids)) x s.index s.packet

unfoldable pub SentUnderItsIndex : Type 0
SentUnderItsIndex = OfEachSent SentAs
