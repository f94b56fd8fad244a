-- The premises are met: a list of calls with the first suite, under policy 2 with two streams, a loss, a repeat, a late packet, an old one, a packet that is refused before any
-- key is used, and indices past 65,535. The wire bytes are not computed: they stay `wire_of`.
use Rattle.std.specs.Prelude.{◌≡◌, List, [], ◌∷◌, ◌++◌, map, ℕ, length, get_or, drop, replicate}
use Rattle.bits.specs.Lists.{Each}
use Rattle.rtp_elements.specs.Mask.{listed_in}
use Rattle.suites.specs.declared.suite.Suite.TheVariants.{CmHmac}
use Rattle.policies.specs.declared.policy.Policy.TheVariants.{CryptexRequired}
use Rattle.policies.specs.declared.policy.Way.TheVariants.{Sending, Receiving}
use Rattle.wire.specs.Wire.{wire_of}
use Rattle.session.specs.Making.{keys_of, ids_of}
use Rattle.session.specs.Packets.{Answer}
use Rattle.theorems.specs.Lists.{sender, receiver, Call, add, protect, unprotect, just_made, EqualSets, Event, answer_in, call_in, added, no_event, events_of, Bytes}
use Rattle.theorems.specs.Answers.{buffer_of}
use Rattle.theorems.specs.Sent.{Sent, none_sent, sent_from}
use Rattle.theorems.specs.Arrivals.{Mark, unmarked, carries, Arrival, arrivals_of, Premises}

abbrev pub key : List ℕ
key = replicate 16 0x2B

abbrev pub salt : List ℕ
salt = replicate 14 0x7E

-- the same set of ids, written otherwise at each end
abbrev pub ids : List ℕ
ids = 3 ∷ 0 ∷ 5 ∷ []

abbrev pub others : List ℕ
others = 5 ∷ 3 ∷ 3 ∷ []

-- two streams: SSRC 01020304 from rollover 0, SSRC 0A0B0C0D from rollover 7
abbrev pub voice : ℕ
voice = 0x01020304

abbrev pub drums : ℕ
drums = 0x0A0B0C0D

-- a packet with this first byte, sequence number and SSRC, and what follows the fixed header
abbrev pub packet_of : ℕ → List ℕ → List ℕ → List ℕ → List ℕ
packet_of first seq ssrc rest = first ∷ 96 ∷ (seq ++ (0 ∷ 0 ∷ 0 ∷ 0 ∷ (ssrc ++ rest)))

abbrev pub voice_ssrc : List ℕ
voice_ssrc = 1 ∷ 2 ∷ 3 ∷ 4 ∷ []

-- sequence numbers 65,534, 65,535, 0, 200 and 201; packets 0 and 2 have an extension, packet 1 has a contributor, so that Cryptex adds its block
abbrev pub voice0 : List ℕ
voice0 = packet_of 0x90 (0xFF ∷ 0xFE ∷ []) voice_ssrc (0xBE ∷ 0xDE ∷ 0 ∷ 0 ∷ 65 ∷ 66 ∷ 67 ∷ [])

abbrev pub voice1 : List ℕ
voice1 = packet_of 0x81 (0xFF ∷ 0xFF ∷ []) voice_ssrc (9 ∷ 9 ∷ 9 ∷ 9 ∷ 68 ∷ [])

abbrev pub voice2 : List ℕ
voice2 = packet_of 0x90 (0 ∷ 0 ∷ []) voice_ssrc (0xBE ∷ 0xDE ∷ 0 ∷ 1 ∷ 0x10 ∷ 0xAB ∷ 0 ∷ 0 ∷ 69 ∷ 70 ∷ [])

abbrev pub voice3 : List ℕ
voice3 = packet_of 0x80 (0 ∷ 200 ∷ []) voice_ssrc []

abbrev pub voice4 : List ℕ
voice4 = packet_of 0x80 (0 ∷ 201 ∷ []) voice_ssrc (71 ∷ [])

abbrev pub drums0 : List ℕ
drums0 = packet_of 0x80 (0 ∷ 9 ∷ []) (10 ∷ 11 ∷ 12 ∷ 13 ∷ []) (72 ∷ 73 ∷ [])

-- of version 0, and otherwise like a packet of the voice
abbrev pub wrong_version : List ℕ
wrong_version = packet_of 0x00 (0 ∷ 1 ∷ []) voice_ssrc (replicate 20 0)

-- what is sent for a packet, and in a buffer with more bytes after it
abbrev pub wire : ℕ → ℕ → List ℕ → List ℕ
wire ssrc index p = wire_of CmHmac (keys_of key salt) CryptexRequired (listed_in (ids_of ids)) ssrc index p

abbrev pub sending : List ℕ → Call
sending p = protect sender (p ++ replicate 16 0) (length p)

abbrev pub arriving : List ℕ → Call
arriving w = unprotect receiver (w ++ replicate 3 0) (length w)

-- in call 8 the voice sends the packet that is lost
abbrev pub calls : List Call
calls =
    add sender voice Sending 0 ∷ add receiver voice Receiving 0
    ∷ add sender drums Sending 7 ∷ add receiver drums Receiving 7
    ∷ sending voice0 ∷ sending drums0 ∷ sending voice1 ∷ sending voice2 ∷ sending voice3 ∷ sending voice4
    ∷ arriving (wire voice 65534 voice0)
    ∷ arriving (wire voice 65536 voice2)
    ∷ unprotect receiver wrong_version (length wrong_version)
    ∷ arriving (wire drums 458761 drums0)
    ∷ arriving (wire voice 65535 voice1)
    ∷ arriving (wire voice 65536 voice2)
    ∷ arriving (wire voice 65737 voice4)
    ∷ arriving (wire voice 65534 voice0)
    ∷ []

abbrev pub events : List Event
events = events_of (just_made CmHmac key salt 2 ids others) calls

-- which packet arrives in the calls after the receiver's add: of the voice from call 2 on, of the drums from call 4 on
abbrev pub marked : List Mark → ℕ → Mark
marked l k = get_or l k unmarked

abbrev pub voice_marks : List Mark
voice_marks =
    unmarked ∷ unmarked ∷ unmarked ∷ unmarked ∷ unmarked ∷ unmarked ∷ unmarked ∷ unmarked
    ∷ carries 0 ∷ carries 2 ∷ unmarked ∷ unmarked ∷ carries 1 ∷ carries 2 ∷ carries 4 ∷ carries 0 ∷ []

abbrev pub drums_marks : List Mark
drums_marks = unmarked ∷ unmarked ∷ unmarked ∷ unmarked ∷ unmarked ∷ unmarked ∷ unmarked ∷ unmarked ∷ unmarked ∷ carries 0 ∷ []

abbrev pub sent_as : ℕ → ℕ → List ℕ → Sent
sent_as ssrc i p = record { index = i; packet = p; wire = wire ssrc i p }

abbrev pub voice_sent : List Sent
voice_sent = sent_as voice 65534 voice0 ∷ sent_as voice 65535 voice1 ∷ sent_as voice 65536 voice2 ∷ sent_as voice 65736 voice3 ∷ sent_as voice 65737 voice4 ∷ []

abbrev pub drums_sent : List Sent
drums_sent = sent_as drums 458761 drums0 ∷ []

pub record PremisesAreMet : Type 0 where
  pub sets : EqualSets ids others
  pub bytes : Each Bytes calls
  pub adds : (get_or events 0 no_event ≡ added sender voice Sending 0) × (get_or events 1 no_event ≡ added receiver voice Receiving 0)
  pub adds-drums : (get_or events 2 no_event ≡ added sender drums Sending 7) × (get_or events 3 no_event ≡ added receiver drums Receiving 7)
  pub sent : voice_sent ≡ sent_from voice 0 none_sent events
  pub sent-drums : drums_sent ≡ sent_from drums 7 none_sent events
  pub met : Premises voice 0 voice_sent (marked voice_marks) (drop 2 events)
  pub met-drums : Premises drums 7 drums_sent (marked drums_marks) (drop 4 events)
  -- so, by `DemandThree`, these are the numbers: given back, given back, late and given back, repeated, given back, old
  pub numbers : map (λ (a : Arrival). a.answer.number) (arrivals_of (marked voice_marks) (drop 2 events)) ≡ 0 ∷ 0 ∷ 0 ∷ 13 ∷ 0 ∷ 12 ∷ []
  pub numbers-drums : map (λ (a : Arrival). a.answer.number) (arrivals_of (marked drums_marks) (drop 4 events)) ≡ 0 ∷ []

-- ---- and hollow programs would answer otherwise

abbrev pub answer_at : ℕ → Answer
answer_at k = answer_in (get_or events k no_event)

abbrev pub buffer_at : ℕ → List ℕ
buffer_at k = buffer_of (call_in (get_or events k no_event))

-- Calls 4 and 7 send, and in calls 10 and 11 arrive, the voice's packets 0 and 2, of 19 and 22 bytes.
pub record HollowProgramsDiffer : Type 0 where
  -- one that refuses everything
  pub not-refused : ((answer_at 4).number ≡ 0) × ((answer_at 10).number ≡ 0)
  -- one with a fixed answer
  pub not-fixed : (answer_at 4 ≡ answer_at 7 → ⊥) × (answer_at 10 ≡ answer_at 11 → ⊥)
  -- one that leaves the buffer
  pub not_left : ((answer_at 4).buffer ≡ buffer_at 4 → ⊥) × ((answer_at 10).buffer ≡ buffer_at 10 → ⊥)
  -- one that is right only for a stream's first packet, and echoes later ones
  pub not-echoed : ((answer_at 7).buffer ≡ buffer_at 7 → ⊥) × ((answer_at 11).buffer ≡ buffer_at 11 → ⊥)
