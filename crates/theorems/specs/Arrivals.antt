-- Demand 3, its first half: whichever of a stream's packets are lost, repeated or out of order, each that arrives is given back right or refused, as the
-- ledger says.
use Rattle.std.specs.Prelude.{◌≡◌, true, false, List, [], ◌∷◌, ◌++◌, ℕ, suc, ◌+◌, ◌*◌, ◌^◌, ◌<◌, eqb, length, get_or, set, take, drop}
use Rattle.bits.specs.Pick.{pick}
use Rattle.bits.specs.Lists.{Each}
use Rattle.rtp_header.specs.Header.{count_of, layout_of, ssrc_of}
use Rattle.ledger.specs.Ledger.{enter, Near}
use Rattle.policies.specs.declared.policy.Policy.{Policy}
use Rattle.policies.specs.declared.policy.Way.TheVariants.{Sending, Receiving}
use Rattle.policies.specs.Cryptex.{adds_block}
use Rattle.session.specs.Making.{policy_of}
use Rattle.session.specs.Packets.{Answer}
use Rattle.theorems.specs.Lists.{sender, receiver, Call, add, protect, unprotect, Event, event, added, no_event}
use Rattle.theorems.specs.Sent.{Sent, none_sent, sent_from, no_packet}

-- ---- what arrives

-- The list says which sent packet arrives in an unprotect: packet k of its stream, counted from 0 in the order of sending; or none.
pub data Mark : Type 0 where
  unmarked : Mark
  carries : ℕ → Mark

pub record Arrival : Type 0 where
  pub packet : ℕ
  pub buffer : List ℕ
  pub n : ℕ
  pub answer : Answer

-- a marked unprotect in the receiver's session is an arrival
abbrev pub arrival_at : Mark → Call → Answer → List Arrival → List Arrival
arrival_at m (add e y way r) a l = l
arrival_at m (protect e buf n) a l = l
arrival_at m (unprotect sender buf n) a l = l
arrival_at unmarked (unprotect receiver buf n) a l = l
arrival_at (carries k) (unprotect receiver buf n) a l = record { packet = k; buffer = buf; n = n; answer = a } ∷ l

-- the number of every other unprotect there on a packet with this SSRC
abbrev pub other_at : ℕ → Mark → Call → Answer → List ℕ → List ℕ
other_at ssrc m (add e y way r) a l = l
other_at ssrc m (protect e buf n) a l = l
other_at ssrc m (unprotect sender buf n) a l = l
other_at ssrc unmarked (unprotect receiver buf n) a l = pick (eqb (ssrc_of (take n buf)) ssrc) (a.number ∷ l) l
other_at ssrc (carries k) (unprotect receiver buf n) a l = l

-- over events, under a marking of them, counted from 0
abbrev pub arrivals_of : (ℕ → Mark) → List Event → List Arrival
arrivals_of marks [] = []
arrivals_of marks (event c a ∷ es) = arrival_at (marks 0) c a (arrivals_of (λ k. marks (suc k)) es)

abbrev pub others_of : ℕ → (ℕ → Mark) → List Event → List ℕ
others_of ssrc marks [] = []
others_of ssrc marks (event c a ∷ es) = other_at ssrc (marks 0) c a (others_of ssrc (λ k. marks (suc k)) es)

-- ---- the premises

-- "It arrives in an unprotect in the receiver's session, .. told its wire length, on a buffer that starts with its wire bytes."
pub record Carries (sent : List Sent) (a : Arrival) : Type 0 where
  pub known : a.packet < length sent
  pub size : a.n ≡ length (get_or sent a.packet no_packet).wire
  pub bytes : take a.n a.buffer ≡ (get_or sent a.packet no_packet).wire

-- "the first to arrive carries the starting rollover, and each later one is under 32,768 away from the highest accepted": the ledger's
abbrev pub AllNear : ℕ → List Sent → List ℕ → List Arrival → Type 0
AllNear rollover sent held [] = Unit {0}
AllNear rollover sent held (a ∷ l) =
    Near rollover held (get_or sent a.packet no_packet).index
    × AllNear rollover sent (enter 64 held (get_or sent a.packet no_packet).index).held l

pub record Premises (ssrc rollover : ℕ) (sent : List Sent) (marks : ℕ → Mark) (events : List Event) : Type 0 where
  pub carried : Each (Carries sent) (arrivals_of marks events)
  -- "every other unprotect there after that add, on a packet with this SSRC, is refused"
  pub nothing-else : Each (λ (number : ℕ). number ≡ 0 → ⊥) (others_of ssrc marks events)
  pub near : AllNear rollover sent [] (arrivals_of marks events)

-- ---- the conclusion

-- Given back right: the packet that was handed to protect or, where Cryptex added its block, this with X = 1, which is worth 16 in the first byte, and
-- BEDE 0000 after the contributors.
pub record Right (policy : Policy) (p : List ℕ) (a : Answer) : Type 0 where
  pub same : adds_block policy (layout_of p) ≡ false → (a.length ≡ length p) × (take a.length a.buffer ≡ p)
  pub block : adds_block policy (layout_of p) ≡ true
      → (a.length ≡ length p + 4)
      × (take a.length a.buffer
      ≡ take (12 + 4 * count_of p) (set p 0 (get_or p 0 0 + 16)) ++ (0xBE ∷ 0xDE ∷ 0x00 ∷ 0x00 ∷ drop (12 + 4 * count_of p) p))

-- Each arrival in turn, beside the ledger, which holds every index given back and forgets none: its number is the ledger's, 0, 12 or 13, and with 0 it
-- is given back right.
abbrev pub AsTheLedger : Policy → List Sent → List ℕ → List Arrival → Type 0
AsTheLedger policy sent held [] = Unit {0}
AsTheLedger policy sent held (a ∷ l) =
    (a.answer.number ≡ (enter 64 held (get_or sent a.packet no_packet).index).told.number)
    × (a.answer.number ≡ 0 → Right policy (get_or sent a.packet no_packet).packet a.answer)
    × AsTheLedger policy sent (enter 64 held (get_or sent a.packet no_packet).index).held l

-- In these events: for every stream that is added at both ends with equal starting rollover, in call i to send at the sender's and in call j to receive
-- at the receiver's, and every marking of the calls after j that meets the premises, each arrival is as the ledger says.
abbrev pub ArrivalsFollowTheLedger : ℕ → List Event → Type 0
ArrivalsFollowTheLedger policy events =
    (ssrc rollover i j : ℕ) → rollover < 2 ^ 32
    → get_or events i no_event ≡ added sender ssrc Sending rollover
    → get_or events j no_event ≡ added receiver ssrc Receiving rollover
    → (sent : List Sent) → sent ≡ sent_from ssrc rollover none_sent events
    → (marks : ℕ → Mark) → Premises ssrc rollover sent marks (drop (suc j) events)
    → AsTheLedger (policy_of policy) sent [] (arrivals_of marks (drop (suc j) events))
