-- Demand 3, its second half: "two neighbouring packet calls for different streams, on separate buffers, can change places with no answer, buffer or stream
-- record coming out different, later calls included."
use Rattle.std.specs.Prelude.{◌≡◌, List, [], ◌∷◌, ◌⊎◌, ℕ, zero, suc, get_or, take}
use Rattle.rtp_header.specs.Header.{ssrc_of}
use Rattle.policies.specs.declared.policy.Way.{Way}
use Rattle.policies.specs.declared.policy.Way.TheVariants.{Sending, Receiving}
use Rattle.session.specs.Packets.{Answer}
use Rattle.theorems.specs.Lists.{Call, add, protect, unprotect, end_of, event, no_event, Run}

-- "Packet calls are protect and unprotect."
abbrev pub IsPacketCall : Call → Type 0
IsPacketCall (add e ssrc way rollover) = ⊥
IsPacketCall (protect e buf n) = Unit {0}
IsPacketCall (unprotect e buf n) = Unit {0}

abbrev pub ssrc_in : Call → ℕ
ssrc_in (add e ssrc way rollover) = ssrc
ssrc_in (protect e buf n) = ssrc_of (take n buf)
ssrc_in (unprotect e buf n) = ssrc_of (take n buf)

abbrev pub way_in : Call → Way
way_in (add e ssrc way rollover) = way
way_in (protect e buf n) = Sending
way_in (unprotect e buf n) = Receiving

-- refused with LENGTH or SHORT
abbrev pub LengthOrShort : Answer → Type 0
LengthOrShort a = (a.number ≡ 1) ⊎ (a.number ≡ 2)

-- "Two are for different streams where SSRC, way or session differs, or where one is refused with LENGTH or SHORT.": c answered by a, and d by b
abbrev pub DifferentStreams : Call → Answer → Call → Answer → Type 0
DifferentStreams c a d b = (end_of c ≡ end_of d → way_in c ≡ way_in d → ssrc_in c ≡ ssrc_in d → ⊥) ⊎ (LengthOrShort a ⊎ LengthOrShort b)

-- a list with its elements k and k + 1 in each other's place
abbrev pub exchanged : {A : Type 0} → ℕ → List A → List A
exchanged k [] = []
exchanged zero (a ∷ []) = a ∷ []
exchanged zero (a ∷ b ∷ l) = b ∷ a ∷ l
exchanged (suc k) (a ∷ l) = a ∷ exchanged k l

-- In this list of calls, of which `runs` gives the events and what is left: calls k and k + 1 can change places. Each call, later ones included, then has the
-- same answer and leaves the same buffer, and both sessions, or the words of both memories, come out the same.
abbrev pub NeighboursChangePlaces : {S : Type 0} → (List Call → Run S) → List Call → Type 0
NeighboursChangePlaces runs calls =
    (k : ℕ) (c d : Call) (a b : Answer)
    → get_or (runs calls).events k no_event ≡ event c a
    → get_or (runs calls).events (suc k) no_event ≡ event d b
    → IsPacketCall c → IsPacketCall d → DifferentStreams c a d b
    → runs (exchanged k calls) ≡ record { events = exchanged k (runs calls).events; left = (runs calls).left }
