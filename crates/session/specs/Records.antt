-- Document 01, "The library's work": the stream records of a session, each for one SSRC and one way.
use Rattle.std.specs.Prelude.{Bool, true, false, not, ◌&&◌, ◌||◌, List, [], ◌∷◌, ℕ, eqb}
use Rattle.bits.specs.Pick.{pick}
use Rattle.policies.specs.declared.policy.Way.{Way}
use Rattle.policies.specs.declared.policy.Way.TheVariants.{Sending, Receiving}
use Rattle.replay.specs.State.{ReplayState}
use Rattle.replay.specs.State.{fresh_of}
use Rattle.replay.specs.Window.{blocks}
use Rattle.session.specs.Session.{Kind, Free, Sender, Receiver, Record}

-- ---- a place

abbrev pub kind_of : Way → Kind
kind_of Sending = Sender
kind_of Receiving = Receiver

-- the record is for this way
abbrev pub has_way : Kind → Way → Bool
has_way Free way = false
has_way Sender Sending = true
has_way Sender Receiving = false
has_way Receiver Sending = false
has_way Receiver Receiving = true

abbrev pub is_free : Kind → Bool
is_free Free = true
is_free Sender = false
is_free Receiver = false

-- the record is for this SSRC and this way
abbrev pub is_for : Record → ℕ → Way → Bool
is_for r ssrc way = eqb r.ssrc ssrc && has_way r.kind way

-- a stream that has had no packet
abbrev pub fresh_record : ℕ → Way → ℕ → Record
fresh_record ssrc way rollover = record { ssrc = ssrc; kind = kind_of way; rollover = rollover; replay = fresh_of blocks }

-- a place that holds no record
abbrev pub free_place : Record
free_place = record { ssrc = 0; kind = Free; rollover = 0; replay = fresh_of blocks }

-- ---- all places

pub data Found : Type 0 where
  none : Found
  some : Record → Found

-- the first that passes a test, and all of them with that one changed
abbrev pub first_in : (Record → Bool) → List Record → Found
first_in test [] = none
first_in test (r ∷ l) = pick (test r) (some r) (first_in test l)

abbrev pub change_first : (Record → Bool) → (Record → Record) → List Record → List Record
change_first test change [] = []
change_first test change (r ∷ l) = pick (test r) (change r ∷ l) (r ∷ change_first test change l)

-- the record for this SSRC and this way
abbrev pub record_for : List Record → ℕ → Way → Found
record_for l ssrc way = first_in (λ r. is_for r ssrc way) l

-- and the records with another replay state in it
abbrev pub with_replay : Record → ReplayState → Record
with_replay r state = record { ssrc = r.ssrc; kind = r.kind; rollover = r.rollover; replay = state }

abbrev pub store_for : List Record → ℕ → Way → ReplayState → List Record
store_for l ssrc way state = change_first (λ r. is_for r ssrc way) (λ r. with_replay r state) l

-- this SSRC has a record, either way
abbrev pub has_ssrc : List Record → ℕ → Bool
has_ssrc [] ssrc = false
has_ssrc (r ∷ l) ssrc = (not (is_free r.kind) && eqb r.ssrc ssrc) || has_ssrc l ssrc

-- no place is free
abbrev pub is_full : List Record → Bool
is_full [] = true
is_full (r ∷ l) = not (is_free r.kind) && is_full l

-- The records with one more. The papers do not say in which place: it is the first that holds none.
abbrev pub placed : List Record → Record → List Record
placed l new = change_first (λ r. is_free r.kind) (λ r. new) l
