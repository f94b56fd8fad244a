-- The calls on lent memory: what each gives back, and what it leaves of the session's memory and of the buffer.
use Rattle.std.specs.Prelude.{◌≡◌, List, [], ℕ, ◌+◌, eqb, ltb, length, get_or, take, Option, Some, None}
use Rattle.bits.specs.Pick.{pick}
use Rattle.bits.specs.Refusals.{wrong_memory, wrong_way, wrong_suite}
use Rattle.suites.specs.Suites.{suite_of}
use Rattle.memory.specs.Parts.{with_part, place_in}
use Rattle.rtp_header.specs.Header.{ssrc_of}
use Rattle.policies.specs.declared.policy.Way.{Way}
use Rattle.policies.specs.declared.policy.Way.TheVariants.{Sending, Receiving}
use Rattle.replay.specs.State.{ReplayState}
use Rattle.replay.specs.Track.{state_words}
use Rattle.session.specs.Session.{Made, Record}
use Rattle.session.specs.Making.{make_of}
use Rattle.session.specs.Adding.{add_of}
use Rattle.session.specs.Packets.{Answer, Outcome, protect_of, unprotect_of}
use Rattle.session.specs.Records.{fresh_record}
use Rattle.session.specs.Places.{no_record, place_from, free_from}
use Rattle.session.specs.declared.answer.Answer.{Answer as Given}
use Rattle.session.specs.Memory.{record_layout, the_replay, size, record_place, record_words, encode, decode}

abbrev pub way_of : ℕ → Way
way_of n = pick (eqb n 0) Sending Receiving

-- ---- what a call leaves

-- the answer (number, length and buffer; make and add have neither length nor buffer), and the memory afterwards
pub record Left : Type 0 where
  pub answer : Answer
  pub words : List ℕ

abbrev pub refused_with : ℕ → List ℕ → List ℕ → Left
refused_with number words buf = record { answer = record { number = number; length = 0; buffer = buf }; words = words }

abbrev pub without_buffer : ℕ → List ℕ → Left
without_buffer number words = record { answer = record { number = number; length = 0; buffer = [] }; words = words }

-- what a packet call returned, and what it left, are these
pub record Gives (l : Left) (r : Given) (buf memory : List ℕ) : Type 0 where
  pub answer : r ≡ record { number = l.answer.number; length = l.answer.length }
  pub buffer : buf ≡ l.answer.buffer
  pub words : memory ≡ l.words

-- the same of make and add
pub record Leaves (l : Left) (r : ℕ) (memory : List ℕ) : Type 0 where
  pub number : r ≡ l.answer.number
  pub words : memory ≡ l.words

-- another replay state in record i
abbrev pub with_replay_at : List ℕ → ℕ → ReplayState → List ℕ
with_replay_at words i state = with_part (record_place i + place_in record_layout the_replay) (state_words state) words

-- another record i
abbrev pub with_record_at : List ℕ → ℕ → Record → List ℕ
with_record_at words i r = with_part (record_place i) (record_words r) words

-- ---- make

-- memory's size and the suite's number first, which leave memory as it is
unfoldable pub make_call : List ℕ → List ℕ → List ℕ → ℕ → List ℕ → ℕ → Left
make_call words key salt policy ids suite =
    pick (eqb (length words) size)
    (pick (ltb suite 2)
    (without_buffer (make_of (suite_of suite) key salt policy ids).number (encode (make_of (suite_of suite) key salt policy ids).session))
    (without_buffer wrong_suite words))
    (without_buffer wrong_memory words)

-- ---- add

abbrev pub placed_at : List ℕ → Option ℕ → Record → List ℕ
placed_at words None r = words
placed_at words (Some i) r = with_record_at words i r

-- With a result the new record is in the first free place, and nothing else changes.
abbrev pub added_in : List ℕ → Record → Made → Left
added_in words new m =
    without_buffer m.number (pick (eqb m.number 0) (placed_at words (free_from 0 (decode words).records) new) words)

unfoldable pub add_call : List ℕ → ℕ → ℕ → ℕ → Left
add_call words ssrc way rollover =
    pick (eqb (length words) size)
    (pick (ltb way 2) (added_in words (fresh_record ssrc (way_of way) rollover) (add_of (decode words) ssrc (way_of way) rollover))
    (without_buffer wrong_way words))
    (without_buffer wrong_memory words)

-- ---- protect and unprotect

abbrev pub stored_at : List ℕ → Option ℕ → List Record → List ℕ
stored_at words None records = words
stored_at words (Some i) records = with_replay_at words i (get_or records i no_record).replay

-- With a result the stream's record has the replay state of the session afterwards, and nothing else changes.
abbrev pub settled_in : List ℕ → ℕ → Way → Outcome → Left
settled_in words ssrc way o =
    record {
      answer = o.answer;
      words = pick (eqb o.answer.number 0) (stored_at words (place_from 0 (decode words).records ssrc way) o.session.records) words;
    }

unfoldable pub protect_call : List ℕ → List ℕ → ℕ → Left
protect_call words buf n =
    pick (eqb (length words) size)
    (settled_in words (ssrc_of (take n buf)) Sending (protect_of (decode words) buf n))
    (refused_with wrong_memory words buf)

unfoldable pub unprotect_call : List ℕ → List ℕ → ℕ → Left
unprotect_call words buf n =
    pick (eqb (length words) size)
    (settled_in words (ssrc_of (take n buf)) Receiving (unprotect_of (decode words) buf n))
    (refused_with wrong_memory words buf)
