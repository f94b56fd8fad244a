-- The front of every packet call, in the order of its refusals: the memory's size, LENGTH, SHORT to LARGE, ROOM, STREAM, and those of the index rule.
use Rattle.std.specs.Prelude.{◌≡◌, List, ℕ, ◌+◌, ◌^◌, ◌≤◌, ◌<◌, eqb, ltb, length, take, Option, Some, None, Result, Ok, Err}
use Rattle.bits.specs.Pick.{pick}
use Rattle.bits.specs.declared.refusal.Border.{Border}
use Rattle.bits.specs.declared.refusal.Border.TheVariants as border
use Rattle.bits.specs.declared.refusal.Refusal.{Refusal}
use Rattle.bits.specs.declared.refusal.Refusal.TheVariants as refusal
use Rattle.memory.specs.Words.{word}
use Rattle.rtp_header.specs.declared.header.Layout.{Layout}
use Rattle.rtp_header.specs.Header.{seq_of, ssrc_of}
use Rattle.policies.specs.declared.policy.Way.{Way}
use Rattle.policies.specs.Judging.{added_of, judged_of}
use Rattle.suites.specs.Suites.{tag_length_of}
use Rattle.session.specs.Memory.{size, suite_at, policy_at, decode}
use Rattle.session.specs.Places.{place_from}
use Rattle.records.specs.Tracks.{record_in, judged_by}
use Rattle.front.specs.declared.open.Opened.{Opened}

-- ---- what the front answers for the packet p, of layout h

module _ (way : Way) (words p : List ℕ) (h : Layout) where
  -- ORDER, WORN, OLD, REPEAT
  abbrev pub open_index : ℕ → Result ℕ Refusal → Result Opened Refusal
  open_index i (Err r) = Err r
  open_index i (Ok k) = Ok (record { header = Ok h; place = i; index = k })

  -- STREAM
  abbrev pub open_at : Option ℕ → Result Opened Refusal
  open_at None = Err refusal.Stream
  open_at (Some i) = open_index i (judged_by way (record_in words i) (seq_of p))

  abbrev pub stream_of : Result Opened Refusal
  stream_of = open_at (place_from 0 (decode words).records (ssrc_of p) way)

-- the header reader's answer: every other refusal stands where the reader's own does
abbrev pub opened_by : Result Opened Refusal → Opened
opened_by (Ok o) = o
opened_by (Err r) = record { header = Err r; place = 0; index = 0 }

module _ (way : Way) (words buf : List ℕ) (n : ℕ) where
  -- SHORT to LARGE, then ROOM: a packet that arrives needs none
  abbrev pub open_read : Result Layout Refusal → Result Opened Refusal
  open_read (Err r) = Err r
  open_read (Ok h) =
      pick (ltb (length buf) (n + added_of way (policy_at (word words 0)) (tag_length_of (suite_at (word words 0))) h)) (Err refusal.Room) (stream_of way words (take n buf) h)

  -- LENGTH
  unfoldable pub in_session_of : Result Opened Refusal
  in_session_of =
      pick (ltb (length buf) n) (Err refusal.Length)
      (open_read (judged_of way (policy_at (word words 0)) (tag_length_of (suite_at (word words 0))) (take n buf)))

  -- the memory's size, then the rest
  unfoldable pub open_of : Result Opened Border
  open_of = pick (eqb (length words) size) (Ok (opened_by in_session_of)) (Err border.Memory)

-- ---- what holds where nothing was refused, for the calls' cores

-- the packet p has the index k, and its stream's record stands at place i
pub record Placed (way : Way) (words p : List ℕ) (i k : ℕ) : Type 0 where
  pub here : place_from 0 (decode words).records (ssrc_of p) way ≡ Some i
  pub in32 : i < 32
  pub index : judged_by way (record_in words i) (seq_of p) ≡ Ok k
  pub small : k < 2 ^ 48

abbrev pub InStream : Way → List ℕ → List ℕ → Result Opened Refusal → Type 0
InStream way words p (Ok o) = Placed way words p o.place o.index
InStream way words p (Err r) = Unit {0}

-- the packet of n bytes was judged, has layout h, and there is room for what is made of it
pub record Readable (way : Way) (words buf : List ℕ) (n : ℕ) (h : Layout) : Type 0 where
  pub inside : n ≤ length buf
  pub judged : judged_of way (policy_at (word words 0)) (tag_length_of (suite_at (word words 0))) (take n buf) ≡ Ok h
  pub room : n + added_of way (policy_at (word words 0)) (tag_length_of (suite_at (word words 0))) h ≤ length buf

pub record Ready (way : Way) (words buf : List ℕ) (n i k : ℕ) (h : Layout) : Type 0 where
  pub readable : Readable way words buf n h
  pub placed : Placed way words (take n buf) i k

abbrev pub ReadyAt : Way → List ℕ → List ℕ → ℕ → ℕ → ℕ → Result Layout Refusal → Type 0
ReadyAt way words buf n i k (Ok h) = Ready way words buf n i k h
ReadyAt way words buf n i k (Err r) = Unit {0}

abbrev pub OpensAs : Way → List ℕ → List ℕ → ℕ → Result Opened Refusal → Type 0
OpensAs way words buf n (Ok o) = ReadyAt way words buf n o.place o.index o.header
OpensAs way words buf n (Err r) = Unit {0}

abbrev pub Opens : Way → List ℕ → List ℕ → ℕ → Result Opened Border → Type 0
Opens way words buf n (Ok o) = (length words ≡ size) × ReadyAt way words buf n o.place o.index o.header
Opens way words buf n (Err b) = Unit {0}
