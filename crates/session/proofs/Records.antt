-- The records of a session in memory, by the laws of parts: a field read, a field stored, a record stored, a record written and read back.
use mathlib.Core.Path.{◌≡◌, refl, sym, ap, ◌∙◌}
use mathlib.Core.List.{List, [], map}
use Prim.Native.Nat.{ℕ, ◌+◌, ◌*◌, ◌<◌}
use native.Mathlib.Nat.{mod-eq_of_lt}
use native.Mathlib.Omega.{arith}
use lib.ListN.{length, get_or, set, take, drop, length-drop}
use lib.Pow.{high, low}
use lib.Seq.{length-take-le, drop-drop}
use Rattle.memory.specs.Parts.{part_at, with_part, cells_of, place_in, cut}
use Rattle.memory.specs.Words.{word}
use Rattle.memory.proofs.Parts.{drop-with, part_of, cells-length, cell-at, cell-stored, field_stored, cut-join, join-length, field_put, field-read, field-inside, part-word}
use Rattle.replay.specs.State.{ReplayState}
use Rattle.replay.specs.Track.{Blocks, state_words}
use Rattle.replay.specs.Window.{blocks}
use Rattle.replay.proofs.Tracks.{blocks-in, state-length, state-kept}
use Rattle.session.specs.Session.{Kind, Free, Sender, Receiver, Record}
use Rattle.session.specs.Memory.{number, record_layout, the_replay, kind_number, kind_at, record_fields, record_from, each, record_words, record_at, front, size, record_place, records_in}
use Rattle.session.specs.Places.{no_record}
use Rattle.session.specs.Records.{with_replay}
use Rattle.session.specs.RoundTrip.{RecordFits}

-- ---- a record

kind-kept : (k : Kind) → kind_at (kind_number k) ≡ k
kind-kept Free = refl
kind-kept Sender = refl
kind-kept Receiver = refl

sizes : (r : Record) → RecordFits r → map length (record_fields r) ≡ record_layout
sizes r f = rw (state-length blocks r.replay f.replay)

fields-kept : (r : Record) → RecordFits r → record_from (record_fields r) ≡ r
fields-kept r f =
    rw (
      low (kind_number r.kind) 32 f.ssrc,
      high (kind_number r.kind) 32 f.ssrc,
      kind-kept r.kind,
      mod-eq_of_lt f.rollover,
      state-kept blocks r.replay f.replay,
    )

pub record-kept : (r : Record) → RecordFits r → record_at (record_words r) ≡ r
unfolding record_at record_words
record-kept r f = ap record_from (cut-join record_layout (record_fields r) (sizes r f)) ∙ fields-kept r f

pub record-length : (r : Record) → RecordFits r → length (record_words r) ≡ each
unfolding record_words
record-length r f = join-length record_layout (record_fields r) (sizes r f)

-- ---- record i of a session

pub records-length : (words : List ℕ) → length (records_in words) ≡ 32
unfolding records_in
records-length words = cells-length each record_at 32 (drop front words)

-- the words of record i
abbrev pub cell_at : List ℕ → ℕ → List ℕ
cell_at words i = part_at (each * i) each (drop front words)

pub record-at : (words : List ℕ) (i : ℕ) → i < 32 → get_or (records_in words) i no_record ≡ record_at (cell_at words i)
unfolding records_in
record-at words i h = cell-at each record_at 32 (drop front words) i no_record h

-- a field of record i is the part at its place
pub field_at : (words : List ℕ) (i k : ℕ) → k < length record_layout
    → get_or (cut record_layout (cell_at words i)) k [] ≡ part_at (record_place i + place_in record_layout k) (get_or record_layout k 0) words
field_at words i k h =
    let z : record_place i + place_in record_layout k ≡ front + (each * i + place_in record_layout k) = omega arith in
    field-read record_layout k (cell_at words i) h
    ∙ part_of (each * i) each (place_in record_layout k) (get_or record_layout k 0) (drop front words) (field-inside record_layout k h)
    ∙ ap (take (get_or record_layout k 0)) (drop-drop (each * i + place_in record_layout k) front words)
    ∙ ap (λ (a : ℕ). part_at a (get_or record_layout k 0) words) (sym z)

-- a field of one word is the word at its place
pub number_at : (words : List ℕ) (i k : ℕ) → k < length record_layout → get_or record_layout k 0 ≡ 1
    → number (cut record_layout (cell_at words i)) k ≡ word words (record_place i + place_in record_layout k)
number_at words i k h o =
    let z : record_place i + place_in record_layout k + 0 ≡ record_place i + place_in record_layout k = omega arith in
    ap (λ (l : List ℕ). word l 0) (field_at words i k h)
    ∙ part-word (record_place i + place_in record_layout k) (get_or record_layout k 0) 0 words (omega (arith, o))
    ∙ ap (word words) z

module _ (words : List ℕ) (sized : length words ≡ size) (i : ℕ) (in32 : i < 32) where
  behind : length (drop front words) ≡ 32 * each
  behind = length-drop front words ∙ omega arith

  cell-length : length (cell_at words i) ≡ each
  cell-length = length-take-le each (drop (each * i) (drop front words)) (omega (arith, length-drop (each * i) (drop front words), behind))

  -- field k stored
  pub field-became : (k : ℕ) (p : List ℕ) → k < length record_layout → length p ≡ get_or record_layout k 0
      → records_in (with_part (record_place i + place_in record_layout k) p words) ≡ set (records_in words) i (record_from (set (cut record_layout (cell_at words i)) k p))
  unfolding records_in record_at
  field-became k p h l =
      let q = field-inside record_layout k h in
      let z : record_place i + place_in record_layout k ≡ front + (each * i + place_in record_layout k) = omega arith in
      ap (λ (a : ℕ). cells_of each 32 record_at (drop front (with_part a p words))) z
      ∙ ap (cells_of each 32 record_at) (drop-with front (each * i + place_in record_layout k) p words (omega (arith, q)))
      ∙ field_stored each record_at 32 (drop front words) i (place_in record_layout k) p in32 (omega (arith, q, l)) (omega (arith, behind))
      ∙ ap (λ (f : List (List ℕ)). set (cells_of each 32 record_at (drop front words)) i (record_from f)) (field_put record_layout k p (cell_at words i) h l (omega (arith, cell-length)))

  -- the whole record stored
  pub record-became : (p : List ℕ) → length p ≡ each → records_in (with_part (record_place i) p words) ≡ set (records_in words) i (record_at p)
  unfolding records_in
  record-became p l =
      ap (cells_of each 32 record_at) (drop-with front (each * i) p words (omega arith))
      ∙ cell-stored each record_at 32 (drop front words) i p in32 l (omega (arith, behind))

  -- ---- the replay state

  pub replay-length : length (get_or (cut record_layout (cell_at words i)) the_replay []) ≡ 2 + (blocks + blocks)
  replay-length =
      ap length (field-read record_layout the_replay (cell_at words i) (omega arith))
      ∙ length-take-le (get_or record_layout the_replay 0) (drop (place_in record_layout the_replay) (cell_at words i))
      (omega (arith, length-drop (place_in record_layout the_replay) (cell_at words i), cell-length))

  pub replay-blocks : Blocks blocks (get_or (records_in words) i no_record).replay
  unfolding record_at
  replay-blocks = rw (record-at words i in32) (blocks-in blocks (get_or (cut record_layout (cell_at words i)) the_replay []) replay-length)

  pub replay-became : (s : ReplayState) → Blocks blocks s
      → records_in (with_part (record_place i + place_in record_layout the_replay) (state_words s) words) ≡ set (records_in words) i (with_replay (get_or (records_in words) i no_record) s)
  unfolding record_at
  replay-became s f =
      field-became the_replay (state_words s) (omega arith) (state-length blocks s f)
      ∙ ap (set (records_in words) i) (rw (state-kept blocks s f, record-at words i in32))
