-- What memory holds after a call: the session that the call's definition gives back.
use Rattle.std.specs.Prelude.{Option, Some, None}
use mathlib.Core.Path.{◌≡◌, refl, sym, ap, ◌∙◌}
use mathlib.Core.Bool.{Bool, true, false}
use mathlib.Core.List.{List}
use Prim.Native.Nat.{ℕ, ◌+◌, ◌^◌, ◌≤◌, ◌<◌}
use native.Mathlib.Decide.{dec_lt}
use native.Mathlib.Omega.{arith}
use borrow.Author.Tests.{eq-eqb, ne_eqb}
use lib.ListN.{length, get_or, set, take}
use Rattle.bits.specs.Refusals.{number_of}
use Rattle.bits.specs.declared.refusal.Refusal.{Refusal}
use Rattle.bits.proofs.Refusals.{above_zero}
use Rattle.memory.specs.Parts.{with_part, place_in}
use Rattle.memory.specs.Words.{word}
use Rattle.memory.proofs.Parts.{with-length, parts-apart, field-word, cut-before}
use Rattle.rtp_header.specs.Header.{ssrc_of}
use Rattle.policies.specs.declared.policy.Way.{Way}
use Rattle.policies.proofs.Layouts.{apart}
use Rattle.replay.specs.State.{ReplayState}
use Rattle.replay.specs.Track.{Blocks, state_words}
use Rattle.replay.specs.Window.{blocks}
use Rattle.replay.proofs.Tracks.{fresh-blocks, state-length}
use Rattle.session.specs.Session.{Record, Session}
use Rattle.session.specs.Adding.{add_of}
use Rattle.session.specs.Packets.{Effect, refuse, give, settled}
use Rattle.session.specs.Records.{is_for, record_for, with_replay, is_full, placed, fresh_record}
use Rattle.session.specs.Places.{no_record, place_from, free_from}
use Rattle.session.specs.Calls.{Left, without_buffer, with_replay_at, with_record_at, placed_at, added_in, settled_in}
use Rattle.session.specs.Memory.{number, record_layout, the_replay, each, record_words, setup_layout, the_mark, is_mark, setup_from, size, record_place, records_in, setup_at, decode}
use Rattle.session.specs.RoundTrip.{RecordFits}
use Rattle.session.proofs.Adding.{add-cases}
use Rattle.session.proofs.Places.{first-here, nowhere, stored_there, free, full}
use Rattle.session.proofs.Memory.{made, not_made, placed-made}
use Rattle.session.proofs.Records.{record-kept, record-length, records-length, record-became, replay-became}
use Rattle.session.proofs.Ways.{outcome_by, call_by, done_by, call-is, outcome-is}
use Rattle.session.proofs.Shapes.{EffectFits, found-fits, effect-fits}

-- ---- a record stored

module _ (words : List ℕ) (sized : length words ≡ size) (i : ℕ) (inside : i < 32) (marked : is_mark (word words 0) ≡ true) where
  -- p at place b of record i: what the session was made from stays
  around : (b : ℕ) (p : List ℕ) → b ≤ each
      → decode (with_part (record_place i + b) p words) ≡ record { setup = (decode words).setup; records = records_in (with_part (record_place i + b) p words) }
  unfolding setup_at
  around b p h =
      let fields = cut-before setup_layout (record_place i + b) p words (omega arith) (omega arith) in
      let first = sym (field-word setup_layout the_mark 0 (with_part (record_place i + b) p words) (omega arith) (omega arith))
      ∙ ap (λ (f : List (List ℕ)). number f the_mark) fields ∙ field-word setup_layout the_mark 0 words (omega arith) (omega arith) in
      made (with_part (record_place i + b) p words) (ap is_mark first ∙ marked)
      ∙ ap (λ (f : List (List ℕ)). record { setup = setup_from f; records = records_in (with_part (record_place i + b) p words) }) fields
      ∙ ap (λ (s : Session). record { setup = s.setup; records = records_in (with_part (record_place i + b) p words) }) (sym (made words marked))

  pub replay-decodes : (s : ReplayState) → Blocks blocks s
      → decode (with_replay_at words i s) ≡ record { setup = (decode words).setup; records = set (decode words).records i (with_replay (get_or (decode words).records i no_record) s) }
  replay-decodes s f =
      around (place_in record_layout the_replay) (state_words s) (omega arith)
      ∙ ap (λ (l : List Record). record { setup = (decode words).setup; records = l }) (replay-became words sized i inside s f)
      ∙ ap (λ (t : Session). record { setup = (decode words).setup; records = set t.records i (with_replay (get_or t.records i no_record) s) }) (sym (made words marked))

  pub record-decodes : (r : Record) → RecordFits r
      → decode (with_record_at words i r) ≡ record { setup = (decode words).setup; records = set (decode words).records i r }
  record-decodes r f =
      let z : record_place i + 0 ≡ record_place i = omega arith in
      ap (λ (a : ℕ). decode (with_part a (record_words r) words)) (sym z) ∙ around 0 (record_words r) (omega arith)
      ∙ ap (λ (a : ℕ). record { setup = (decode words).setup; records = records_in (with_part a (record_words r) words) }) z
      ∙ ap (λ (l : List Record). record { setup = (decode words).setup; records = l }) (record-became words sized i inside (record_words r) (record-length r f))
      ∙ ap (λ (q : Record). record { setup = (decode words).setup; records = set (records_in words) i q }) (record-kept r f)
      ∙ ap (λ (t : Session). record { setup = (decode words).setup; records = set t.records i r }) (sym (made words marked))

module _ (words : List ℕ) (sized : length words ≡ size) (i : ℕ) (inside : i < 32) where
  pub replay-long : (s : ReplayState) → Blocks blocks s → length (with_replay_at words i s) ≡ size
  replay-long s f = with-length (record_place i + place_in record_layout the_replay) (state_words s) words (omega (arith, state-length blocks s f)) ∙ sized

  pub record-long : (r : Record) → RecordFits r → length (with_record_at words i r) ≡ size
  record-long r f = with-length (record_place i) (record_words r) words (omega (arith, record-length r f)) ∙ sized

-- ---- protect and unprotect

-- what a call leaves of memory decodes to the session afterwards, and is as long
pub record Holds (l : Left) (s : Session) : Type 0 where
  pub session : decode l.words ≡ s
  pub long : length l.words ≡ size

abbrev pub placed_by : List ℕ → Option ℕ → Effect → List ℕ
placed_by words None e = words
placed_by words (Some i) (refuse r) = words
placed_by words (Some i) (give m after t) = with_replay_at words i t

pub refused-there : (words : List ℕ) (p : Option ℕ) (r : Refusal) → placed_by words p (refuse r) ≡ words
refused-there words None r = refl
refused-there words (Some i) r = refl

module _ (words : List ℕ) (sized : length words ≡ size) (buf : List ℕ) (x : ℕ) (way : Way) where
  pub found_in : (i : ℕ) → place_from 0 (decode words).records x way ≡ Some i → i < 32
  found_in i e =
      let n : length (decode words).records ≡ 32 = ap (λ (s : Session). length s.records) (made words (placed-made words x way i e)) ∙ records-length words in
      omega (arith, (first-here (λ r. is_for r x way) (decode words).records i e).inside)

  -- the words after an effect: the replay state at the record's place
  settled-words : (p : Option ℕ) → place_from 0 (decode words).records x way ≡ p → (e : Effect)
      → (settled_in words x way (settled (decode words) buf x way e)).words ≡ placed_by words p e
  settled-words None h (refuse r) = rw (ne_eqb (number_of r) 0 (λ z. omega (arith, above_zero r)))
  settled-words (Some i) h (refuse r) = rw (ne_eqb (number_of r) 0 (λ z. omega (arith, above_zero r)))
  settled-words None h (give m after t) = rw h
  settled-words (Some i) h (give m after t) = rw (h, stored_there (decode words).records x way i h t)

  settled-holds : (e : Effect) → EffectFits e → Holds (settled_in words x way (settled (decode words) buf x way e)) (settled (decode words) buf x way e).session
  settled-holds (refuse r) f = rw (ne_eqb (number_of r) 0 (λ z. omega (arith, above_zero r))) (record { session = refl; long = sized })
  settled-holds (give m after t) f = go (place_from 0 (decode words).records x way) refl
    where
      go : (p : Option ℕ) → place_from 0 (decode words).records x way ≡ p
          → Holds (settled_in words x way (settled (decode words) buf x way (give m after t))) (settled (decode words) buf x way (give m after t)).session
      go None e =
          rw e
          (record {
            session = sym (ap (λ (l : List Record). record { setup = (decode words).setup; records = l }) ((nowhere (λ r. is_for r x way) 0 (decode words).records e).changed (λ r. with_replay r t)));
            long = sized;
          })
      go (Some i) e =
          let h = first-here (λ r. is_for r x way) (decode words).records i e in
          let q = found_in i e in
          let k = placed-made words x way i e in
          rw (e, stored_there (decode words).records x way i e t)
          (record {
            session = replay-decodes words sized i q k t f ∙ sym (ap (λ (l : List Record). record { setup = (decode words).setup; records = l }) (h.changed (λ r. with_replay r t)));
            long = replay-long words sized i q t f;
          })

module _ (words : List ℕ) (sized : length words ≡ size) (buf : List ℕ) (n : ℕ) where
  sized-call : (way : Way) → call_by way words buf n ≡ settled_in words (ssrc_of (take n buf)) way (outcome_by way (decode words) buf n)
  sized-call way = rw (call-is way words buf n, eq-eqb (length words) size sized)

  pub call-answers : (way : Way) → (call_by way words buf n).answer ≡ (outcome_by way (decode words) buf n).answer
  call-answers way = ap (λ (l : Left). l.answer) (sized-call way)

  pub call-words : (way : Way) → (call_by way words buf n).words
      ≡ placed_by words (place_from 0 (decode words).records (ssrc_of (take n buf)) way) (done_by way (decode words) buf n)
  call-words way = ap (λ (l : Left). l.words) (sized-call way) ∙ rw (outcome-is way (decode words) buf n) (settled-words words sized buf (ssrc_of (take n buf)) way _ refl (done_by way (decode words) buf n))

  pub done-fits : (way : Way) → EffectFits (done_by way (decode words) buf n)
  done-fits way = effect-fits (decode words).setup buf n way (record_for (decode words).records (ssrc_of (take n buf)) way) (found-fits words sized (ssrc_of (take n buf)) way)

  pub call-holds : (way : Way) → Holds (call_by way words buf n) (outcome_by way (decode words) buf n).session
  call-holds way =
      rw (sized-call way, outcome-is way (decode words) buf n)
      (settled-holds words sized buf (ssrc_of (take n buf)) way (done_by way (decode words) buf n) (done-fits way))

-- ---- add

module _ (words : List ℕ) (sized : length words ≡ size) (ssrc rollover : ℕ) (ssrc32 : ssrc < 2 ^ 32) (rollover32 : rollover < 2 ^ 32) (way : Way) where
  abbrev new : Record
  new = fresh_record ssrc way rollover

  is-marked : (decode words).setup.made ≡ true → is_mark (word words 0) ≡ true
  is-marked m = go (is_mark (word words 0)) refl
    where
      go : (b : Bool) → is_mark (word words 0) ≡ b → is_mark (word words 0) ≡ true
      go true e = e
      go false e = apart (let z = ap (λ (s : Session). s.setup.made) (not_made words e) in cc)

  placed-holds : (decode words).setup.made ≡ true → is_full (decode words).records ≡ false → (p : Option ℕ) → free_from 0 (decode words).records ≡ p
      → Holds (without_buffer 0 (placed_at words (free_from 0 (decode words).records) new)) (record { setup = (decode words).setup; records = placed (decode words).records new })
  placed-holds m f None e = apart (let z = full (decode words).records (nowhere free 0 (decode words).records e).found in cc)
  placed-holds m f (Some i) e =
      let h = first-here free (decode words).records i e in
      let k = is-marked m in
      let n : length (decode words).records ≡ 32 = ap (λ (s : Session). length s.records) (made words k) ∙ records-length words in
      let j : i < 32 = omega (arith, h.inside) in
      let fits : RecordFits new = record { ssrc = ssrc32; rollover = rollover32; replay = fresh-blocks blocks } in
      rw e
      (record {
        session =
            record-decodes words sized i j k new fits
            ∙ sym (ap (λ (l : List Record). record { setup = (decode words).setup; records = l }) (h.changed (λ r. new)));
        long = record-long words sized i j new fits;
      })

  pub added-holds : Holds (added_in words new (add_of (decode words) ssrc way rollover)) (add_of (decode words) ssrc way rollover).session
  added-holds =
      add-cases (decode words) ssrc way rollover (λ m. Holds (added_in words new m) m.session)
      (λ r n. rw (ne_eqb (number_of r) 0 (λ z. omega (arith, above_zero r))) (record { session = refl; long = sized }))
      (λ m h f. placed-holds m f (free_from 0 (decode words).records) refl)

-- ---- two records

-- replay states at two places, in either order
pub places-apart : (words : List ℕ) → length words ≡ size → (i j : ℕ) → i < 32 → j < 32 → (i ≡ j → ⊥) → (t u : ReplayState) → Blocks blocks t → Blocks blocks u
    → with_replay_at (with_replay_at words i t) j u ≡ with_replay_at (with_replay_at words j u) i t
places-apart words sized i j hi hj differ t u f g =
    let m = state-length blocks t f in
    let n = state-length blocks u g in
    elim (dec_lt i j) [
      | yes l ↦ sym (parts-apart (record_place i + place_in record_layout the_replay) (state_words t) (record_place j + place_in record_layout the_replay) (state_words u) words (omega arith) (omega arith))
      | no l ↦ parts-apart (record_place j + place_in record_layout the_replay) (state_words u) (record_place i + place_in record_layout the_replay) (state_words t) words (omega (arith, differ)) (omega arith)
    ]
