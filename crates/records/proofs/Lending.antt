-- The track of record i as it is lent, judged and come back: the record's replay state.
use Rattle.std.specs.Prelude.{Ok}
use mathlib.Core.Path.{◌≡◌, refl, sym, ap, ap₂, ◌∙◌}
use mathlib.Core.List.{List, [], ◌++◌}
use Prim.Native.Nat.{ℕ, ◌+◌, ◌-◌, ◌%◌, ◌^◌, ◌<◌}
use native.Mathlib.Omega.{arith}
use lib.ListN.{length, get_or, take, drop}
use Rattle.memory.specs.Parts.{part_at, with_part, place_in, cut}
use Rattle.memory.specs.Words.{word}
use Rattle.memory.proofs.Parts.{lent, came-back}
use Rattle.replay.specs.Receive.{receive_of}
use Rattle.replay.specs.Send.{send_of, sent_of}
use Rattle.replay.specs.State.{ReplayState, accept_of}
use Rattle.replay.specs.Track.{blocks_in, state_in, state_words}
use Rattle.replay.specs.Window.{blocks, width}
use Rattle.replay.proofs.Tracks.{blocks-are, accept-blocks, sent-blocks, state-length}
use Rattle.policies.specs.declared.policy.Way.TheVariants.{Sending, Receiving}
use Rattle.session.specs.Calls.{with_replay_at}
use Rattle.session.specs.Memory.{record_layout, the_rollover, the_replay, record_at, size, record_place}
use Rattle.session.specs.Session.{Record}
use Rattle.session.proofs.Records.{cell_at, record-at, field_at, number_at, replay-length, replay-blocks}
use Rattle.records.specs.Tracks.{record_in, judged_by, committed_by}

module _ (words : List ℕ) (sized : length words ≡ size) (i : ℕ) (in32 : i < 32) (at : ℕ) (is_at : at ≡ record_place i) where
  -- where the replay state begins and ends
  abbrev from : ℕ
  from = at + place_in record_layout the_replay

  abbrev end : ℕ
  end = at + (place_in record_layout the_replay + get_or record_layout the_replay 0)

  abbrev track : List ℕ
  track = take (end - from) (drop from words)

  track-is : track ≡ get_or (cut record_layout (cell_at words i)) the_replay []
  track-is =
      lent from end (get_or record_layout the_replay 0) words (omega arith)
      ∙ ap (λ (a : ℕ). part_at (a + place_in record_layout the_replay) (get_or record_layout the_replay 0) words) is_at
      ∙ sym (field_at words i the_replay (omega arith))

  state-is : state_in track ≡ (record_in words i).replay
  unfolding record_at
  state-is = ap state_in track-is ∙ sym (ap (λ (r : Record). r.replay) (record-at words i in32))

  track-blocks : blocks_in (drop 2 track) ≡ blocks
  track-blocks = ap (λ (t : List ℕ). blocks_in (drop 2 t)) track-is ∙ blocks-are blocks (get_or (cut record_layout (cell_at words i)) the_replay []) (replay-length words sized i in32)

  rollover-is : word words (at + place_in record_layout the_rollover) % 2 ^ 32 ≡ (record_in words i).rollover
  unfolding record_at
  rollover-is =
      ap (λ (a : ℕ). word words (a + place_in record_layout the_rollover) % 2 ^ 32) is_at
      ∙ sym (ap (λ (n : ℕ). n % 2 ^ 32) (number_at words i the_rollover (omega arith) refl))
      ∙ sym (ap (λ (r : Record). r.rollover) (record-at words i in32))

  module _ (rollover : ℕ) (is_rollover : rollover ≡ word words (at + place_in record_layout the_rollover) % 2 ^ 32) (seq : ℕ) where
    pub judged-sending : (send_of (state_in track) rollover seq).judged ≡ judged_by Sending (record_in words i) seq
    judged-sending = ap₂ (λ (s : ReplayState) (r : ℕ). (send_of s r seq).judged) state-is (is_rollover ∙ rollover-is)

    pub judged-receiving : (receive_of (blocks_in (drop 2 track)) width (state_in track) rollover seq).judged ≡ judged_by Receiving (record_in words i) seq
    judged-receiving =
        ap (λ (b : ℕ). (receive_of b width (state_in track) rollover seq).judged) track-blocks
        ∙ ap₂ (λ (s : ReplayState) (r : ℕ). (receive_of blocks width s r seq).judged) state-is (is_rollover ∙ rollover-is)

  module _ (m : List ℕ) (index : ℕ) where
    came : (s : ReplayState) → m ≡ state_words s → length m ≡ get_or record_layout the_replay 0
        → take from words ++ (m ++ drop (end - from) (drop from words)) ≡ with_replay_at words i s
    came s e l =
        came-back from end words m (omega (arith, l))
        ∙ ap₂ (λ (a : ℕ) (p : List ℕ). with_part (a + place_in record_layout the_replay) p words) is_at e

    pub committed-sending : m ≡ state_words (sent_of (state_in track) (Ok index))
        → take from words ++ (m ++ drop (end - from) (drop from words))
        ≡ with_replay_at words i (committed_by Sending (record_in words i) index)
    committed-sending e =
        let n = e ∙ ap (λ (s : ReplayState). state_words (sent_of s (Ok index))) state-is in
        came (committed_by Sending (record_in words i) index) n
        (ap length n ∙ state-length blocks (committed_by Sending (record_in words i) index) (sent-blocks blocks (record_in words i).replay (replay-blocks words sized i in32) (Ok index)))

    pub committed-receiving : m ≡ state_words (accept_of (blocks_in (drop 2 track)) (state_in track) index)
        → take from words ++ (m ++ drop (end - from) (drop from words))
        ≡ with_replay_at words i (committed_by Receiving (record_in words i) index)
    committed-receiving e =
        let n = e ∙ ap₂ (λ (b : ℕ) (s : ReplayState). state_words (accept_of b s index)) track-blocks state-is in
        came (committed_by Receiving (record_in words i) index) n
        (ap length n ∙ state-length blocks (committed_by Receiving (record_in words i) index) (accept-blocks blocks (record_in words i).replay (replay-blocks words sized i in32) index))
