-- A packet in its stream: one law for each way that the second half of the front ends.
use Rattle.std.specs.Prelude.{Option, Some, None, Result, Ok, Err}
use mathlib.Core.Path.{◌≡◌, sym, ap, ◌∙◌}
use mathlib.Core.List.{List}
use Prim.Native.Nat.{ℕ, ◌^◌, ◌<◌}
use native.Mathlib.Omega.{arith}
use Rattle.bits.specs.declared.refusal.Refusal.{Refusal}
use Rattle.bits.specs.declared.refusal.Refusal.TheVariants as refusal
use Rattle.rtp_header.specs.declared.header.Layout.{Layout}
use Rattle.rtp_header.specs.Header.{seq_of, ssrc_of}
use Rattle.replay.specs.Window.{blocks, width}
use Rattle.ledger.specs.Claims.{Gives as IndexGives}
use Rattle.ledger.proofs.Indices.{receiving, sending, gives_at}
use Rattle.policies.specs.declared.policy.Way.{Way}
use Rattle.policies.specs.declared.policy.Way.TheVariants.{Sending, Receiving}
use Rattle.session.specs.Memory.{record_at, decode}
use Rattle.session.specs.Places.{place_from}
use Rattle.session.proofs.Records.{record-at}
use Rattle.records.specs.Tracks.{record_in, judged_by}
use Rattle.front.specs.Opening.{stream_of, Placed}

-- ---- the index

-- every index that is judged has 48 bits
judged-small : (way : Way) (words : List ℕ) (i : ℕ) → i < 32 → (seq : ℕ) → seq < 65536 → IndexGives (λ k. k < 2 ^ 48) (judged_by way (record_in words i) seq)
unfolding record_at
judged-small Sending words i h seq small =
    (sending (record_in words i).replay (record_in words i).rollover seq (rw (record-at words i h) (omega arith)) small).small
judged-small Receiving words i h seq small =
    (receiving blocks width (record_in words i).replay (record_in words i).rollover seq (rw (record-at words i h) (omega arith)) small).small

-- ---- how it ends

module _ (way : Way) (words packet : List ℕ) (h : Layout) (ssrc : ℕ) (is_ssrc : ssrc ≡ ssrc_of packet)
    (p : Option ℕ) (is_place : p ≡ place_from 0 (decode words).records ssrc way) where
  place-so : place_from 0 (decode words).records (ssrc_of packet) way ≡ p
  place-so = ap (λ (x : ℕ). place_from 0 (decode words).records x way) (sym is_ssrc) ∙ sym is_place

  pub no_stream : p ≡ None → Err refusal.Stream ≡ stream_of way words packet h
  no_stream e = rw (place-so, e)

  module _ (i : ℕ) (at : p ≡ Some i) (j : Result ℕ Refusal) (seq : ℕ) (is_seq : seq ≡ seq_of packet) (judged : j ≡ judged_by way (record_in words i) seq) where
    judged-so : judged_by way (record_in words i) (seq_of packet) ≡ j
    judged-so = ap (judged_by way (record_in words i)) (sym is_seq) ∙ sym judged

    pub no_index : (r : Refusal) → j ≡ Err r → Err r ≡ stream_of way words packet h
    no_index r e = rw (place-so, at, judged-so, e)

    pub with-index : (k : ℕ) → j ≡ Ok k → Ok (record { header = Ok h; place = i; index = k }) ≡ stream_of way words packet h
    with-index k e = rw (place-so, at, judged-so, e)

    pub is-placed : (k : ℕ) → j ≡ Ok k → i < 32 → seq < 65536 → Placed way words packet i k
    is-placed k e in32 small =
        record {
          here = place-so ∙ at;
          in32 = in32;
          index = judged-so ∙ e;
          small = gives_at (λ m. m < 2 ^ 48) (judged_by way (record_in words i) seq) k (sym judged ∙ e) (judged-small way words i in32 seq small);
        }
