-- One law for each way that the front of a packet call ends.
use Rattle.std.specs.Prelude.{Option, Some, None, Result, Ok, Err}
use mathlib.Core.Path.{◌≡◌, sym, ap, ap₂, ◌∙◌}
use mathlib.Core.List.{List}
use Prim.Native.Nat.{ℕ, ◌+◌, ◌-◌, ◌≤◌, ◌<◌}
use native.Mathlib.Omega.{arith}
use borrow.Author.Tests.{lt-ltb, le-ltb}
use lib.ListN.{length, take}
use lib.Seq.{length-take-le}
use Rattle.bits.specs.declared.refusal.Refusal.{Refusal}
use Rattle.bits.specs.declared.refusal.Refusal.TheVariants as refusal
use Rattle.memory.specs.Words.{word}
use Rattle.rtp_header.specs.declared.header.Layout.{Layout}
use Rattle.rtp_header.specs.Header.{seq_of, ssrc_of}
use Rattle.policies.specs.declared.policy.Policy.{Policy}
use Rattle.policies.specs.declared.policy.Way.{Way}
use Rattle.policies.specs.Judging.{tail_of, added_of, judged_of}
use Rattle.wire.proofs.Tagging.{judged-passed}
use Rattle.suites.specs.Suites.{tag_length_of}
use Rattle.session.specs.Memory.{suite_at, policy_at, decode}
use Rattle.session.specs.Places.{place_from}
use Rattle.records.specs.Tracks.{record_in, judged_by}
use Rattle.policies.proofs.Layouts.{apart}
use Rattle.front.specs.declared.open.Opened.{Opened}
use Rattle.front.specs.Opening.{open_index, open_at, stream_of, in_session_of, InStream, OpensAs}

-- a packet that was judged has its fixed header, and one that arrived its tag
module _ (way : Way) (policy : Policy) (t : ℕ) (buf : List ℕ) (n : ℕ) (h : Layout) (inside : n ≤ length buf) (read : judged_of way policy t (take n buf) ≡ Ok h) where
  whole : 12 + tail_of way t ≤ length (take n buf)
  whole = (judged-passed way policy t (take n buf) h read).long

  pub judged-long : 12 ≤ length (take n buf)
  judged-long = omega (arith, whole)

  pub judged-whole : 12 + tail_of way t ≤ n
  judged-whole = omega (arith, whole, length-take-le n buf inside)

module _ (way : Way) (words buf : List ℕ) (n : ℕ) where
  pub open-length : length buf < n → Err refusal.Length ≡ in_session_of way words buf n
  unfolding in_session_of
  open-length h = rw (lt-ltb (length buf) n h)

  module _ (inside : n ≤ length buf) (policy : Policy) (is_policy : policy ≡ policy_at (word words 0)) (t : ℕ) (is_t : t ≡ tag_length_of (suite_at (word words 0)))
      (j : Result Layout Refusal) (judged : j ≡ judged_of way policy t (take n buf)) where
    judged-so : judged_of way (policy_at (word words 0)) (tag_length_of (suite_at (word words 0))) (take n buf) ≡ j
    judged-so = sym (judged ∙ ap₂ (λ (p : Policy) (k : ℕ). judged_of way p k (take n buf)) is_policy is_t)

    pub open-unread : (r : Refusal) → j ≡ Err r → Err r ≡ in_session_of way words buf n
    unfolding in_session_of
    open-unread r e = rw (le-ltb (length buf) n inside, judged-so, e)

    module _ (h : Layout) (read : j ≡ Ok h) (more : ℕ) (is_more : more ≡ added_of way policy t h) where
      pub open-judged : judged_of way policy t (take n buf) ≡ Ok h
      open-judged = sym judged ∙ read

      more-so : added_of way (policy_at (word words 0)) (tag_length_of (suite_at (word words 0))) h ≡ more
      more-so = ap₂ (λ (p : Policy) (k : ℕ). added_of way p k h) (sym is_policy) (sym is_t) ∙ sym is_more

      pub open-room : length buf - n < more → Err refusal.Room ≡ in_session_of way words buf n
      unfolding in_session_of
      open-room l =
          let z : length buf < n + more = omega (arith, inside) in
          rw (le-ltb (length buf) n inside, judged-so, read, more-so, lt-ltb (length buf) (n + more) z)

      module _ (fits : more ≤ length buf - n) (o : Result Opened Refusal) (is_stream : o ≡ stream_of way words (take n buf) h) where
        room : n + more ≤ length buf
        room = omega (arith, inside, fits)

        pub open-stream : o ≡ in_session_of way words buf n
        unfolding in_session_of
        open-stream = is_stream ∙ sym (rw (le-ltb (length buf) n inside, judged-so, read, more-so, le-ltb (length buf) (n + more) room))

        -- where it is in a stream, it is in that of the layout that was read
        ready_by : (r : Result Opened Refusal) → r ≡ stream_of way words (take n buf) h → InStream way words (take n buf) r → OpensAs way words buf n r
        ready_by (Err r) s q = tt
        ready_by (Ok o) s q =
            let same : o.header ≡ Ok h = same_header (place_from 0 (decode words).records (ssrc_of (take n buf)) way) o s in
            rw same (record { readable = record { inside = inside; judged = judged-so ∙ read; room = rw more-so room }; placed = q })
          where
            by_index : (i : ℕ) (d : Result ℕ Refusal) (o : Opened) → Ok o ≡ open_index way words (take n buf) h i d → o.header ≡ Ok h
            by_index i (Err r) o e = apart cc
            by_index i (Ok k) o e = let f : o ≡ record { header = Ok h; place = i; index = k } = cc in ap (λ (x : Opened). x.header) f

            same_header : (p : Option ℕ) (o : Opened) → Ok o ≡ open_at way words (take n buf) h p → o.header ≡ Ok h
            same_header None o e = apart cc
            same_header (Some i) o e = by_index i (judged_by way (record_in words i) (seq_of (take n buf))) o e

        pub open-ready : InStream way words (take n buf) o → OpensAs way words buf n o
        open-ready q = ready_by o is_stream q
