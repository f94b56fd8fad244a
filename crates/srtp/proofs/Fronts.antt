-- What the front of a packet call found decides the call: for both ways at once.
use Rattle.std.specs.Prelude.{Option, Some, None, Result, Ok, Err}
use mathlib.Core.Path.{◌≡◌, refl, sym, ap, ap₂, ◌∙◌}
use mathlib.Core.Bool.{Bool, true, false}
use mathlib.Core.List.{List}
use Prim.Native.Nat.{ℕ, ◌+◌, ◌≤◌}
use native.Mathlib.Omega.{arith}
use borrow.Author.Tests.{ne_eqb, le-ltb, ltb-false}
use lib.Dec.{eqb, ltb}
use lib.ListN.{length, get_or, take}
use Rattle.bits.specs.Pick.{pick}
use Rattle.bits.specs.Refusals.{number_of, border_number_of, wrong_memory}
use Rattle.bits.specs.declared.refusal.Border.{Border}
use Rattle.bits.specs.declared.refusal.Border.TheVariants as border
use Rattle.bits.specs.declared.refusal.Refusal.{Refusal}
use Rattle.bits.specs.declared.refusal.Refusal.TheVariants as refusal
use Rattle.bits.proofs.Refusals.{above_zero}
use Rattle.memory.specs.Words.{word}
use Rattle.rtp_header.specs.declared.header.Layout.{Layout}
use Rattle.rtp_header.specs.Header.{header_number, seq_of, ssrc_of}
use Rattle.policies.specs.declared.policy.Policy.{Policy}
use Rattle.policies.specs.declared.policy.Way.{Way}
use Rattle.policies.specs.declared.policy.Way.TheVariants.{Sending, Receiving}
use Rattle.policies.specs.Judging.{added_of, judged_of}
use Rattle.session.specs.declared.answer.Answer.{Answer as Given}
use Rattle.session.specs.Calls.{Left, refused_with, Gives, settled_in}
use Rattle.suites.specs.declared.suite.Suite.{Suite}
use Rattle.suites.specs.Suites.{tag_length_of}
use Rattle.session.specs.Memory.{suite_at, policy_at, size, decode}
use Rattle.session.specs.Packets.{wire_length, Effect, refuse, give, settled}
use Rattle.session.specs.Places.{no_record, place_from}
use Rattle.session.specs.Records.{is_for, none, some, record_for}
use Rattle.session.specs.Session.{Session}
use Rattle.session.proofs.Memory.{made, policy-is, suite-is, placed-made}
use Rattle.session.proofs.Places.{first-here, nowhere, stored_there}
use Rattle.session.proofs.Ways.{in_by, read_by, call_by, effect_is, call-is, outcome-is}
use Rattle.front.specs.declared.open.Opened.{Opened}
use Rattle.records.specs.Tracks.{record_in, judged_by}
use Rattle.front.specs.Opening.{open_index, open_at, opened_by, open_read, in_session_of, open_of}
use Rattle.streams.specs.Steps.{effect_at, left_by}
use Rattle.streams.proofs.Effects.{wire-length, not_taken}

module _ (words buf : List ℕ) (n : ℕ) where
  abbrev s : Session
  s = decode words

  abbrev x : ℕ
  x = ssrc_of (take n buf)

  -- memory and answer of an effect, as the definitions of the calls have them
  abbrev settled_by : Way → Effect → Left
  settled_by way e = settled_in words x way (settled s buf x way e)

  refused-left : (way : Way) (r : Refusal) → settled_by way (refuse r) ≡ refused_with (number_of r) words buf
  refused-left way r = rw (ne_eqb (number_of r) 0 (λ z. omega (arith, above_zero r)))

  no_stream : (way : Way) → in_by s.setup buf n way none ≡ refuse refusal.Stream
  no_stream Sending = refl
  no_stream Receiving = refl

  -- ---- the record at place i

  module _ (way : Way) (i : ℕ) (here : place_from 0 s.records x way ≡ Some i) where
    its-left : (e : Effect) → settled_by way e ≡ left_by words i buf e
    its-left (refuse r) = refused-left way r
    its-left (give m after t) = rw (here, stored_there s.records x way i here t)

    its-effect : in_by s.setup buf n way (some (get_or s.records i no_record)) ≡ effect_at way words i buf n
    its-effect = go way
      where
        go : (v : Way) → in_by s.setup buf n v (some (get_or s.records i no_record)) ≡ effect_at v words i buf n
        go Sending = rw (sym (policy-is words), sym (suite-is words), made words (placed-made words x way i here))
        go Receiving = rw (sym (policy-is words), sym (suite-is words), made words (placed-made words x way i here))

  -- ---- what the front answered

  abbrev ended : Way → ℕ → Result Layout Refusal → Left
  ended way i (Err r) = refused_with (number_of r) words buf
  ended way i (Ok h) = left_by words i buf (effect_at way words i buf n)

  abbrev ended_by : Way → Result Opened Refusal → Left
  ended_by way o = ended way (opened_by o).place (opened_by o).header

  -- ORDER, WORN, OLD, REPEAT
  index-left : (way : Way) (h : Layout) (i : ℕ) (j : Result ℕ Refusal) → judged_by way (record_in words i) (seq_of (take n buf)) ≡ j
      → left_by words i buf (effect_at way words i buf n) ≡ ended_by way (open_index way words (take n buf) h i j)
  index-left way h i (Err r) e = ap (left_by words i buf) (not_taken words i buf n way r e)
  index-left way h i (Ok k) e = refl

  -- STREAM
  placed-left : (way : Way) (h : Layout) (p : Option ℕ) → place_from 0 s.records x way ≡ p
      → settled_by way (in_by s.setup buf n way (record_for s.records x way)) ≡ ended_by way (open_at way words (take n buf) h p)
  placed-left way h None e = rw (nowhere (λ r. is_for r x way) 0 s.records e).found (ap (settled_by way) (no_stream way) ∙ refused-left way refusal.Stream)
  placed-left way h (Some i) e =
      rw (first-here (λ r. is_for r x way) s.records i e).found
      (its-left way i e (in_by s.setup buf n way (some (get_or s.records i no_record))) ∙ ap (left_by words i buf) (its-effect way i e)
      ∙ index-left way h i (judged_by way (record_in words i) (seq_of (take n buf))) refl)

  -- SHORT to LARGE, then ROOM
  module _ (inside : n ≤ length buf) where
    read_left : (way : Way) (j : Result Layout Refusal) → judged_of way (policy_at (word words 0)) (tag_length_of (suite_at (word words 0))) (take n buf) ≡ j
        → settled_by way (read_by s.setup buf n way j (record_for s.records x way)) ≡ ended_by way (open_read way words buf n j)
    read_left Sending (Err r) e = refused-left Sending r
    read_left Receiving (Err r) e = refused-left Receiving r
    read_left Receiving (Ok h) e =
        let z : ltb (length buf) (n + 0) ≡ false = le-ltb (length buf) (n + 0) (omega arith) in
        placed-left Receiving h (place_from 0 s.records x Receiving) refl
        ∙ sym (ap (λ (b : Bool). ended_by Receiving (pick b (Err refusal.Room) (open_at Receiving words (take n buf) h (place_from 0 s.records x Receiving)))) z)
    read_left Sending (Ok h) e =
        let l : wire_length s.setup.suite s.setup.policy buf n ≡ n + added_of Sending (policy_at (word words 0)) (tag_length_of (suite_at (word words 0))) h =
        ap₂ (λ (q : Suite) (p : Policy). wire_length q p buf n) (sym (suite-is words)) (sym (policy-is words)) ∙ wire-length (suite_at (word words 0)) (policy_at (word words 0)) buf n h e in
        rw l (go (ltb (length buf) (n + added_of Sending (policy_at (word words 0)) (tag_length_of (suite_at (word words 0))) h)))
      where
        go : (b : Bool) → settled_by Sending (pick b (refuse refusal.Room) (in_by s.setup buf n Sending (record_for s.records x Sending)))
            ≡ ended_by Sending (pick b (Err refusal.Room) (open_at Sending words (take n buf) h (place_from 0 s.records x Sending)))
        go true = refused-left Sending refusal.Room
        go false = placed-left Sending h (place_from 0 s.records x Sending) refl

  -- LENGTH, and the memory's size
  abbrev length_by : Way → Effect
  length_by way = pick (ltb (length buf) n) (refuse refusal.Length) (read_by s.setup buf n way (judged_of way (policy_at (word words 0)) (tag_length_of (suite_at (word words 0))) (take n buf)) (record_for s.records x way))

  length-left : (way : Way) → settled_by way (length_by way)
      ≡ ended_by way (pick (ltb (length buf) n) (Err refusal.Length) (open_read way words buf n (judged_of way (policy_at (word words 0)) (tag_length_of (suite_at (word words 0))) (take n buf))))
  length-left way = go (ltb (length buf) n) refl
    where
      j : Result Layout Refusal
      j = judged_of way (policy_at (word words 0)) (tag_length_of (suite_at (word words 0))) (take n buf)

      go : (b : Bool) → ltb (length buf) n ≡ b → settled_by way (pick b (refuse refusal.Length) (read_by s.setup buf n way j (record_for s.records x way)))
          ≡ ended_by way (pick b (Err refusal.Length) (open_read way words buf n j))
      go true e = refused-left way refusal.Length
      go false e = read_left (ltb-false (length buf) n e) way j refl

  sized-call : (way : Way) → call_by way words buf n ≡ pick (eqb (length words) size) (settled_by way (length_by way)) (refused_with wrong_memory words buf)
  sized-call way =
      call-is way words buf n
      ∙ rw (outcome-is way s buf n, effect_is s.setup buf n way (record_for s.records x way), policy-is words, suite-is words)

  -- ---- what the front answered to any memory

  abbrev ended_at : Way → Result Opened Border → Left
  ended_at way (Ok o) = ended way o.place o.header
  ended_at way (Err b) = refused_with (border_number_of b) words buf

  front-left : (way : Way) → call_by way words buf n ≡ ended_at way (open_of way words buf n)
  unfolding open_of in_session_of
  front-left way = sized-call way ∙ go (eqb (length words) size)
    where
      go : (b : Bool) → pick b (settled_by way (length_by way)) (refused_with wrong_memory words buf)
          ≡ ended_at way (pick b (Ok (opened_by (in_session_of way words buf n))) (Err border.Memory))
      go true = length-left way
      go false = refl

  module _ (way : Way) (front : Result Opened Border) (opens : front ≡ open_of way words buf n) where
    pub border-gives : (b : Border) → front ≡ Err b → Gives (call_by way words buf n) (record { number = border_number_of b; length = 0 }) buf words
    border-gives b e = rw (front-left way, sym opens, e) (record { answer = refl; buffer = refl; words = refl })

    module _ (o : Opened) (opened : front ≡ Ok o) where
      pub unopened-gives : (r : Refusal) → o.header ≡ Err r → Gives (call_by way words buf n) (record { number = header_number o.header; length = 0 }) buf words
      unopened-gives r e = rw (front-left way, sym opens, opened, e) (record { answer = refl; buffer = refl; words = refl })

      pub opened-gives : (h : Layout) → o.header ≡ Ok h → (r : Given) (after memory : List ℕ)
          → Gives (left_by words o.place buf (effect_at way words o.place buf n)) r after memory → Gives (call_by way words buf n) r after memory
      opened-gives h e r after memory g = rw (front-left way, sym opens, opened, e) g
