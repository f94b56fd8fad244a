-- A scan of the records' first words, said of the list of records.
use Rattle.std.specs.Prelude.{Option, Some, None, MatchOption, is_some}
use mathlib.Core.Path.{◌≡◌, refl, sym, ap, ◌∙◌}
use mathlib.Core.Bool.{Bool, true, false, not, ◌&&◌}
use mathlib.Core.List.{List}
use Prim.Native.Nat.{ℕ, zero, suc, ◌≤◌, ◌<◌}
use native.Mathlib.Numerals.{add-one}
use native.Mathlib.Omega.{arith}
use lib.Dec.{eqb}
use lib.ListN.{length, get_or, drop}
use Rattle.session.specs.Memory.{records_in}
use Rattle.session.specs.Places.{no_record, first_from}
use Rattle.session.specs.Records.{is_free, has_ssrc}
use Rattle.session.specs.Session.{Record}
use Rattle.session.proofs.Places.{first-hit, first-miss, first-over, ssrc-hit, ssrc-miss, ssrc-over}
use Rattle.session.proofs.Records.{records-length}

module _ (words : List ℕ) where
  abbrev the : ℕ → Record
  the k = get_or (records_in words) k no_record

  abbrev l : List Record
  l = records_in words

  -- what a scan says: No holds at all places, or at those before the one where Yes holds
  abbrev pub Scan : (ℕ → Type 0) → (ℕ → Type 0) → Option ℕ → Type 0
  Scan No Yes r = MatchOption r ((k : ℕ) → k < 32 → No k) (λ i. (i < 32) × Yes i × ((k : ℕ) → k < i → No k))

  module _ (No Yes : ℕ → Type 0) (r : Option ℕ) where
    -- the first record that passes a test
    module _ (test : Record → Bool) where
      passed : (i : ℕ) → i ≤ 32 → ((k : ℕ) → k < i → test (the k) ≡ false) → first_from test 0 l ≡ first_from test i (drop i l)
      passed zero h f = refl
      passed (suc i) h f =
          let e : length l ≡ 32 = records-length words in
          passed i (omega arith) (λ k b. f k (omega arith)) ∙ first-miss test l i (omega arith) (f i (omega arith))
          ∙ ap (λ (k : ℕ). first_from test k (drop k l)) (add-one i)

      scanned : (s : Option ℕ) → Scan No Yes s → ((k : ℕ) → k < 32 → No k → test (the k) ≡ false) → ((k : ℕ) → k < 32 → Yes k → test (the k) ≡ true) → s ≡ first_from test 0 l
      scanned None m f t =
          let e : length l ≡ 32 = records-length words in
          sym (passed 32 (omega arith) (λ k h. f k h (m k h)) ∙ first-over test l 32 (omega arith))
      scanned (Some i) (inside, here, before) f t =
          let e : length l ≡ 32 = records-length words in
          sym (passed i (omega arith) (λ k h. f k (omega arith) (before k h)) ∙ first-hit test l i (omega arith) (t i inside here))

      pub first-scanned : Scan No Yes r → ((k : ℕ) → k < 32 → No k → test (the k) ≡ false) → ((k : ℕ) → k < 32 → Yes k → test (the k) ≡ true) → r ≡ first_from test 0 l
      first-scanned = scanned r

    -- any record of an SSRC
    module _ (x : ℕ) where
      abbrev test : ℕ → Bool
      test k = not (is_free (the k).kind) && eqb (the k).ssrc x

      not_before : (i : ℕ) → i ≤ 32 → ((k : ℕ) → k < i → test k ≡ false) → has_ssrc l x ≡ has_ssrc (drop i l) x
      not_before zero h f = refl
      not_before (suc i) h f =
          let e : length l ≡ 32 = records-length words in
          not_before i (omega arith) (λ k b. f k (omega arith)) ∙ ssrc-miss l i x (omega arith) (f i (omega arith))
          ∙ ap (λ (k : ℕ). has_ssrc (drop k l) x) (add-one i)

      held : (s : Option ℕ) → Scan No Yes s → ((k : ℕ) → k < 32 → No k → test k ≡ false) → ((k : ℕ) → k < 32 → Yes k → test k ≡ true) → is_some s ≡ has_ssrc l x
      held None m f t =
          let e : length l ≡ 32 = records-length words in
          sym (not_before 32 (omega arith) (λ k h. f k h (m k h)) ∙ ssrc-over l 32 x (omega arith))
      held (Some i) (inside, here, before) f t =
          let e : length l ≡ 32 = records-length words in
          sym (not_before i (omega arith) (λ k h. f k (omega arith) (before k h)) ∙ ssrc-hit l i x (omega arith) (t i inside here))

      pub any-scanned : Scan No Yes r → ((k : ℕ) → k < 32 → No k → test k ≡ false) → ((k : ℕ) → k < 32 → Yes k → test k ≡ true) → is_some r ≡ has_ssrc l x
      any-scanned = held r
