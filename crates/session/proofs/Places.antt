-- What code that scans the places and stores at one has done, said of the list of records.
use Rattle.std.specs.Prelude.{Some, None}
use mathlib.Core.Path.{◌≡◌, refl, ap, ◌∙◌}
use mathlib.Core.Bool.{Bool, true, false, not, ◌&&◌, ◌||◌}
use mathlib.Core.List.{List, [], ◌∷◌}
use Prim.Native.Nat.{ℕ, suc, ◌+◌, ◌≤◌, ◌<◌}
use native.Mathlib.Numerals.{add-one}
use native.Mathlib.Omega.{arith}
use lib.Dec.{eqb}
use lib.ListN.{length, get_or, set, drop, drop_of_length-le}
use lib.Seq.{drop-cons, get_or-set_same}
use Rattle.bits.specs.Pick.{pick}
use Rattle.policies.specs.declared.policy.Way.{Way}
use Rattle.policies.proofs.Layouts.{apart}
use Rattle.replay.specs.State.{ReplayState}
use Rattle.session.specs.Session.{Record}
use Rattle.session.specs.Records.{is_free, is_for, none, some, first_in, change_first, with_replay, store_for, has_ssrc, is_full}
use Rattle.session.specs.Places.{no_record, first_from, place_from}

-- ---- one step of a scan

module _ (test : Record → Bool) (l : List Record) (i : ℕ) where
  first_step : i < length l → first_from test i (drop i l) ≡ pick (test (get_or l i no_record)) (Some i) (first_from test (i + 1) (drop (i + 1) l))
  first_step h = rw (drop-cons l i no_record, add-one)

  pub first-hit : i < length l → test (get_or l i no_record) ≡ true → first_from test i (drop i l) ≡ Some i
  first-hit h e = first_step h ∙ rw e

  pub first-miss : i < length l → test (get_or l i no_record) ≡ false → first_from test i (drop i l) ≡ first_from test (i + 1) (drop (i + 1) l)
  first-miss h e = first_step h ∙ rw e

  pub first-over : length l ≤ i → first_from test i (drop i l) ≡ None
  first-over h = rw drop_of_length-le

module _ (l : List Record) (i : ℕ) where
  abbrev is_of : ℕ → Bool
  is_of x = not (is_free (get_or l i no_record).kind) && eqb (get_or l i no_record).ssrc x

  ssrc-step : (x : ℕ) → i < length l → has_ssrc (drop i l) x ≡ (is_of x || has_ssrc (drop (i + 1) l) x)
  ssrc-step x h = rw (drop-cons l i no_record, add-one)

  pub ssrc-hit : (x : ℕ) → i < length l → is_of x ≡ true → has_ssrc (drop i l) x ≡ true
  ssrc-hit x h e = ssrc-step x h ∙ rw e

  pub ssrc-miss : (x : ℕ) → i < length l → is_of x ≡ false → has_ssrc (drop i l) x ≡ has_ssrc (drop (i + 1) l) x
  ssrc-miss x h e = ssrc-step x h ∙ rw e

  pub ssrc-over : (x : ℕ) → length l ≤ i → has_ssrc (drop i l) x ≡ false
  ssrc-over x h = rw drop_of_length-le

-- ---- the first that passes a test

module _ (test : Record → Bool) where
  -- at place i of a list whose first place is k
  record FirstAt (k : ℕ) (l : List Record) (i : ℕ) : Type 0 where
    place : ℕ
    counted : i ≡ k + place
    inside : place < length l
    passes : test (get_or l place no_record) ≡ true
    found : first_in test l ≡ some (get_or l place no_record)
    changed : (f : Record → Record) → change_first test f l ≡ set l place (f (get_or l place no_record))

  at-step : (k : ℕ) (q : Record) (l : List Record) (i : ℕ) (b : Bool) → test q ≡ b → (first_from test (suc k) l ≡ Some i → FirstAt (suc k) l i)
      → pick b (Some k) (first_from test (suc k) l) ≡ Some i → FirstAt k (q ∷ l) i
  at-step k q l i true h rec e =
      let z : k ≡ i = cc in
      record { place = 0; counted = omega arith; inside = omega arith; passes = h; found = rw h; changed = λ f. rw h }
  at-step k q l i false h rec e =
      let p = rec e in
      record {
        place = suc p.place;
        counted = omega (arith, p.counted);
        inside = omega (arith, p.inside);
        passes = p.passes;
        found = rw h p.found;
        changed = λ f. rw h (ap (λ (r : List Record). q ∷ r) (p.changed f));
      }

  first-at : (k : ℕ) (l : List Record) (i : ℕ) → first_from test k l ≡ Some i → FirstAt k l i
  first-at k [] i e = apart cc
  first-at k (q ∷ l) i e = at-step k q l i (test q) refl (first-at (suc k) l i) e

  pub record First (l : List Record) (i : ℕ) : Type 0 where
    pub inside : i < length l
    pub passes : test (get_or l i no_record) ≡ true
    pub found : first_in test l ≡ some (get_or l i no_record)
    pub changed : (f : Record → Record) → change_first test f l ≡ set l i (f (get_or l i no_record))

  pub first-here : (l : List Record) (i : ℕ) → first_from test 0 l ≡ Some i → First l i
  first-here l i e =
      let p = first-at 0 l i e in
      let q : i ≡ p.place = omega (arith, p.counted) in
      rw q (record { inside = p.inside; passes = p.passes; found = p.found; changed = p.changed })

  -- or there is none
  pub record NoFirst (l : List Record) : Type 0 where
    pub found : first_in test l ≡ none
    pub changed : (f : Record → Record) → change_first test f l ≡ l

  pub nowhere : (k : ℕ) (l : List Record) → first_from test k l ≡ None → NoFirst l
  nowhere k [] e = record { found = refl; changed = λ f. refl }
  nowhere k (q ∷ l) e = go (test q) refl (nowhere (suc k) l) e
    where
      go : (b : Bool) → test q ≡ b → (first_from test (suc k) l ≡ None → NoFirst l) → pick b (Some k) (first_from test (suc k) l) ≡ None → NoFirst (q ∷ l)
      go true h rec e = apart cc
      go false h rec e = let p = rec e in record { found = rw h p.found; changed = λ f. rw h (ap (λ (r : List Record). q ∷ r) (p.changed f)) }

-- ---- the record of a stream

-- no replay state moves a record
pub place_kept : (x y : ℕ) (w v : Way) (t : ReplayState) (k : ℕ) (l : List Record) → place_from k (store_for l x w t) y v ≡ place_from k l y v
place_kept x y w v t k [] = refl
place_kept x y w v t k (q ∷ l) = go (is_for q x w) (place_kept x y w v t (suc k) l)
  where
    go : (b : Bool) → place_from (suc k) (store_for l x w t) y v ≡ place_from (suc k) l y v
        → place_from k (pick b (with_replay q t ∷ l) (q ∷ store_for l x w t)) y v ≡ place_from k (q ∷ l) y v
    go true rec = refl
    go false rec = rw rec

-- stored at its place, the replay state is read there
pub stored_there : (l : List Record) (x : ℕ) (w : Way) (i : ℕ) → place_from 0 l x w ≡ Some i → (t : ReplayState) → (get_or (store_for l x w t) i no_record).replay ≡ t
stored_there l x w i e t =
    let h = first-here (λ r. is_for r x w) l i e in
    ap (λ (k : List Record). (get_or k i no_record).replay) (h.changed (λ r. with_replay r t))
    ∙ ap (λ (r : Record). r.replay) (get_or-set_same l i (with_replay (get_or l i no_record) t) no_record h.inside)

-- ---- a free place, or none

abbrev pub free : Record → Bool
free r = is_free r.kind

pub not_full : (l : List Record) (r : Record) → first_in free l ≡ some r → is_full l ≡ false
not_full [] r e = apart cc
not_full (q ∷ l) r e = go (is_free q.kind) (not_full l r) e
  where
    go : (b : Bool) → (first_in free l ≡ some r → is_full l ≡ false) → pick b (some q) (first_in free l) ≡ some r → (not b && is_full l) ≡ false
    go true rec e = refl
    go false rec e = rec e

pub full : (l : List Record) → first_in free l ≡ none → is_full l ≡ true
full [] e = refl
full (q ∷ l) e = go (is_free q.kind) (full l) e
  where
    go : (b : Bool) → (first_in free l ≡ none → is_full l ≡ true) → pick b (some q) (first_in free l) ≡ none → (not b && is_full l) ≡ true
    go true rec e = apart cc
    go false rec e = rec e
