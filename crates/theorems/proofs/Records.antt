-- Laws of the records: what is stored is found, every other record stays, stores for different streams commute; a record added.
use mathlib.Core.Path.{◌≡◌, refl, ◌∙◌, sym}
use mathlib.Core.Bool.{Bool, true, false, not, ◌&&◌, ◌||◌}
use mathlib.Core.List.{List, [], ◌∷◌}
use Prim.Native.Nat.{ℕ}
use native.Mathlib.Omega.{arith}
use borrow.Author.Tests.{eq-eqb, eqb-true}
use lib.Dec.{eqb}
use Rattle.bits.specs.Pick.{pick}
use Rattle.bits.proofs.Refusals.{above_zero}
use Rattle.replay.specs.State.{ReplayState}
use Rattle.policies.specs.declared.policy.Way.{Way}
use Rattle.policies.specs.declared.policy.Way.TheVariants.{Sending, Receiving}
use Rattle.packet_cipher.proofs.Crypting.{and_left, and_right}
use Rattle.policies.proofs.Layouts.{apart}
use Rattle.session.specs.Session.{Kind, Free, Sender, Receiver, Record, Session}
use Rattle.session.specs.Records.{kind_of, has_way, is_free, is_for, fresh_record, none, some, first_in, change_first, record_for, with_replay, store_for, has_ssrc, is_full, placed}
use Rattle.session.specs.Adding.{add_of}
use Rattle.session.proofs.Adding.{add-cases}

-- ---- tests

pub clash : {A : Type 0} (b : Bool) → b ≡ true → b ≡ false → A
clash b p q = apart cc

and-false : (a b : Bool) → (a ≡ true → b ≡ true → ⊥) → (a && b) ≡ false
and-false true true h = absurd (h refl refl)
and-false true false h = refl
and-false false b h = refl

pub or-false : (a b : Bool) → (a || b) ≡ false → b ≡ false
or-false true b e = clash true refl e
or-false false b e = e

one_way : (k : Kind) (w v : Way) → has_way k w ≡ true → has_way k v ≡ true → w ≡ v
one_way Free w v p q = clash false p refl
one_way Sender Sending Sending p q = refl
one_way Sender Sending Receiving p q = clash false q refl
one_way Sender Receiving v p q = clash false p refl
one_way Receiver Sending v p q = clash false p refl
one_way Receiver Receiving Sending p q = clash false q refl
one_way Receiver Receiving Receiving p q = refl

own-way : (w : Way) → has_way (kind_of w) w ≡ true
own-way Sending = refl
own-way Receiving = refl

serving : (k : Kind) (w : Way) → has_way k w ≡ true → is_free k ≡ false
serving Free w e = sym e
serving Sender w e = refl
serving Receiver w e = refl

free-no-way : (k : Kind) (w : Way) → is_free k ≡ true → has_way k w ≡ false
free-no-way Free w e = refl
free-no-way Sender w e = clash false e refl
free-no-way Receiver w e = clash false e refl

pub free-for : (r : Record) (x : ℕ) (w : Way) → is_free r.kind ≡ true → is_for r x w ≡ false
free-for r x w e = and-false (eqb r.ssrc x) (has_way r.kind w) (λ p q. clash (has_way r.kind w) q (free-no-way r.kind w e))

fresh-for : (x : ℕ) (w : Way) (rollover : ℕ) → is_for (fresh_record x w rollover) x w ≡ true
fresh-for x w rollover = rw (eq-eqb x x refl) (own-way w)

-- ---- a record changed

-- what does not pass a test, before nor after, is not found by it
module _ (test other : Record → Bool) (f : Record → Record) (passes : (r : Record) → other r ≡ true → (test r ≡ false) × (test (f r) ≡ false)) where
  unfound-step : (q : Record) (l : List Record) (b : Bool) → other q ≡ b → first_in test (change_first other f l) ≡ first_in test l
      → first_in test (pick b (f q ∷ l) (q ∷ change_first other f l)) ≡ first_in test (q ∷ l)
  unfound-step q l true h rec = rw ((passes q h).0, (passes q h).1)
  unfound-step q l false h rec = rw rec

  unfound : (l : List Record) → first_in test (change_first other f l) ≡ first_in test l
  unfound [] = refl
  unfound (q ∷ l) = unfound-step q l (other q) refl (unfound l)

-- ---- a replay state stored

module _ (x : ℕ) (w : Way) (t : ReplayState) where
  same_step : (q : Record) (l : List Record) (r : Record) (b : Bool) → is_for q x w ≡ b
      → (record_for l x w ≡ some r → record_for (store_for l x w t) x w ≡ some (with_replay r t))
      → pick b (some q) (record_for l x w) ≡ some r → record_for (pick b (with_replay q t ∷ l) (q ∷ store_for l x w t)) x w ≡ some (with_replay r t)
  same_step q l r true h rec e = let z : q ≡ r = cc in rw (h, z)
  same_step q l r false h rec e = rw h (rec e)

  pub found-stored : (l : List Record) (r : Record) → record_for l x w ≡ some r → record_for (store_for l x w t) x w ≡ some (with_replay r t)
  found-stored [] r e = apart cc
  found-stored (q ∷ l) r e = same_step q l r (is_for q x w) refl (found-stored l r) e

module _ (x y : ℕ) (w v : Way) (differ : w ≡ v → x ≡ y → ⊥) where
  pub other : (r : Record) → is_for r x w ≡ true → is_for r y v ≡ false
  other r e =
      let p : eqb r.ssrc x ≡ true = and_left (eqb r.ssrc x) (has_way r.kind w) e in
      let q : has_way r.kind w ≡ true = and_right (eqb r.ssrc x) (has_way r.kind w) e in
      and-false (eqb r.ssrc y) (has_way r.kind v)
      (λ f g. differ (one_way r.kind w v q g) (sym (eqb-true r.ssrc x p) ∙ eqb-true r.ssrc y f))

  pub found-other : (t : ReplayState) (l : List Record) → record_for (store_for l x w t) y v ≡ record_for l y v
  found-other t l = unfound (λ r. is_for r y v) (λ r. is_for r x w) (λ r. with_replay r t) (λ r e. (other r e, other r e)) l

  both-step : (t s : ReplayState) (q : Record) (l : List Record) (b c : Bool) → is_for q x w ≡ b → is_for q y v ≡ c
      → store_for (store_for l x w t) y v s ≡ store_for (store_for l y v s) x w t
      → store_for (pick b (with_replay q t ∷ l) (q ∷ store_for l x w t)) y v s ≡ store_for (pick c (with_replay q s ∷ l) (q ∷ store_for l y v s)) x w t
  both-step t s q l true true h k rec = clash _ k (other q h)
  both-step t s q l true false h k rec = rw (h, k)
  both-step t s q l false true h k rec = rw (h, k)
  both-step t s q l false false h k rec = rw (h, k, rec)

  pub stores-commute : (t s : ReplayState) (l : List Record) → store_for (store_for l x w t) y v s ≡ store_for (store_for l y v s) x w t
  stores-commute t s [] = refl
  stores-commute t s (q ∷ l) = both-step t s q l (is_for q x w) (is_for q y v) refl refl (stores-commute t s l)

pub stored-ssrc : (x y : ℕ) (w : Way) (t : ReplayState) (l : List Record) → has_ssrc (store_for l y w t) x ≡ has_ssrc l x
stored-ssrc x y w t [] = refl
stored-ssrc x y w t (q ∷ l) = go (is_for q y w) (stored-ssrc x y w t l)
  where
    go : (b : Bool) → has_ssrc (store_for l y w t) x ≡ has_ssrc l x → has_ssrc (pick b (with_replay q t ∷ l) (q ∷ store_for l y w t)) x ≡ has_ssrc (q ∷ l) x
    go true rec = refl
    go false rec = rw rec

-- ---- a record placed

pub none_found : (l : List Record) (x : ℕ) (w : Way) → has_ssrc l x ≡ false → record_for l x w ≡ none
none_found [] x w e = refl
none_found (q ∷ l) x w e = go (is_for q x w) refl (none_found l x w)
  where
    go : (b : Bool) → is_for q x w ≡ b → (has_ssrc l x ≡ false → record_for l x w ≡ none) → pick b (some q) (record_for l x w) ≡ none
    go true h rec =
        let p : eqb q.ssrc x ≡ true = and_left (eqb q.ssrc x) (has_way q.kind w) h in
        let s : is_free q.kind ≡ false = serving q.kind w (and_right (eqb q.ssrc x) (has_way q.kind w) h) in
        let f : has_ssrc (q ∷ l) x ≡ true = simp (s, p) in
        clash _ f e
    go false h rec = rec (or-false (not (is_free q.kind) && eqb q.ssrc x) (has_ssrc l x) e)

module _ (x : ℕ) (w : Way) (rollover : ℕ) where
  new-step : (q : Record) (l : List Record) (b : Bool) → is_free q.kind ≡ b
      → (is_full l ≡ false → record_for l x w ≡ none → record_for (placed l (fresh_record x w rollover)) x w ≡ some (fresh_record x w rollover))
      → (not b && is_full l) ≡ false → record_for (q ∷ l) x w ≡ none
      → record_for (pick b (fresh_record x w rollover ∷ l) (q ∷ placed l (fresh_record x w rollover))) x w ≡ some (fresh_record x w rollover)
  new-step q l true h rec f e = rw (fresh-for x w rollover)
  new-step q l false h rec f e = go (is_for q x w) refl e
    where
      go : (c : Bool) → is_for q x w ≡ c → pick c (some q) (record_for l x w) ≡ none
          → record_for (q ∷ placed l (fresh_record x w rollover)) x w ≡ some (fresh_record x w rollover)
      go true k m = apart cc
      go false k m = rw k (rec f m)

  new-found : (l : List Record) → is_full l ≡ false → record_for l x w ≡ none
      → record_for (placed l (fresh_record x w rollover)) x w ≡ some (fresh_record x w rollover)
  new-found [] f e = clash true refl f
  new-found (q ∷ l) f e = new-step q l (is_free q.kind) refl (new-found l) f e

old-found : (l : List Record) (n : Record) (x : ℕ) (w : Way) → is_for n x w ≡ false → record_for (placed l n) x w ≡ record_for l x w
old-found l n x w m = unfound (λ r. is_for r x w) (λ r. is_free r.kind) (λ r. n) (λ r e. (free-for r x w e, m)) l

placed-step : (x : ℕ) (q n : Record) (l : List Record) (b : Bool) → is_free q.kind ≡ b → (has_ssrc (placed l n) x ≡ false → has_ssrc l x ≡ false)
    → has_ssrc (pick b (n ∷ l) (q ∷ placed l n)) x ≡ false → has_ssrc (q ∷ l) x ≡ false
placed-step x q n l true h rec e = rw h (or-false (not (is_free n.kind) && eqb n.ssrc x) (has_ssrc l x) e)
placed-step x q n l false h rec e = go (not (is_free q.kind) && eqb q.ssrc x) e
  where
    go : (c : Bool) → (c || has_ssrc (placed l n) x) ≡ false → (c || has_ssrc l x) ≡ false
    go true k = k
    go false k = rec k

placed-ssrc : (x : ℕ) (n : Record) (l : List Record) → has_ssrc (placed l n) x ≡ false → has_ssrc l x ≡ false
placed-ssrc x n [] e = e
placed-ssrc x n (q ∷ l) e = placed-step x q n l (is_free q.kind) refl (placed-ssrc x n l) e

-- ---- add

module _ (s : Session) (x : ℕ) (w : Way) (rollover : ℕ) where
  -- P of the session after an add with a result
  module _ (P : Session → Type 0) (done : s.setup.made ≡ true → has_ssrc s.records x ≡ false → is_full s.records ≡ false
      → P (record { setup = s.setup; records = placed s.records (fresh_record x w rollover) })) where
    added : (add_of s x w rollover).number ≡ 0 → P (add_of s x w rollover).session
    added = add-cases s x w rollover (λ m. m.number ≡ 0 → P m.session) (λ r n z. absurd (omega (arith, above_zero r))) (λ m h f z. done m h f)

  -- with a result, the new record is found; it was not there before, and the session is made
  pub add-found : (add_of s x w rollover).number ≡ 0 → record_for (add_of s x w rollover).session.records x w ≡ some (fresh_record x w rollover)
  add-found = added (λ t. record_for t.records x w ≡ some (fresh_record x w rollover)) (λ m h f. new-found x w rollover s.records f (none_found s.records x w h))

  pub add-new : (add_of s x w rollover).number ≡ 0 → has_ssrc s.records x ≡ false
  add-new = added (λ t. has_ssrc s.records x ≡ false) (λ m h f. h)

  pub add-made : (add_of s x w rollover).number ≡ 0 → s.setup.made ≡ true
  add-made = added (λ t. s.setup.made ≡ true) (λ m h f. m)

  -- with a result or not
  pub add-setup : (add_of s x w rollover).session.setup ≡ s.setup
  add-setup = add-cases s x w rollover (λ m. m.session.setup ≡ s.setup) (λ r n. refl) (λ m h f. refl)

  pub add-absent : (y : ℕ) → has_ssrc (add_of s x w rollover).session.records y ≡ false → has_ssrc s.records y ≡ false
  add-absent y =
      add-cases s x w rollover (λ m. has_ssrc m.session.records y ≡ false → has_ssrc s.records y ≡ false) (λ r n e. e)
      (λ m h f. placed-ssrc y (fresh_record x w rollover) s.records)

-- a record that is there stays
module _ (s : Session) (y : ℕ) (v : Way) (rollover : ℕ) (x : ℕ) (w : Way) (r : Record) (e : record_for s.records x w ≡ some r) where
  not_new : has_ssrc s.records y ≡ false → is_for (fresh_record y v rollover) x w ≡ false
  not_new h =
      and-false (eqb y x) (has_way (kind_of v) w) (λ f g.
      let z : y ≡ x = eqb-true y x f in
      let n : record_for s.records x w ≡ none = none_found s.records x w (rw z at h) in
      apart cc)

  pub add-keeps : record_for (add_of s y v rollover).session.records x w ≡ some r
  add-keeps =
      add-cases s y v rollover (λ m. record_for m.session.records x w ≡ some r) (λ q n. e)
      (λ m h f. old-found s.records (fresh_record y v rollover) x w (not_new h) ∙ e)
