-- Which session memory holds: made or not, and what one word of each record tells.
use Rattle.std.specs.Prelude.{Some, None}
use mathlib.Core.Path.{◌≡◌, refl, sym, ap, ap₂, ◌∙◌}
use mathlib.Core.Bool.{Bool, true, false, not, ◌&&◌}
use mathlib.Core.List.{List}
use Prim.Native.Nat.{ℕ, zero, suc, ◌+◌, ◌/◌, ◌%◌, ◌^◌, ◌≤◌, ◌<◌}
use native.Mathlib.Omega.{arith}
use borrow.Author.Tests.{eqb-true, eqb-false, eq-eqb, ne_eqb, leb-true}
use lib.Dec.{eqb, leb}
use lib.ListN.{get_or, replicate}
use Rattle.bits.specs.Pick.{pick}
use Rattle.memory.specs.Parts.{place_in, cut}
use Rattle.memory.specs.Words.{word}
use Rattle.memory.proofs.Parts.{field-word}
use Rattle.policies.specs.declared.policy.Policy.TheVariants.{Plain}
use Rattle.policies.specs.declared.policy.Way.{Way}
use Rattle.policies.specs.declared.policy.Way.TheVariants.{Sending, Receiving}
use Rattle.policies.proofs.Layouts.{apart}
use Rattle.session.specs.Session.{Free, Sender, Receiver, Session}
use Rattle.suites.specs.declared.suite.Suite.TheVariants.{CmHmac}
use Rattle.session.specs.Making.{unmade, session_of}
use Rattle.session.specs.Records.{kind_of, has_way, is_free, is_for, free_place}
use Rattle.session.specs.Places.{no_record, place_from}
use Rattle.session.specs.Memory.{number, record_layout, the_head, kind_at, head_word, record_at, setup_layout, the_mark, mark, is_mark, suite_in, policy_in, suite_at, policy_at, record_place, records_in, setup_at, decode}
use Rattle.session.proofs.Records.{cell_at, record-at, number_at}

-- ---- made or not

pub mark-below : (m : ℕ) → is_mark m ≡ true → mark ≤ m
mark-below m e = go (leb mark m) (leb m (mark + 7)) refl e
  where
    go : (a b : Bool) → leb mark m ≡ a → (a && b) ≡ true → mark ≤ m
    go true b h e = leb-true mark m h
    go false b h e = let z : ◌≡◌ {A = ℕ} 0 1 = cc in absurd (omega arith)

pub policy-made : (m : ℕ) → is_mark m ≡ true → policy_at m ≡ policy_in m
policy-made m e = ap (λ (b : Bool). pick b (policy_in m) Plain) e

pub policy-unmade : (m : ℕ) → is_mark m ≡ false → policy_at m ≡ Plain
policy-unmade m e = ap (λ (b : Bool). pick b (policy_in m) Plain) e

pub suite-made : (m : ℕ) → is_mark m ≡ true → suite_at m ≡ suite_in m
suite-made m e = ap (λ (b : Bool). pick b (suite_in m) CmHmac) e

pub suite-unmade : (m : ℕ) → is_mark m ≡ false → suite_at m ≡ CmHmac
suite-unmade m e = ap (λ (b : Bool). pick b (suite_in m) CmHmac) e

module _ (words : List ℕ) where
  pub made : is_mark (word words 0) ≡ true → decode words ≡ record { setup = setup_at words; records = records_in words }
  unfolding decode
  made e = ap (λ (b : Bool). pick b (record { setup = setup_at words; records = records_in words }) (session_of unmade)) e

  pub not_made : is_mark (word words 0) ≡ false → decode words ≡ session_of unmade
  unfolding decode
  not_made e = ap (λ (b : Bool). pick b (record { setup = setup_at words; records = records_in words }) (session_of unmade)) e

  first : number (cut setup_layout words) the_mark ≡ word words 0
  first = field-word setup_layout the_mark 0 words (omega arith) (omega arith)

  -- the policy and the suite that the first word tells
  pub policy-is : policy_at (word words 0) ≡ (decode words).setup.policy
  unfolding setup_at
  policy-is = go (is_mark (word words 0)) refl
    where
      go : (b : Bool) → is_mark (word words 0) ≡ b → policy_at (word words 0) ≡ (decode words).setup.policy
      go true e = policy-made (word words 0) e ∙ ap policy_in (sym first) ∙ sym (ap (λ (s : Session). s.setup.policy) (made e))
      go false e = policy-unmade (word words 0) e ∙ sym (ap (λ (s : Session). s.setup.policy) (not_made e))

  pub suite-is : suite_at (word words 0) ≡ (decode words).setup.suite
  unfolding setup_at
  suite-is = go (is_mark (word words 0)) refl
    where
      go : (b : Bool) → is_mark (word words 0) ≡ b → suite_at (word words 0) ≡ (decode words).setup.suite
      go true e = suite-made (word words 0) e ∙ ap suite_in (sym first) ∙ sym (ap (λ (s : Session). s.setup.suite) (made e))
      go false e = suite-unmade (word words 0) e ∙ sym (ap (λ (s : Session). s.setup.suite) (not_made e))

-- ---- the first word of a record

module _ (words : List ℕ) (i : ℕ) (inside : i < 32) where
  abbrev head : ℕ
  head = word words (record_place i)

  head_at : number (cut record_layout (cell_at words i)) the_head ≡ head
  head_at = number_at words i the_head (omega arith) refl ∙ ap (word words) (let z : record_place i + place_in record_layout the_head ≡ record_place i = omega arith in z)

  pub kind-at : (get_or (records_in words) i no_record).kind ≡ kind_at (head / 2 ^ 32)
  unfolding record_at
  kind-at = rw (record-at words i inside) (ap (λ (x : ℕ). kind_at (x / 2 ^ 32)) head_at)

  pub ssrc-at : (get_or (records_in words) i no_record).ssrc ≡ head % 2 ^ 32
  unfolding record_at
  ssrc-at = rw (record-at words i inside) (ap (λ (x : ℕ). x % 2 ^ 32) head_at)

-- the number of a kind and an SSRC in one word
other_way : (a : Bool) → (a && false) ≡ false
other_way true = refl
other_way false = refl

module _ (x ssrc : ℕ) (small : ssrc < 2 ^ 32) where
  sending-head : (a b : Bool) → eqb (x % 2 ^ 32) ssrc ≡ a → eqb (x / 2 ^ 32) 1 ≡ b → (k : Bool)
      → (a && has_way (pick b Sender (pick k Receiver Free)) Sending) ≡ eqb x (head_word Sender ssrc)
  sending-head true true e f k = sym (eq-eqb x (head_word Sender ssrc) (omega (arith, eqb-true (x % 2 ^ 32) ssrc e, eqb-true (x / 2 ^ 32) 1 f)))
  sending-head false true e f k = sym (ne_eqb x (head_word Sender ssrc) (λ q. eqb-false (x % 2 ^ 32) ssrc e (omega arith)))
  sending-head a false e f true = other_way a ∙ sym (ne_eqb x (head_word Sender ssrc) (λ q. eqb-false (x / 2 ^ 32) 1 f (omega arith)))
  sending-head a false e f false = other_way a ∙ sym (ne_eqb x (head_word Sender ssrc) (λ q. eqb-false (x / 2 ^ 32) 1 f (omega arith)))

  receiving-head : (a b k : Bool) → eqb (x % 2 ^ 32) ssrc ≡ a → eqb (x / 2 ^ 32) 1 ≡ b → eqb (x / 2 ^ 32) 2 ≡ k
      → (a && has_way (pick b Sender (pick k Receiver Free)) Receiving) ≡ eqb x (head_word Receiver ssrc)
  receiving-head a true k e f g = other_way a ∙ sym (ne_eqb x (head_word Receiver ssrc) (λ q. omega (arith, eqb-true (x / 2 ^ 32) 1 f)))
  receiving-head true false true e f g = sym (eq-eqb x (head_word Receiver ssrc) (omega (arith, eqb-true (x % 2 ^ 32) ssrc e, eqb-true (x / 2 ^ 32) 2 g)))
  receiving-head false false true e f g = sym (ne_eqb x (head_word Receiver ssrc) (λ q. eqb-false (x % 2 ^ 32) ssrc e (omega arith)))
  receiving-head a false false e f g = other_way a ∙ sym (ne_eqb x (head_word Receiver ssrc) (λ q. eqb-false (x / 2 ^ 32) 2 g (omega arith)))

  -- it is the record's of this SSRC and this way where it is their head word
  is-for : (w : Way) → (eqb (x % 2 ^ 32) ssrc && has_way (kind_at (x / 2 ^ 32)) w) ≡ eqb x (head_word (kind_of w) ssrc)
  is-for Sending = sending-head (eqb (x % 2 ^ 32) ssrc) (eqb (x / 2 ^ 32) 1) refl refl (eqb (x / 2 ^ 32) 2)
  is-for Receiving = receiving-head (eqb (x % 2 ^ 32) ssrc) (eqb (x / 2 ^ 32) 1) (eqb (x / 2 ^ 32) 2) refl refl refl

pub for-head : (words : List ℕ) (i : ℕ) → i < 32 → (ssrc : ℕ) → ssrc < 2 ^ 32 → (w : Way)
    → is_for (get_or (records_in words) i no_record) ssrc w ≡ eqb (word words (record_place i)) (head_word (kind_of w) ssrc)
for-head words i h ssrc small w =
    ap₂ (λ a b. eqb a ssrc && has_way b w) (ssrc-at words i h) (kind-at words i h) ∙ is-for (word words (record_place i)) ssrc small w

pub free-kind : (n : ℕ) → eqb n 1 ≡ false → not (eqb n 2) ≡ is_free (kind_at n)
free-kind n e = rw e (go (eqb n 2))
  where
    go : (b : Bool) → not b ≡ is_free (pick b Receiver Free)
    go true = refl
    go false = refl

-- ---- the unmade session

free-nowhere : (n k x : ℕ) (w : Way) → place_from k (replicate n free_place) x w ≡ None
free-nowhere zero k x w = refl
free-nowhere (suc n) k x w = rw (other_way (eqb 0 x)) (free-nowhere n (suc k) x w)

pub unmade-nowhere : (words : List ℕ) → is_mark (word words 0) ≡ false → (x : ℕ) (w : Way) → place_from 0 (decode words).records x w ≡ None
unmade-nowhere words e x w = rw (not_made words e) (free-nowhere 32 0 x w)

-- a session with a record is made
pub placed-made : (words : List ℕ) (x : ℕ) (w : Way) (i : ℕ) → place_from 0 (decode words).records x w ≡ Some i → is_mark (word words 0) ≡ true
placed-made words x w i e = go (is_mark (word words 0)) refl
  where
    go : (b : Bool) → is_mark (word words 0) ≡ b → is_mark (word words 0) ≡ true
    go true m = m
    go false m = apart (let z = unmade-nowhere words m x w in cc)
