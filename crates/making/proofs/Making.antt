-- One law for each way that make ends.
use mathlib.Core.Path.{◌≡◌, refl, sym, ap, ◌∙◌}
use mathlib.Core.Bool.{Bool, true, false, not, ◌&&◌}
use mathlib.Core.List.{List}
use Prim.Native.Nat.{ℕ, ◌≤◌, ◌<◌}
use native.Mathlib.Omega.{arith}
use borrow.Author.Tests.{eq-eqb, ne_eqb, eqb-true, lt-ltb, le-ltb, ltb-false}
use lib.Dec.{eqb, ltb}
use lib.ListN.{length, replicate}
use Rattle.bits.specs.Pick.{pick}
use Rattle.bits.specs.Refusals.{number_of, wrong_memory, wrong_suite}
use Rattle.bits.specs.declared.refusal.Refusal.TheVariants as refusal
use Rattle.memory.specs.Parts.{with_part}
use Rattle.packet_cipher.specs.declared.keys.Keys.{Keys}
use Rattle.session.specs.Session.{Setup}
use Rattle.suites.specs.declared.suite.Suite.{Suite}
use Rattle.suites.specs.Suites.{suite_of, salt_length_of, last_policy_of}
use Rattle.suites.proofs.Lengths.{salt-short, policy-last}
use Rattle.session.specs.Making.{full_salt, keys_of, ids_of, setup_of, unmade, session_of, not_made, make_of}
use Rattle.session.specs.Calls.{without_buffer, Leaves, make_call}
use Rattle.session.specs.Memory.{size, encode, decode}
use Rattle.session.proofs.RoundTrip.{encode-unmade, sessions-last}
use Rattle.setup_words.specs.Steps.{setup_with, Stored}
use Rattle.making.specs.Steps.{make_number}

module _ (suite : Suite) (key salt : List ℕ) (policy : ℕ) (ids : List ℕ) where
  abbrev number : ℕ
  number = make_number suite (length key) (length salt) policy

  -- a refusal leaves the unmade session
  is-made-of : make_of suite key salt policy ids ≡ record { number = number; session = pick (eqb number 0) (session_of (setup_of suite key salt policy ids)) (session_of unmade) }
  unfolding make_of
  is-made-of = go (not (eqb (length key) 16 && eqb (length salt) (salt_length_of suite))) (ltb (last_policy_of suite) policy)
    where
      n : Bool → Bool → ℕ
      n a b = pick a (number_of refusal.Keys) (pick b (number_of refusal.Policy) 0)

      go : (a b : Bool) → pick a (not_made refusal.Keys) (pick b (not_made refusal.Policy) (record { number = 0; session = session_of (setup_of suite key salt policy ids) }))
          ≡ record { number = n a b; session = pick (eqb (n a b) 0) (session_of (setup_of suite key salt policy ids)) (session_of unmade) }
      go true b = refl
      go false true = refl
      go false false = refl

  -- with a result key, salt and policy are as they must be
  pub accepted : number ≡ 0 → (length key ≡ 16) × ((length salt ≤ 14) × (policy ≤ 3))
  accepted = go (eqb (length key) 16) (eqb (length salt) (salt_length_of suite)) (ltb (last_policy_of suite) policy) refl refl refl
    where
      go : (a b c : Bool) → eqb (length key) 16 ≡ a → eqb (length salt) (salt_length_of suite) ≡ b → ltb (last_policy_of suite) policy ≡ c → pick (not (a && b)) (number_of refusal.Keys) (pick c (number_of refusal.Policy) 0) ≡ 0
          → (length key ≡ 16) × ((length salt ≤ 14) × (policy ≤ 3))
      go false b c e f g z = absurd (omega arith)
      go true false c e f g z = absurd (omega arith)
      go true true true e f g z = absurd (omega arith)
      go true true false e f g z =
          let salted = eqb-true (length salt) (salt_length_of suite) f in (
            eqb-true (length key) 16 e,
            (omega (arith, salted, salt-short suite), omega (arith, ltb-false (last_policy_of suite) policy g, policy-last suite)),
          )

module _ (words key salt : List ℕ) (policy : ℕ) (ids : List ℕ) (suite : ℕ) where
  pub make-memory : (length words ≡ size → ⊥) → Leaves (make_call words key salt policy ids suite) wrong_memory words
  unfolding make_call
  make-memory h = rw (ne_eqb (length words) size h) (record { number = refl; words = refl })

  module _ (sized : length words ≡ size) where
    pub make-suite : 1 < suite → Leaves (make_call words key salt policy ids suite) wrong_suite words
    unfolding make_call
    make-suite h = rw (eq-eqb (length words) size sized, le-ltb suite 2 (omega arith)) (record { number = refl; words = refl })

    module _ (known : suite ≤ 1) (own : Suite) (is_own : own ≡ suite_of suite) (r : ℕ) (is : r ≡ number own key salt policy ids) where
      -- what is given back and left, with the session that memory then holds
      abbrev Ends : List ℕ → Type 0
      Ends memory = Leaves (make_call words key salt policy ids suite) r memory × (decode memory ≡ (make_of (suite_of suite) key salt policy ids).session)

      called : make_call words key salt policy ids suite ≡ without_buffer (make_of own key salt policy ids).number (encode (make_of own key salt policy ids).session)
      unfolding make_call
      called = rw (eq-eqb (length words) size sized, lt-ltb suite 2 (omega arith), is_own)

      pub make-refused-in : (r ≡ 0 → ⊥) → (memory : List ℕ) → memory ≡ replicate (length words) 0 → Ends memory
      make-refused-in h memory e =
          let z : memory ≡ replicate size 0 = e ∙ ap (λ (k : ℕ). replicate k 0) sized in
          let u = ne_eqb (number own key salt policy ids) 0 (λ q. h (is ∙ q)) in
          rw (called, sym is_own, is-made-of own key salt policy ids, u)
          (record { number = is; words = z ∙ sym encode-unmade }, ap decode (z ∙ sym encode-unmade) ∙ sessions-last.unmade)

      pub make-made-in : r ≡ 0 → (first zeros memory : List ℕ) {k s i : List ℕ} {keys : Keys} → Stored (setup_with own policy k s i keys) (with_part 0 first (replicate size 0))
          → k ≡ key → s ≡ full_salt salt → i ≡ ids_of ids → keys ≡ keys_of k s → memory ≡ with_part 0 first zeros → zeros ≡ replicate size 0 → Ends memory
      make-made-in h first zeros memory {k} {s} {i} {keys} st a b c d e f =
          let u = eq-eqb (number own key salt policy ids) 0 (sym is ∙ h) in
          let q : setup_with own policy k s i keys ≡ setup_of own key salt policy ids = rw (d, a, b, c) in
          let m : memory ≡ with_part 0 first (replicate size 0) = e ∙ ap (with_part 0 first) f in
          rw (called, sym is_own, is-made-of own key salt policy ids, u)
          (record { number = is; words = m ∙ st.written ∙ ap (λ (t : Setup). encode (session_of t)) q }, ap decode m ∙ st.read ∙ ap session_of q)
