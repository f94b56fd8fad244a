-- The ways that make ends.
use mathlib.Core.Path.{◌≡◌, refl, sym}
use mathlib.Core.Bool.{Bool, true, false, not, ◌&&◌}
use mathlib.Core.List.{List, [], ◌∷◌}
use Prim.Native.Nat.{ℕ, ◌≤◌}
use native.Mathlib.Omega.{arith}
use borrow.Author.Tests.{eqb-true, eqb-false, ltb-false}
use lib.Dec.{eqb, ltb}
use lib.ListN.{length}
use Rattle.bits.specs.Pick.{pick}
use Rattle.bits.specs.Refusals.{number_of}
use Rattle.bits.specs.declared.refusal.Refusal.{Refusal}
use Rattle.bits.specs.declared.refusal.Refusal.TheVariants as refusal
use Rattle.suites.specs.declared.suite.Suite.{Suite}
use Rattle.suites.specs.Suites.{salt_length_of, last_policy_of}
use Rattle.rtp_elements.specs.Mask.{among}
use Rattle.session.specs.Session.{Made}
use Rattle.policies.specs.declared.policy.Policy.TheVariants.{Plain, Cryptex, CryptexRequired, Mask}
use Rattle.policies.specs.Policies.{policy_number}
use Rattle.session.specs.Making.{policy_of, setup_of, session_of, not_made, make_of}

-- P of what make gives: of a refusal, and of the session made
pub make-cases : (suite : Suite) (key salt : List ℕ) (policy : ℕ) (ids : List ℕ) (P : Made → Type 0) → ((r : Refusal) → among (15 ∷ 16 ∷ []) (number_of r) ≡ true → P (not_made r))
    → (policy ≤ last_policy_of suite → P (record { number = 0; session = session_of (setup_of suite key salt policy ids) })) → P (make_of suite key salt policy ids)
unfolding make_of
make-cases suite key salt policy ids P refused done = go (not (eqb (length key) 16 && eqb (length salt) (salt_length_of suite))) (ltb (last_policy_of suite) policy) refl
  where
    go : (a b : Bool) → ltb (last_policy_of suite) policy ≡ b → P (pick a (not_made refusal.Keys) (pick b (not_made refusal.Policy) (record { number = 0; session = session_of (setup_of suite key salt policy ids) })))
    go true b e = refused refusal.Keys refl
    go false true e = refused refusal.Policy refl
    go false false e = done (ltb-false (last_policy_of suite) policy e)

pub policy-number : (n : ℕ) → n ≤ 3 → policy_number (policy_of n) ≡ n
policy-number n h = go (eqb n 0) (eqb n 1) (eqb n 2) refl refl refl
  where
    go : (a b c : Bool) → eqb n 0 ≡ a → eqb n 1 ≡ b → eqb n 2 ≡ c → policy_number (pick a Plain (pick b Cryptex (pick c CryptexRequired Mask))) ≡ n
    go true b c e f g = sym (eqb-true n 0 e)
    go false true c e f g = sym (eqb-true n 1 f)
    go false false true e f g = sym (eqb-true n 2 g)
    go false false false e f g =
        let x = eqb-false n 0 e in
        let y = eqb-false n 1 f in
        let z = eqb-false n 2 g in
        omega arith
