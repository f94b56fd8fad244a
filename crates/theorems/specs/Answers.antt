-- Demand 1: "A call gives its result or one numbered refusal, and a refusal leaves the buffer and the session exactly as they were."
use Rattle.std.specs.Prelude.{◌≡◌, true, false, List, [], ◌∷◌, ℕ, ◌≤◌, length}
use Rattle.rtp.specs.Finding.{find_of}
use Rattle.rtp_elements.specs.Mask.{among}
use Rattle.suites.specs.declared.suite.Suite.{Suite}
use Rattle.suites.specs.Suites.{salt_length_of, last_policy_of}
use Rattle.policies.specs.declared.policy.Way.{Way}
use Rattle.session.specs.Session.{Session}
use Rattle.session.specs.Making.{unmade, session_of, make_of}
use Rattle.session.specs.Adding.{add_of}
use Rattle.session.specs.Packets.{Outcome}
use Rattle.theorems.specs.Lists.{Call, add, protect, unprotect, outcome_of}

-- document 01, "Numbers given back": 0 for a result, and the refusals of each call
abbrev pub numbers_for : Call → List ℕ
numbers_for (add e ssrc way rollover) = 0 ∷ 15 ∷ 17 ∷ 18 ∷ []
numbers_for (protect e buf n) = 0 ∷ 1 ∷ 2 ∷ 3 ∷ 4 ∷ 5 ∷ 6 ∷ 7 ∷ 8 ∷ 9 ∷ 10 ∷ 11 ∷ []
numbers_for (unprotect e buf n) = 0 ∷ 1 ∷ 2 ∷ 3 ∷ 4 ∷ 5 ∷ 6 ∷ 7 ∷ 9 ∷ 11 ∷ 12 ∷ 13 ∷ 14 ∷ []

-- the buffer that a call is lent
abbrev pub buffer_of : Call → List ℕ
buffer_of (add e ssrc way rollover) = []
buffer_of (protect e buf n) = buf
buffer_of (unprotect e buf n) = buf

-- one of the call's numbers; with a refusal length 0, and buffer and session as they were
pub record Settled (s : Session) (c : Call) (o : Outcome) : Type 0 where
  pub number : among (numbers_for c) o.answer.number ≡ true
  pub length : (o.answer.number ≡ 0 → ⊥) → o.answer.length ≡ 0
  pub buffer : (o.answer.number ≡ 0 → ⊥) → o.answer.buffer ≡ buffer_of c
  pub session : (o.answer.number ≡ 0 → ⊥) → o.session ≡ s

pub record OneAnswerEach : Type 0 where
  -- add, protect and unprotect, on any session, with anything in the buffer
  pub calls : (s : Session) (c : Call) → Settled s c (outcome_of s c)
  -- find in a plain packet; a refused finding hands back an empty part
  pub find-number : (p : List ℕ) (id : ℕ) → among (0 ∷ 2 ∷ 3 ∷ 4 ∷ 6 ∷ 19 ∷ []) (find_of p id).number ≡ true
  pub find-refused : (p : List ℕ) (id : ℕ) → ((find_of p id).number ≡ 0 → ⊥) → (find_of p id).length ≡ 0
  -- make, for each suite: with a key and a salt of its lengths and a policy that it takes it gives its result; a refused making gives the one unmade session, which takes no stream
  pub number : (suite : Suite) (key salt : List ℕ) (policy : ℕ) (ids : List ℕ) → among (0 ∷ 15 ∷ 16 ∷ []) (make_of suite key salt policy ids).number ≡ true
  pub taken : (suite : Suite) (key salt : List ℕ) (policy : ℕ) (ids : List ℕ) → length key ≡ 16 → length salt ≡ salt_length_of suite → policy ≤ last_policy_of suite
      → (make_of suite key salt policy ids).number ≡ 0
  pub refused : (suite : Suite) (key salt : List ℕ) (policy : ℕ) (ids : List ℕ) → ((make_of suite key salt policy ids).number ≡ 0 → ⊥)
      → (make_of suite key salt policy ids).session ≡ session_of unmade
  pub no_stream : (s : Session) → s.setup.made ≡ false → (ssrc : ℕ) (way : Way) (rollover : ℕ) → (add_of s ssrc way rollover).number ≡ 15
