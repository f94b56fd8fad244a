-- What holds of every session that making and any list of calls lead to.
use Rattle.std.specs.Prelude.{◌≡◌, true, false, not, ◌&&◌, List, [], ◌∷◌, ℕ, ◌≤◌, ◌<◌, eqb, length}
use Rattle.rtp_elements.specs.Mask.{among, listed_in}
use Rattle.suites.specs.declared.suite.Suite.{Suite}
use Rattle.suites.specs.Suites.{last_policy_of}
use Rattle.policies.specs.Policies.{policy_number}
use Rattle.session.specs.Session.{Record, Session}
use Rattle.session.specs.Records.{is_free, has_ssrc}
use Rattle.session.specs.Making.{keys_of, ids_of, unmade, session_of, make_of}
use Rattle.theorems.specs.Lists.{End, Call, session_at, just_made, EqualSets, outcome_of, after}

-- no SSRC twice
abbrev pub NoSsrcTwice : List Record → Type 0
NoSsrcTwice [] = Unit {0}
NoSsrcTwice (r ∷ l) = (is_free r.kind ≡ false → has_ssrc l r.ssrc ≡ false) × NoSsrcTwice l

pub record Sound (s : Session) : Type 0 where
  -- the policy is one that there is with its suite: no mask with GCM
  pub policy : policy_number s.setup.policy ≤ last_policy_of s.setup.suite
  -- the session keys are those derived from its master key and salt
  pub keys : s.setup.made ≡ true → s.setup.keys ≡ keys_of s.setup.key s.setup.salt
  pub not_made : s.setup.made ≡ false → s ≡ session_of unmade
  -- 32 places, so at most 32 streams
  pub places : length s.records ≡ 32
  pub once : NoSsrcTwice s.records

pub record SessionsAreSound : Type 0 where
  pub made : (suite : Suite) (key salt : List ℕ) (policy : ℕ) (ids : List ℕ) → Sound (make_of suite key salt policy ids).session
  pub kept : (s : Session) (c : Call) → Sound s → Sound (outcome_of s c).session
  -- no call changes what a session was made from
  pub setup : (s : Session) (c : Call) → (outcome_of s c).session.setup ≡ s.setup
  -- so it holds after every list of calls
  pub always : (suite : Suite) (key salt : List ℕ) (policy : ℕ) (ids others : List ℕ) (calls : List Call) (e : End) → Sound (session_at e (after (just_made suite key salt policy ids others) calls))

-- Equal sets of ids give equal sessions.
pub record EqualSetsEqualSessions : Type 0 where
  pub equal : (suite : Suite) (key salt : List ℕ) (policy : ℕ) (ids others : List ℕ) → EqualSets ids others → make_of suite key salt policy ids ≡ make_of suite key salt policy others

-- The four words that a session keeps are its set of ids: those from 1 to 255 in the list.
pub record WordsAreTheSet : Type 0 where
  pub listed : (ids : List ℕ) (id : ℕ) → id < 256 → listed_in (ids_of ids) id ≡ (not (eqb id 0) && among ids id)
