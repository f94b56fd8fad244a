-- Document 01, "The library's work", with document 02, CR 3: a session, what it is made from, and its places for stream records.
use Rattle.std.specs.Prelude.{Bool, List, ℕ}
use Rattle.replay.specs.State.{ReplayState}
use Rattle.suites.specs.declared.suite.Suite.{Suite}
use Rattle.policies.specs.declared.policy.Policy.{Policy}
use Rattle.packet_cipher.specs.declared.keys.Keys.{Keys}

-- what a place holds: nothing, or the record of a stream that is sent or received
pub data Kind : Type 0 where
  Free : Kind
  Sender : Kind
  Receiver : Kind

-- `rollover` is the starting rollover
pub record Record : Type 0 where
  pub ssrc : ℕ
  pub kind : Kind
  pub rollover : ℕ
  pub replay : ReplayState

-- Whether it was made, suite, policy, master key, master salt (a short one with its zeros, `Making.full_salt`) and ids, and the session keys derived from them. No call but make changes it.
-- Bit id % 64 of word id / 64 of `ids` says whether an id is in the set.
pub record Setup : Type 0 where
  pub made : Bool
  pub suite : Suite
  pub policy : Policy
  pub key : List ℕ
  pub salt : List ℕ
  pub ids : List ℕ
  pub keys : Keys

pub record Session : Type 0 where
  pub setup : Setup
  pub records : List Record

-- what make and add give back: 0 or the number of a refusal, and the session
pub record Made : Type 0 where
  pub number : ℕ
  pub session : Session
