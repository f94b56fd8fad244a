-- A session's memory once it was made.
use Rattle.std.specs.Prelude.{◌≡◌, true, List, ℕ}
use Rattle.packet_cipher.specs.declared.keys.Keys.{Keys}
use Rattle.suites.specs.declared.suite.Suite.{Suite}
use Rattle.session.specs.Session.{Setup}
use Rattle.session.specs.Making.{policy_of, session_of}
use Rattle.session.specs.Memory.{encode, decode}

-- a setup whose ids and session keys are there already
abbrev pub setup_with : Suite → ℕ → List ℕ → List ℕ → List ℕ → Keys → Setup
setup_with suite policy key salt ids keys =
    record { made = true; suite = suite; policy = policy_of policy; key = key; salt = salt; ids = ids; keys = keys }

-- memory that holds the session made from this, with no stream yet
pub record Stored (s : Setup) (words : List ℕ) : Type 0 where
  pub written : words ≡ encode (session_of s)
  pub read : decode words ≡ session_of s
