-- Document 01, "Keys and cipher", and RFC 3711, 4.2: "The tag is the first 10 bytes of HMAC-SHA1 over all wire bytes before the tag, then the 32-bit
-- rollover i / 65,536." Document 02, CR 3, and RFC 7714, 8.2: or GCM's, of sixteen bytes.
use Rattle.std.specs.Prelude.{◌≡◌, List, ℕ, ◌-◌, ◌≤◌, length, take, drop}
use Rattle.aes_cm.specs.Derivation.{derived_of}
use Rattle.suites.specs.declared.suite.Suite.{Suite}
use Rattle.suites.specs.Suites.{salt_length_of, tag_length_of}
use Rattle.packet_cipher.specs.Tag.{standard_tag}
use Rattle.session.specs.Making.{full_salt, policy_of}
use Rattle.theorems.specs.Sent.{Sent, OfEachSent}

-- the session keys that tags are made with: 16 bytes under label 0, 20 under label 1, and the salt under label 2, of the suite's length
abbrev pub cipher_key : List ℕ → List ℕ → List ℕ
cipher_key key salt = derived_of key (full_salt salt) 0 16

abbrev pub authentication_key : List ℕ → List ℕ → List ℕ
authentication_key key salt = derived_of key (full_salt salt) 1 20

abbrev pub session_salt : Suite → List ℕ → List ℕ → List ℕ
session_salt suite key salt = derived_of key (full_salt salt) 2 (salt_length_of suite)

-- all wire bytes before the tag
abbrev pub before_tag : Suite → Sent → List ℕ
before_tag suite s = take (length s.wire - tag_length_of suite) s.wire

-- a packet that was sent ends with its tag
pub record Tagged (suite : Suite) (key salt : List ℕ) (policy : ℕ) (ids : List ℕ) (ssrc : ℕ) (s : Sent) : Type 0 where
  pub long : tag_length_of suite ≤ length s.wire
  pub tag : drop (length s.wire - tag_length_of suite) s.wire
      ≡ standard_tag suite (cipher_key key salt) (authentication_key key salt) (session_salt suite key salt) (policy_of policy) ssrc s.index (before_tag suite s)

unfoldable pub TagsAreTheStandards : Type 0
TagsAreTheStandards = OfEachSent Tagged
