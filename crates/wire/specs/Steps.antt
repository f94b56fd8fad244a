-- What the code's own steps mean: a packet of n bytes at the start of a buffer, with its tag in the last of them.
use Rattle.std.specs.Prelude.{Bool, List, ◌++◌, ℕ, ◌-◌, take, drop}
use Rattle.suites.specs.declared.suite.Suite.{Suite}
use Rattle.suites.specs.Suites.{tag_length_of}
use Rattle.policies.specs.declared.policy.Policy.{Policy}
use Rattle.packet_cipher.specs.declared.keys.Keys.{Keys}
use Rattle.packet_cipher.specs.Cipher.{cipher_of}

-- the buffer once the bytes before the tag are decrypted
abbrev pub opened_of : Suite → Keys → Policy → (ℕ → Bool) → ℕ → ℕ → ℕ → List ℕ → List ℕ
opened_of suite keys policy listed ssrc index n l = cipher_of suite keys policy listed ssrc index (take (n - tag_length_of suite) l) ++ drop (n - tag_length_of suite) l
