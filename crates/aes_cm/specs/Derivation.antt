-- RFC 3711, sections 4.3.1 and 4.3.3: session keys from the master key and salt, with a key derivation rate of 0.
use Rattle.std.specs.Prelude.{List, ℕ, get_or, set}
use Rattle.bits.specs.Lists.{tabulate}
use Rattle.bits.specs.Xor.{◌⊕◌}
use Rattle.aes_cm.specs.declared.derivation.SessionKeys.{SessionKeys}
use Rattle.aes_counter.specs.Keystream.{keystream_of}

-- x = key_id XOR the master salt, both ending at the same byte. key_id is the label and then 48 bits that are 0 at rate 0, so the label, below 256,
-- meets byte 7 of the salt, counted from 0
abbrev pub salt_for : List ℕ → ℕ → List ℕ
salt_for salt label = set salt 7 (get_or salt 7 0 ⊕ label)

-- the first n bytes of AES-CM under the master key from the block x * 2^16
unfoldable pub derived_of : List ℕ → List ℕ → ℕ → ℕ → List ℕ
derived_of key salt label n = tabulate n (λ k. keystream_of key (salt_for salt label) 0 0 k)

-- document 01, "Keys and cipher": the labels of the five session keys (RFC 3711, 4.3.1; RFC 6904, 3), and their lengths in bytes
abbrev pub session_keys_of : List ℕ → List ℕ → SessionKeys
session_keys_of key salt =
    record {
      cipher = derived_of key salt 0 16;
      auth = derived_of key salt 1 20;
      salt = derived_of key salt 2 14;
      header_cipher = derived_of key salt 6 16;
      header_salt = derived_of key salt 7 14;
    }
