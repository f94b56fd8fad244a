-- Document 02, CR 3: a packet under the second suite, in the form that it has on the wire, beside SP 800-38D's algorithm 4. Its tag is `packet_cipher/Tag.tag_of`.
use Rattle.std.specs.Prelude.{◌≡◌, Bool, true, false, List, ◌++◌, ℕ, ◌+◌, ◌*◌, ◌≤◌, length, take, drop}
use Rattle.rtp_header.specs.Header.{count_of, layout_of}
use Rattle.policies.specs.declared.policy.Policy.{Policy}
use Rattle.policies.specs.Cryptex.{is_cryptex}
use Rattle.suites.specs.declared.suite.Suite.TheVariants.{Gcm}
use Rattle.gcm.specs.Gcm.{crypt_of}
use Rattle.packet_cipher.specs.declared.keys.Keys.{Keys}
use Rattle.packet_cipher.specs.Cipher.{packet_iv, cipher_of}
use Rattle.packet_cipher.specs.Tag.{associated_data, cipher_text}

pub record PacketsAreGcm : Type 0 where
  -- what is encrypted is the cipher text of what was there, under the packet's IV
  pub text : (keys : Keys) (policy : Policy) (listed : ℕ → Bool) (ssrc index : ℕ) (p : List ℕ) → (layout_of p).payload ≤ length p
      → cipher_text policy (cipher_of Gcm keys policy listed ssrc index p) ≡ crypt_of keys.cipher (packet_iv keys ssrc index) (cipher_text policy p)
  -- and the associated data stays
  pub kept : (keys : Keys) (policy : Policy) (listed : ℕ → Bool) (ssrc index : ℕ) (p : List ℕ) → (layout_of p).payload ≤ length p
      → associated_data policy (cipher_of Gcm keys policy listed ssrc index p) ≡ associated_data policy p
  -- "associated data the whole header in plain packets"
  pub plain : (policy : Policy) (p : List ℕ) → is_cryptex policy (layout_of p) ≡ false → associated_data policy p ≡ take (layout_of p).payload p
  -- "and, for Cryptex, fixed header and extension header without contributors"
  pub cryptex : (policy : Policy) (p : List ℕ) → is_cryptex policy (layout_of p) ≡ true
      → associated_data policy p ≡ take 12 p ++ take 4 (drop (12 + 4 * count_of p) p)
