-- RFC 3711, 4.2, and RFC 7714, 8.2: the authentication tag of a packet p that has the form it has on the wire, encrypted.
use Rattle.std.specs.Prelude.{List, ◌++◌, ℕ, ◌/◌, ◌^◌, take}
use Rattle.bits.specs.BigEndian.{to_bytes}
use Rattle.hmac.specs.Hmac.{hmac_of}
use Rattle.hmac.specs.Steps.{mac_of}
use Rattle.gcm.specs.Gcm.{tag_by, tag_of as gcm_tag}
use Rattle.gcm_iv.specs.Srtp.{iv_of}
use Rattle.gcm_hash.specs.Portion.{outside_of, inside_of}
use Rattle.suites.specs.declared.suite.Suite.{Suite}
use Rattle.suites.specs.declared.suite.Suite.TheVariants.{CmHmac, Gcm}
use Rattle.suites.specs.Suites.{tag_length_of}
use Rattle.rtp_header.specs.Header.{layout_of}
use Rattle.policies.specs.declared.policy.Policy.{Policy}
use Rattle.policies.specs.Cryptex.{is_cryptex}
use Rattle.bits.specs.Portion.{Bounds}
use Rattle.packet_cipher.specs.declared.keys.Keys.{Keys}
use Rattle.packet_cipher.specs.Cipher.{portion_of, packet_iv}

-- "Associated data": all that is not encrypted. In a plain packet that is the whole header; under Cryptex the fixed header and the four bytes of the extension
-- header, without contributing sources (RFC 9335, 6.2). What is encrypted is the cipher text.
abbrev pub encrypted_in : Policy → List ℕ → Bounds
encrypted_in policy p = portion_of (is_cryptex policy (layout_of p)) (layout_of p)

abbrev pub associated_data : Policy → List ℕ → List ℕ
associated_data policy p = outside_of (encrypted_in policy p).first (encrypted_in policy p).stop (encrypted_in policy p).rest p

abbrev pub cipher_text : Policy → List ℕ → List ℕ
cipher_text policy p = inside_of (encrypted_in policy p).first (encrypted_in policy p).stop (encrypted_in policy p).rest p

-- HMAC-SHA1's first ten bytes, over M, which is the packet and then the rollover counter, i / 65,536, in 32 bits: `keys.auth` holds the key's states, from which
-- `mac_of` makes HMAC (`KeyStatesGiveTheMac`). Or GCM's tag, of which the index is part through the IV: `keys.hash` is the hash subkey.
unfoldable pub tag_of : Suite → Keys → Policy → ℕ → ℕ → List ℕ → List ℕ
tag_of CmHmac keys policy ssrc index p = take (tag_length_of CmHmac) (mac_of keys.auth (p ++ to_bytes 4 (index / 2 ^ 16)))
tag_of Gcm keys policy ssrc index p = tag_by keys.cipher keys.hash (packet_iv keys ssrc index) (associated_data policy p) (cipher_text policy p)

-- The same from the session keys themselves, as the standards have it: the cipher key, the authentication key of RFC 3711, and the salt.
unfoldable pub standard_tag : Suite → List ℕ → List ℕ → List ℕ → Policy → ℕ → ℕ → List ℕ → List ℕ
standard_tag CmHmac cipher auth salt policy ssrc index p = take (tag_length_of CmHmac) (hmac_of auth (p ++ to_bytes 4 (index / 2 ^ 16)))
standard_tag Gcm cipher auth salt policy ssrc index p = gcm_tag cipher (iv_of salt ssrc index) (associated_data policy p) (cipher_text policy p)
