-- RFC 3711, 3.1 and 3.3, and RFC 7714, 5.2 and 8.2: the packet on the wire, and the packet that is given back. t is the length of the authentication tag.
use Rattle.std.specs.Prelude.{Bool, List, ◌++◌, ℕ, ◌-◌, length, take, drop}
use Rattle.bits.specs.Pick.{pick}
use Rattle.tags.specs.Tag.{same_of}
use Rattle.rtp_header.specs.Header.{layout_of}
use Rattle.packet_cipher.specs.declared.keys.Keys.{Keys}
use Rattle.policies.specs.declared.policy.Policy.{Policy}
use Rattle.suites.specs.declared.suite.Suite.{Suite}
use Rattle.suites.specs.Suites.{tag_length_of}
use Rattle.packet_cipher.specs.Cipher.{cipher_of}
use Rattle.packet_cipher.specs.Tag.{tag_of}
use Rattle.policies.specs.Cryptex.{adds_block, with_block, tagged_of, untagged_of}

-- ---- for any cipher and any authenticator

-- The packet as it is given back, from which sending starts too: with the empty block, where Cryptex adds one. "it can be left as is and will be processed normally"
unfoldable pub given_back_of : Policy → List ℕ → List ℕ
given_back_of policy p = pick (adds_block policy (layout_of p)) (with_block p (layout_of p).extension) p

-- the authenticated portion: the packet in its wire form, encrypted
unfoldable pub body_by : Policy → (List ℕ → List ℕ) → List ℕ → List ℕ
body_by policy encrypt p = encrypt (tagged_of policy (given_back_of policy p))

-- and then its tag
unfoldable pub wire_by : Policy → (List ℕ → List ℕ) → (List ℕ → List ℕ) → List ℕ → List ℕ
wire_by policy encrypt tag_of p = body_by policy encrypt p ++ tag_of (body_by policy encrypt p)

unfoldable pub restore_by : Policy → (List ℕ → List ℕ) → ℕ → List ℕ → List ℕ
restore_by policy decrypt t w = untagged_of policy (decrypt (take (length w - t) w))

-- ---- by the suite

-- what is sent
unfoldable pub wire_of : Suite → Keys → Policy → (ℕ → Bool) → ℕ → ℕ → List ℕ → List ℕ
wire_of suite keys policy listed ssrc index p = wire_by policy (cipher_of suite keys policy listed ssrc index) (tag_of suite keys policy ssrc index) p

-- what is given back
unfoldable pub restore_of : Suite → Keys → Policy → (ℕ → Bool) → ℕ → ℕ → List ℕ → List ℕ
restore_of suite keys policy listed ssrc index w = restore_by policy (cipher_of suite keys policy listed ssrc index) (tag_length_of suite) w

-- the tag of a received packet is the one that its bytes before the tag should have
unfoldable pub tag_fits : Suite → Keys → Policy → ℕ → ℕ → List ℕ → Bool
tag_fits suite keys policy ssrc index w =
    same_of (tag_of suite keys policy ssrc index (take (length w - tag_length_of suite) w)) (drop (length w - tag_length_of suite) w)
