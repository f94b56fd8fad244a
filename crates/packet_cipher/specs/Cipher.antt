-- What is encrypted (RFC 3711, 3.1; RFC 7714, 8.2; RFC 9335, 6.1 and 6.2; RFC 6904, 3), of a packet that has the form it has on the wire.
use Rattle.std.specs.Prelude.{Bool, true, false, ◌&&◌, List, ℕ, ◌-◌, ltb, take}
use Rattle.bits.specs.Pick.{pick}
use Rattle.bits.specs.Xor.{xor_pad}
use Rattle.aes_counter.specs.Keystream.{keystream_of}
use Rattle.aes_cm.specs.Portion.{portion_pad}
use Rattle.gcm.specs.Gctr.{inc32, gctr_stream}
use Rattle.gcm.specs.Gcm.{j0_of}
use Rattle.gcm_iv.specs.Srtp.{iv_of}
use Rattle.suites.specs.declared.suite.Suite.{Suite}
use Rattle.suites.specs.declared.suite.Suite.TheVariants.{CmHmac, Gcm}
use Rattle.suites.specs.Suites.{salt_length_of}
use Rattle.rtp_header.specs.declared.header.Layout.{Layout}
use Rattle.rtp_header.specs.Header.{layout_of, block_of}
use Rattle.rtp_elements.specs.Mask.{mask_of, masked_pad}
use Rattle.bits.specs.Portion.{Bounds}
use Rattle.packet_cipher.specs.declared.keys.Keys.{Keys}
use Rattle.policies.specs.declared.policy.Policy.{Policy}
use Rattle.policies.specs.Policies.{uses_mask}
use Rattle.policies.specs.Cryptex.{is_cryptex}

-- The encrypted portion: under Cryptex CSRC identifiers, header extension data and payload, without the four bytes of the extension header; else the payload.
abbrev pub portion_of : Bool → Layout → Bounds
portion_of true h = record { first = h.contributors; stop = h.extension; rest = h.block }
portion_of false h = record { first = h.payload; stop = h.payload; rest = h.payload }

abbrev pub portion_pad_of : Bounds → (ℕ → ℕ) → ℕ → ℕ
portion_pad_of r stream = portion_pad r.first r.stop r.rest stream

-- policy 3, on the block: the header keystream where the mask is FF, byte k for block byte k
abbrev pub block_pad_of : (ℕ → Bool) → (ℕ → ℕ) → List ℕ → ℕ → ℕ
block_pad_of listed header-stream p i =
    pick (ltb i (layout_of p).block) 0 (masked_pad (mask_of listed (layout_of p).tag (block_of (layout_of p) p)) header-stream (i - (layout_of p).block))

-- what byte i of a packet is XORed with, from the keystream and the header keystream
unfoldable pub pad_of : Policy → (ℕ → Bool) → (ℕ → ℕ) → (ℕ → ℕ) → List ℕ → ℕ → ℕ
pad_of policy listed stream header-stream p i =
    pick (uses_mask policy && ltb i (layout_of p).payload) (block_pad_of listed header-stream p i)
    (portion_pad_of (portion_of (is_cryptex policy (layout_of p)) (layout_of p)) stream i)

-- encrypts and decrypts
unfoldable pub crypted_of : Policy → (ℕ → Bool) → (ℕ → ℕ) → (ℕ → ℕ) → List ℕ → List ℕ
crypted_of policy listed stream header-stream p = xor_pad (pad_of policy listed stream header-stream p) p

-- ---- by the suite

-- RFC 7714, 8.1: the IV of a packet under GCM. Its salt is the first twelve bytes.
abbrev pub packet_iv : Keys → ℕ → ℕ → List ℕ
packet_iv keys ssrc index = iv_of (take (salt_length_of Gcm) keys.salt) ssrc index

-- the keystream of a packet: AES-CM's; or GCM's, whose first counter is 2 (SP 800-38D, 7.1, step 3)
abbrev pub stream_of : Suite → Keys → ℕ → ℕ → ℕ → ℕ
stream_of CmHmac keys ssrc index = keystream_of keys.cipher keys.salt ssrc index
stream_of Gcm keys ssrc index = gctr_stream keys.cipher (inc32 (j0_of (packet_iv keys ssrc index)))

-- That of its header, under the mask. With GCM there is no mask (POLICY), and nothing is hidden by one.
abbrev pub header_stream_of : Suite → Keys → ℕ → ℕ → ℕ → ℕ
header_stream_of CmHmac keys ssrc index = keystream_of keys.header_cipher keys.header_salt ssrc index
header_stream_of Gcm keys ssrc index = λ k. 0

abbrev pub cipher_of : Suite → Keys → Policy → (ℕ → Bool) → ℕ → ℕ → List ℕ → List ℕ
cipher_of suite keys policy listed ssrc index = crypted_of policy listed (stream_of suite keys ssrc index) (header_stream_of suite keys ssrc index)
