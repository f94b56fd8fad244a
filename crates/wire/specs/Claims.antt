-- What is claimed of the definitions themselves: what is sent is given back (demand 2).
use Rattle.std.specs.Prelude.{◌≡◌, Bool, true, ◌⊎◌, List, ℕ, ◌+◌, ◌≤◌, ◌<◌, length, get_or}
use Rattle.rtp_elements.specs.Elements.{whole_of}
use Rattle.rtp_header.specs.Header.{layout_of, block_of, header_number}
use Rattle.suites.specs.declared.suite.Suite.{Suite}
use Rattle.suites.specs.Suites.{tag_length_of}
use Rattle.packet_cipher.specs.declared.keys.Keys.{Keys}
use Rattle.policies.specs.declared.policy.Policy.{Policy}
use Rattle.policies.specs.declared.policy.Policy.TheVariants.{Cryptex, CryptexRequired}
use Rattle.policies.specs.declared.policy.Way.{Way}
use Rattle.policies.specs.declared.policy.Way.TheVariants.{Sending, Receiving}
use Rattle.wire.specs.Wire.{given_back_of, wire_by, restore_by, wire_of, restore_of, tag_fits}
use Rattle.policies.specs.Judging.{added_of, judged_of}
use Rattle.policies.specs.Policies.{uses_cryptex, uses_mask}
use Rattle.packet_cipher.specs.Cipher.{cipher_of}

-- What a cipher has to keep, on a packet in the form that it has on the wire: its length, the fixed header and the extension header, that it is undone and,
-- under the mask, the ELEMENT answer. Of the bytes that it changes nothing is said.
pub record Cipher (policy : Policy) (encrypt decrypt : List ℕ → List ℕ) : Type 0 where
  pub same_length : (q : List ℕ) → length (encrypt q) ≡ length q
  pub stays : (q : List ℕ) (i : ℕ) → i < (layout_of q).block → (i < 12) ⊎ ((layout_of q).extension ≤ i) → get_or (encrypt q) i 0 ≡ get_or q i 0
  pub undone : (q : List ℕ) → decrypt (encrypt q) ≡ q
  pub elements : uses_mask policy ≡ true → (q : List ℕ) → whole_of (layout_of q).tag (block_of (layout_of q) (encrypt q)) ≡ whole_of (layout_of q).tag (block_of (layout_of q) q)

-- w is what is sent for p, r what is given back for w: w is refused with none of 2 to 7, and r is p, with the empty block where Cryptex adds one
pub record RoundTrip (policy : Policy) (t : ℕ) (p w r : List ℕ) : Type 0 where
  pub accepted : header_number (judged_of Receiving policy t w) ≡ 0
  pub restored : r ≡ given_back_of policy p
  pub shorter : length r + t ≡ length w
  pub size : length w ≡ length p + added_of Sending policy t (layout_of p)
  pub long : 12 + t ≤ length w
  pub small : length w ≤ 2048
  -- the fixed header, with sequence number and SSRC, is sent as it is, but for the X bit in its first byte
  pub header : (i : ℕ) → 0 < i → i < 12 → get_or w i 0 ≡ get_or p i 0

-- for any cipher that keeps the laws, and any authenticator with tags of t bytes
pub record AnyCipher : Type 0 where
  pub back : (policy : Policy) (encrypt decrypt : List ℕ → List ℕ) → Cipher policy encrypt decrypt → (t : ℕ) (tag : List ℕ → List ℕ) (p : List ℕ)
      → ((m : List ℕ) → length (tag m) ≡ t)
      → ((i : ℕ) → get_or p i 0 < 256)
      → header_number (judged_of Sending policy t p) ≡ 0
      → RoundTrip policy t p (wire_by policy encrypt tag p) (restore_by policy decrypt t (wire_by policy encrypt tag p))

-- for every suite, under any keys, SSRC and index; t is the suite's
pub record SentIsGivenBack : Type 0 where
  pub lawful : (suite : Suite) (keys : Keys) (policy : Policy) (listed : ℕ → Bool) (ssrc index : ℕ)
      → Cipher policy (cipher_of suite keys policy listed ssrc index) (cipher_of suite keys policy listed ssrc index)
  pub back : (suite : Suite) (keys : Keys) (policy : Policy) (listed : ℕ → Bool) (ssrc index : ℕ) (p : List ℕ)
      → ((i : ℕ) → get_or p i 0 < 256)
      → header_number (judged_of Sending policy (tag_length_of suite) p) ≡ 0
      → RoundTrip policy (tag_length_of suite) p (wire_of suite keys policy listed ssrc index p)
      (restore_of suite keys policy listed ssrc index (wire_of suite keys policy listed ssrc index p))
  -- and its tag is the one that the receiver wants
  pub fits : (suite : Suite) (keys : Keys) (policy : Policy) (listed : ℕ → Bool) (ssrc index : ℕ) (p : List ℕ)
      → tag_fits suite keys policy ssrc index (wire_of suite keys policy listed ssrc index p) ≡ true

-- document 01: "Sending under 1 and 2 is the same."
pub record SendingAlike : Type 0 where
  pub judged : (t : ℕ) (p : List ℕ) → judged_of Sending CryptexRequired t p ≡ judged_of Sending Cryptex t p
  pub wire : (suite : Suite) (keys : Keys) (listed : ℕ → Bool) (ssrc index : ℕ) (p : List ℕ)
      → wire_of suite keys CryptexRequired listed ssrc index p ≡ wire_of suite keys Cryptex listed ssrc index p

-- Under 1 and 2 no refusal from 2 to 7 looks at the bytes of contributing sources, block or payload: elements in a Cryptex block are not read.
pub record CryptexLooksAtNone : Type 0 where
  pub judged : (way : Way) (policy : Policy) (t : ℕ) (p q : List ℕ) → uses_cryptex policy ≡ true → length q ≡ length p → get_or q 0 0 ≡ get_or p 0 0
      → ((layout_of p).x ≡ true → (i : ℕ) → (layout_of p).extension ≤ i → i < (layout_of p).extension + 4 → get_or q i 0 ≡ get_or p i 0)
      → judged_of way policy t q ≡ judged_of way policy t p
