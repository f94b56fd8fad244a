-- Document 02, CR 6: "payload, Cryptex and mask use it", and "packets never reach" its LARGE. What the first suite's cipher makes of a packet in the form that it has on the
-- wire, piece by piece what the keystream part gives; and the session keys.
use Rattle.std.specs.Prelude.{◌≡◌, Bool, true, false, List, ◌∷◌, ◌++◌, ℕ, ◌-◌, ◌^◌, ◌≤◌, ◌<◌, length, get_or, take, drop, replicate}
use Rattle.stretches.specs.Stretch.{Stretched}
use Rattle.keystream.specs.Stretch.{stretch_of}
use Rattle.aes_cm.specs.Derivation.{salt_for, derived_of}
use Rattle.rtp_header.specs.Header.{layout_of, block_of, header_number}
use Rattle.rtp_elements.specs.declared.element.Element.{Element}
use Rattle.rtp_elements.specs.Elements.{elements_of}
use Rattle.rtp_claims.specs.Claims.{covered}
use Rattle.policies.specs.declared.policy.Policy.{Policy}
use Rattle.policies.specs.declared.policy.Policy.TheVariants.{Mask}
use Rattle.policies.specs.declared.policy.Way.TheVariants.{Sending, Receiving}
use Rattle.policies.specs.Policies.{uses_mask}
use Rattle.policies.specs.Cryptex.{is_cryptex, tagged_of}
use Rattle.policies.specs.Judging.{judged_of}
use Rattle.bits.specs.Portion.{Bounds}
use Rattle.packet_cipher.specs.declared.keys.Keys.{Keys}
use Rattle.suites.specs.declared.suite.Suite.TheVariants.{CmHmac}
use Rattle.packet_cipher.specs.Cipher.{portion_of, cipher_of}
use Rattle.wire.specs.Wire.{given_back_of}

-- the header lies inside the packet, and the packet is small: so it is with whatever goes under the cipher in a call (`sent`, `received` below)
pub record Fits (p : List ℕ) : Type 0 where
  pub header : (layout_of p).payload ≤ length p
  pub size : length p ≤ 2048

-- ---- Policies 0 to 2: two neighbouring stretches. Under Cryptex the contributors, and then block and payload, with the extension header between them; else an
-- empty one, and the payload.

abbrev pub encrypted_of : Policy → List ℕ → Bounds
encrypted_of policy p = portion_of (is_cryptex policy (layout_of p)) (layout_of p)

abbrev pub stretched_front : Keys → ℕ → ℕ → Bounds → List ℕ → Stretched
stretched_front keys ssrc index r p = stretch_of keys.cipher keys.salt ssrc index 0 (take (r.stop - r.first) (drop r.first p))

abbrev pub stretched_back : Keys → ℕ → ℕ → Bounds → List ℕ → Stretched
stretched_back keys ssrc index r p = stretch_of keys.cipher keys.salt ssrc index (r.stop - r.first) (drop r.rest p)

pub record TwoStretches (keys : Keys) (policy : Policy) (listed : ℕ → Bool) (ssrc index : ℕ) (r : Bounds) (p : List ℕ) : Type 0 where
  pub front : (stretched_front keys ssrc index r p).number ≡ 0
  pub back : (stretched_back keys ssrc index r p).number ≡ 0
  pub bytes : cipher_of CmHmac keys policy listed ssrc index p
      ≡ take r.first p
      ++ ((stretched_front keys ssrc index r p).bytes ++ (take (r.rest - r.stop) (drop r.stop p) ++ (stretched_back keys ssrc index r p).bytes))

-- ---- Policy 3: the payload; each listed element of the block, with the header keystream from the byte on whose number is the place in the block where its data
-- begins; and nothing else.

abbrev pub stretched_payload : Keys → ℕ → ℕ → List ℕ → Stretched
stretched_payload keys ssrc index p = stretch_of keys.cipher keys.salt ssrc index 0 (drop (layout_of p).payload p)

abbrev pub stretched_element : Keys → ℕ → ℕ → Element → List ℕ → Stretched
stretched_element keys ssrc index e block = stretch_of keys.header_cipher keys.header_salt ssrc index e.begin (take e.length (drop e.begin block))

pub record UnderTheMask (keys : Keys) (listed : ℕ → Bool) (ssrc index : ℕ) (p q : List ℕ) : Type 0 where
  -- what stands before the block: fixed header, contributors, extension header
  pub head : (i : ℕ) → i < (layout_of p).block → get_or q i 0 ≡ get_or p i 0
  pub element : (before after : List Element) (e : Element) → elements_of (layout_of p).tag (block_of (layout_of p) p) ≡ before ++ (e ∷ after) → listed e.id ≡ true
      → ((stretched_element keys ssrc index e (block_of (layout_of p) p)).number ≡ 0)
      × (take e.length (drop e.begin (block_of (layout_of p) q)) ≡ (stretched_element keys ssrc index e (block_of (layout_of p) p)).bytes)
  -- every other byte of the block: element headers, padding, data of other elements, what is not read
  pub others : (k : ℕ) → k < length (block_of (layout_of p) p) → covered listed (elements_of (layout_of p).tag (block_of (layout_of p) p)) k ≡ false
      → get_or (block_of (layout_of p) q) k 0 ≡ get_or (block_of (layout_of p) p) k 0
  pub payload-number : (stretched_payload keys ssrc index p).number ≡ 0
  pub payload : drop (layout_of p).payload q ≡ (stretched_payload keys ssrc index p).bytes

-- ---- the claims

pub record PacketsAreStretches : Type 0 where
  pub portion : (keys : Keys) (policy : Policy) (listed : ℕ → Bool) (ssrc index : ℕ) (p : List ℕ) → uses_mask policy ≡ false → Fits p
      → TwoStretches keys policy listed ssrc index (encrypted_of policy p) p
  pub masked : (keys : Keys) (listed : ℕ → Bool) (ssrc index : ℕ) (p : List ℕ) → Fits p
      → UnderTheMask keys listed ssrc index p (cipher_of CmHmac keys Mask listed ssrc index p)
  -- What goes under the cipher fits, of every packet that is not refused with 2 to 7: on sending the form on the wire, on receiving the bytes before the tag. So no
  -- packet meets LARGE here.
  pub sent : (policy : Policy) (t : ℕ) (p : List ℕ) → ((i : ℕ) → get_or p i 0 < 256) → header_number (judged_of Sending policy t p) ≡ 0
      → Fits (tagged_of policy (given_back_of policy p))
  pub received : (policy : Policy) (t : ℕ) (w : List ℕ) → header_number (judged_of Receiving policy t w) ≡ 0 → Fits (take (length w - t) w)

-- A derived key of n bytes is the stretch of n zeros from the first byte on, under the master key (RFC 3711, 4.3.3).
pub record KeysAreStretches : Type 0 where
  pub derived : (key salt : List ℕ) (label n : ℕ) → n ≤ 2 ^ 20
      → stretch_of key (salt_for salt label) 0 0 0 (replicate n 0) ≡ record { number = 0; bytes = derived_of key salt label n }
