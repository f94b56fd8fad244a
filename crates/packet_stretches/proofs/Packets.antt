-- Payload, Cryptex, mask and derived keys as stretches of the keystream part.
use mathlib.Core.Path.{◌≡◌, refl, sym, ap, ap₂, ◌∙◌}
use mathlib.Core.Bool.{Bool, true, false}
use mathlib.Core.List.{List, ◌∷◌, ◌++◌}
use Prim.Native.Nat.{ℕ, ◌+◌, ◌-◌, ◌≤◌, ◌<◌, min}
use native.Mathlib.Omega.{arith}
use lib.ListN.{length, get_or, take, drop, replicate, length-take, length-drop, length-replicate}
use Rattle.bits.specs.Xor.{xor_pad}
use Rattle.bits.proofs.Xor.{pad-ext, pad-stays}
use Rattle.stretches.specs.Stretch.{keystream_end, stretch_by}
use Rattle.stretches.proofs.Parts.{served-bytes, served-number, part_length}
use Rattle.aes_counter.specs.Keystream.{keystream_of}
use Rattle.aes_cm.specs.Derivation.{salt_for, derived_of}
use Rattle.aes_cm.proofs.Pieces.{portion-pieces}
use Rattle.aes_cm.proofs.Derived.{derived-is}
use Rattle.rtp_header.specs.Header.{layout_of, block_of}
use Rattle.rtp_elements.specs.declared.element.Element.{Element}
use Rattle.rtp_elements.specs.Elements.{elements_of}
use Rattle.rtp_elements.specs.Mask.{mask_of, masked_pad, masked_of}
use Rattle.rtp_elements.proofs.Walks.{masked-is}
use Rattle.rtp_claims.specs.Claims.{covered}
use Rattle.rtp_claims.proofs.Covering.{mask-on-data}
use Rattle.rtp_claims.proofs.Members.{begins-inside, covered-in}
use Rattle.policies.specs.declared.policy.Policy.{Policy}
use Rattle.policies.specs.declared.policy.Policy.TheVariants.{Mask}
use Rattle.policies.specs.declared.policy.Way.TheVariants.{Sending, Receiving}
use Rattle.policies.specs.Cryptex.{is_cryptex, tagged_of}
use Rattle.policies.specs.Policies.{uses_mask}
use Rattle.policies.proofs.Layouts.{sound}
use Rattle.packet_cipher.specs.declared.keys.Keys.{Keys}
use Rattle.suites.specs.declared.suite.Suite.TheVariants.{CmHmac}
use Rattle.packet_cipher.specs.Cipher.{stream_of, header_stream_of, cipher_of}
use Rattle.packet_cipher.proofs.Pads.{take-pad, drop-pad}
use Rattle.packet_cipher.proofs.Passes.{portion-order, one-pass}
use Rattle.packet_cipher.proofs.Crypting.{crypted-block, head-stays, payload-crypted}
use Rattle.wire.specs.Wire.{given_back_of}
use Rattle.wire.proofs.RoundTrips.{passed}
use Rattle.wire.proofs.Sizes.{sent-fits, received-fits}
use Rattle.packet_stretches.specs.Claims.{Fits, encrypted_of, TwoStretches, UnderTheMask, PacketsAreStretches, KeysAreStretches}

-- ---- policies 0 to 2

two-stretches : (keys : Keys) (policy : Policy) (listed : ℕ → Bool) (ssrc index : ℕ) (p : List ℕ) → uses_mask policy ≡ false → Fits p
    → TwoStretches keys policy listed ssrc index (encrypted_of policy p) p
two-stretches keys policy listed ssrc index p bare fits =
    let r = encrypted_of policy p in
    let stream = stream_of CmHmac keys ssrc index in
    let o = portion-order (is_cryptex policy (layout_of p)) (layout_of p) (length p) (sound p) fits.header in
    let n₁ : length (take (r.stop - r.first) (drop r.first p)) ≡ r.stop - r.first = part_length r.first r.stop p (omega (arith, o.1.0, o.1.1)) in
    let n₂ : length (drop r.rest p) ≡ length p - r.rest = length-drop r.rest p in
    record {
      front = served-number stream 0 (take (r.stop - r.first) (drop r.first p)) (omega (arith, n₁, o.1.0, o.1.1, fits.size));
      back = served-number stream (r.stop - r.first) (drop r.rest p) (omega (arith, n₂, o.0, o.1.0, o.1.1, fits.size));
      bytes =
          sym (one-pass listed stream (header_stream_of CmHmac keys ssrc index) p policy bare)
          ∙ portion-pieces stream r.first r.stop r.rest p o.0 o.1.0 o.1.1 (omega (arith, fits.size));
    }

-- ---- policy 3

-- the data of a listed element, in a block that is masked
module _ (listed : ℕ → Bool) (tag : ℕ) (pad : ℕ → ℕ) (block : List ℕ) (before after : List Element) (e : Element)
    (among : elements_of tag block ≡ before ++ (e ∷ after)) (is : listed e.id ≡ true) where
  mask-here : (k : ℕ) → k < e.length → e.begin + k < length block → masked_pad (mask_of listed tag block) pad (e.begin + k) ≡ pad (e.begin + k)
  mask-here k b h =
      let c : covered listed (elements_of tag block) (e.begin + k) ≡ true = rw among (covered-in listed before after e (e.begin + k) (omega arith) (omega arith) is) in
      let m : get_or (mask_of listed tag block) (e.begin + k) 0 ≡ 0xFF = mask-on-data.bytes listed tag block (e.begin + k) h ∙ rw c in
      rw m

  element-masked : take e.length (drop e.begin (masked_of listed tag pad block)) ≡ xor_pad (λ k. pad (e.begin + k)) (take e.length (drop e.begin block))
  element-masked =
      let part = take e.length (drop e.begin block) in
      let f = masked_pad (mask_of listed tag block) pad in
      let n : length part ≡ min e.length (length (drop e.begin block)) = length-take e.length (drop e.begin block) in
      let d : length (drop e.begin block) ≡ length block - e.begin = length-drop e.begin block in
      ap (λ (l : List ℕ). take e.length (drop e.begin l)) (masked-is listed tag pad block)
      ∙ ap (take e.length) (drop-pad e.begin f block)
      ∙ take-pad e.length (λ k. f (e.begin + k)) (drop e.begin block)
      ∙ pad-ext (λ k. f (e.begin + k)) (λ k. pad (e.begin + k)) part (λ k b. mask-here k (omega arith) (omega arith))

-- and every byte that no listed element covers
other-masked : (listed : ℕ → Bool) (tag : ℕ) (pad : ℕ → ℕ) (block : List ℕ) (k : ℕ) → k < length block → covered listed (elements_of tag block) k ≡ false
    → get_or (masked_of listed tag pad block) k 0 ≡ get_or block k 0
other-masked listed tag pad block k h c =
    let m : get_or (mask_of listed tag block) k 0 ≡ 0x00 = mask-on-data.bytes listed tag block k h ∙ rw c in
    ap (λ (l : List ℕ). get_or l k 0) (masked-is listed tag pad block) ∙ pad-stays (masked_pad (mask_of listed tag block) pad) block k (rw m)

under-the-mask : (keys : Keys) (listed : ℕ → Bool) (ssrc index : ℕ) (p : List ℕ) → Fits p → UnderTheMask keys listed ssrc index p (cipher_of CmHmac keys Mask listed ssrc index p)
under-the-mask keys listed ssrc index p fits =
    let h = layout_of p in
    let block = block_of h p in
    let stream = stream_of CmHmac keys ssrc index in
    let header-stream = header_stream_of CmHmac keys ssrc index in
    let l = drop h.payload p in
    let n : length l ≡ length p - h.payload = length-drop h.payload p in
    let small : 0 + length l ≤ keystream_end = omega (arith, fits.size) in
    let whole : block_of h (cipher_of CmHmac keys Mask listed ssrc index p) ≡ masked_of listed h.tag header-stream block = crypted-block listed stream header-stream p in
    record {
      head = head-stays listed stream header-stream p;
      element =
          λ before after e among is.
          let part = take e.length (drop e.begin block) in
          let b : length block ≡ h.payload - h.block = part_length h.block h.payload p fits.header in
          let ends : e.begin + length part ≤ keystream_end =
          omega (arith, length-take e.length (drop e.begin block), length-drop e.begin block, b, begins-inside h.tag block before after e among, fits.header, fits.size) in (
            served-number header-stream e.begin part ends,
            ap (λ (m : List ℕ). take e.length (drop e.begin m)) whole
                ∙ element-masked listed h.tag header-stream block before after e among is
                ∙ sym (served-bytes header-stream e.begin part ends),
          );
      others = λ k b c. ap (λ (m : List ℕ). get_or m k 0) whole ∙ other-masked listed h.tag header-stream block k b c;
      payload-number = served-number stream 0 l small;
      payload =
          payload-crypted listed stream header-stream p
          ∙ pad-ext stream (λ k. stream (0 + k)) l (λ k b. ap stream (omega arith))
          ∙ sym (served-bytes stream 0 l small);
    }

-- ---- whatever goes under the cipher

fits-of : (p : List ℕ) → ((layout_of p).payload ≤ length p) × (length p ≤ 2048) → Fits p
fits-of p d = record { header = d.0; size = d.1 }

pub packets-are-stretches : PacketsAreStretches
packets-are-stretches =
    record {
      portion = two-stretches;
      masked = under-the-mask;
      sent = λ policy t p bytes e. fits-of (tagged_of policy (given_back_of policy p)) (sent-fits t policy p bytes (passed Sending policy t p e));
      received = λ policy t w e. fits-of (take (length w - t) w) (received-fits t policy w (passed Receiving policy t w e));
    }

-- ---- derived keys

pub keys-are-stretches : KeysAreStretches
keys-are-stretches =
    record {
      derived =
          λ key salt label n h.
          let l : List ℕ = replicate n 0 in
          let e : length l ≡ n = length-replicate n 0 in
          let stream = keystream_of key (salt_for salt label) 0 0 in
          let again : l ≡ replicate (length l) 0 = ap (λ (m : ℕ). replicate m 0) (sym e) in
          ap₂ (λ (a : ℕ) (b : List ℕ). record { number = a; bytes = b }) (served-number stream 0 l (omega arith))
          (derived-is key salt label l (stretch_by stream 0 l).bytes again (omega arith) refl ∙ ap (derived_of key salt label) e);
    }
