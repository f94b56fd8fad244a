-- A packet under GCM, beside algorithm 4.
use mathlib.Core.Path.{◌≡◌, refl, sym, ap, ◌∙◌}
use mathlib.Core.Bool.{Bool, true, false}
use mathlib.Core.List.{List, ◌++◌, append-nil}
use Prim.Native.Nat.{ℕ, ◌+◌, ◌-◌, ◌*◌, ◌≤◌}
use native.Mathlib.Omega.{arith}
use lib.ListN.{length, take, drop}
use Rattle.rtp_header.specs.Header.{count_of, layout_of}
use Rattle.policies.specs.declared.policy.Policy.{Policy}
use Rattle.policies.specs.Cryptex.{is_cryptex}
use Rattle.policies.proofs.Layouts.{sound, layout-extension}
use Rattle.suites.specs.declared.suite.Suite.TheVariants.{Gcm}
use Rattle.gcm_hash.specs.Portion.{outside_of, inside_of}
use Rattle.gcm.specs.Gcm.{crypt_of}
use Rattle.gcm.specs.Steps.{sealed_of}
use Rattle.gcm.proofs.InPlace.{inside_is, outside-is}
use Rattle.bits.specs.Portion.{Bounds}
use Rattle.packet_cipher.specs.declared.keys.Keys.{Keys}
use Rattle.packet_cipher.specs.Cipher.{packet_iv, stream_of, cipher_of}
use Rattle.packet_cipher.specs.Tag.{encrypted_in, associated_data, cipher_text}
use Rattle.packet_cipher.proofs.Crypting.{cryptex-x}
use Rattle.packet_cipher.proofs.Passes.{portion-order}
use Rattle.packet_cipher.proofs.GcmPass.{gcm-pass, sealed-portion}
use Rattle.gcm_packets.specs.Claims.{PacketsAreGcm}

module _ (keys : Keys) (policy : Policy) (listed : ℕ → Bool) (ssrc index : ℕ) (p : List ℕ) (fits : (layout_of p).payload ≤ length p) where
  abbrev r : Bounds
  r = encrypted_in policy p

  sealed : List ℕ
  sealed = sealed_of keys.cipher (packet_iv keys ssrc index) r.first r.stop r.rest p

  is-cipher : sealed ≡ cipher_of Gcm keys policy listed ssrc index p
  unfolding sealed
  is-cipher = gcm-pass keys policy ssrc index p (layout_of p) refl (is_cryptex policy (layout_of p)) refl r refl listed sealed refl

  same-portion : r ≡ encrypted_in policy sealed
  unfolding sealed
  same-portion = sealed-portion keys policy ssrc index p (layout_of p) refl (is_cryptex policy (layout_of p)) refl r refl sealed refl

  order : (r.first ≤ r.stop) × ((r.stop ≤ r.rest) × (r.rest ≤ length p))
  order = portion-order (is_cryptex policy (layout_of p)) (layout_of p) (length p) (sound p) fits

  pub text : cipher_text policy (cipher_of Gcm keys policy listed ssrc index p) ≡ crypt_of keys.cipher (packet_iv keys ssrc index) (cipher_text policy p)
  unfolding sealed
  text =
      ap (cipher_text policy) (sym is-cipher) ∙ ap (λ (x : Bounds). inside_of x.first x.stop x.rest sealed) (sym same-portion)
      ∙ inside_is p r.first r.stop r.rest (stream_of Gcm keys ssrc index) order.0 order.1.0 order.1.1

  pub kept : associated_data policy (cipher_of Gcm keys policy listed ssrc index p) ≡ associated_data policy p
  unfolding sealed
  kept =
      ap (associated_data policy) (sym is-cipher) ∙ ap (λ (x : Bounds). outside_of x.first x.stop x.rest sealed) (sym same-portion)
      ∙ outside-is p r.first r.stop r.rest (stream_of Gcm keys ssrc index) order.0 order.1.0 order.1.1

pub plain : (policy : Policy) (p : List ℕ) → is_cryptex policy (layout_of p) ≡ false → associated_data policy p ≡ take (layout_of p).payload p
plain policy p e =
    let n = (layout_of p).payload in
    let z : n - n ≡ 0 = omega arith in
    rw (e, z) (append-nil (take n p))

pub cryptex : (policy : Policy) (p : List ℕ) → is_cryptex policy (layout_of p) ≡ true → associated_data policy p ≡ take 12 p ++ take 4 (drop (12 + 4 * count_of p) p)
cryptex policy p e =
    let s = sound p in
    let f = s.four (cryptex-x policy (layout_of p) e) in
    let k : (layout_of p).block - (layout_of p).extension ≡ 4 = omega arith in
    rw (e, s.contributors, k, layout-extension p)

pub packets-are-gcm : PacketsAreGcm
packets-are-gcm = record { text = text; kept = kept; plain = plain; cryptex = cryptex }
