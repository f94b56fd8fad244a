-- GCM's one pass over a packet is its cipher, under every policy: where there is a mask, nothing is hidden by it.
use mathlib.Core.Path.{◌≡◌, refl, sym, ap, ◌∙◌}
use mathlib.Core.Bool.{Bool, true, false}
use mathlib.Core.List.{List}
use Prim.Native.Nat.{ℕ, ◌-◌}
use native.Mathlib.Decide.{dec_lt}
use native.Mathlib.Omega.{arith}
use borrow.Author.Tests.{lt-ltb, le-ltb}
use lib.Dec.{eqb, ltb}
use lib.ListN.{get_or}
use Rattle.bits.specs.Pick.{pick}
use Rattle.bits.specs.Xor.{xor_pad}
use Rattle.bits.proofs.Xor.{pad-ext}
use Rattle.aes_cm.proofs.Portions.{before-first}
use Rattle.suites.specs.declared.suite.Suite.TheVariants.{Gcm}
use Rattle.rtp_header.specs.declared.header.Layout.{Layout}
use Rattle.rtp_header.specs.Header.{layout_of, block_of}
use Rattle.rtp_elements.specs.Mask.{mask_of}
use Rattle.policies.specs.declared.policy.Policy.{Policy}
use Rattle.policies.specs.declared.policy.Policy.TheVariants.{Plain, Cryptex, CryptexRequired, Mask}
use Rattle.policies.specs.Cryptex.{is_cryptex}
use Rattle.bits.specs.Portion.{Bounds}
use Rattle.packet_cipher.specs.declared.keys.Keys.{Keys}
use Rattle.packet_cipher.specs.Cipher.{portion_of, portion_pad_of, block_pad_of, pad_of, crypted_of, stream_of, header_stream_of, cipher_of}
use Rattle.packet_cipher.specs.Tag.{encrypted_in}
use Rattle.packet_cipher.proofs.Crypting.{crypted-layout}

module _ (listed : ℕ → Bool) (stream : ℕ → ℕ) (p : List ℕ) where
  either-none : (b : Bool) → ◌≡◌ {A = ℕ} (pick b 0 0) 0
  either-none true = refl
  either-none false = refl

  not-masked : (i : ℕ) → block_pad_of listed (λ k. 0) p i ≡ 0
  not-masked i =
      ap (λ (x : ℕ). pick (ltb i (layout_of p).block) 0 x)
      (either-none (eqb (get_or (mask_of listed (layout_of p).tag (block_of (layout_of p) p)) (i - (layout_of p).block) 0x00) 0xFF))
      ∙ either-none (ltb i (layout_of p).block)

  under-mask : (i : ℕ) → portion_pad_of (portion_of false (layout_of p)) stream i ≡ pad_of Mask listed stream (λ k. 0) p i
  unfolding pad_of
  under-mask i =
      elim (dec_lt i (layout_of p).payload) [
        | yes h ↦ before-first (layout_of p).payload (layout_of p).payload (layout_of p).payload stream i h ∙ sym (simp (lt-ltb i (layout_of p).payload h) (not-masked i))
        | no h ↦ sym (simp (le-ltb i (layout_of p).payload (omega arith)))
      ]

  same-pad : (policy : Policy) (i : ℕ) → portion_pad_of (portion_of (is_cryptex policy (layout_of p)) (layout_of p)) stream i ≡ pad_of policy listed stream (λ k. 0) p i
  unfolding pad_of
  same-pad Plain i = refl
  same-pad Cryptex i = refl
  same-pad CryptexRequired i = refl
  same-pad Mask i = under-mask i

  one-pass : (policy : Policy) → xor_pad (portion_pad_of (portion_of (is_cryptex policy (layout_of p)) (layout_of p)) stream) p ≡ crypted_of policy listed stream (λ k. 0) p
  unfolding crypted_of
  one-pass policy =
      pad-ext (portion_pad_of (portion_of (is_cryptex policy (layout_of p)) (layout_of p)) stream) (pad_of policy listed stream (λ k. 0) p) p (λ i b. same-pad policy i)

-- as the code has it: h is the layout that was read, c whether it is Cryptex, r the portion
module _ (keys : Keys) (policy : Policy) (ssrc index : ℕ) (p : List ℕ) (h : Layout) (read : h ≡ layout_of p) (c : Bool) (is : c ≡ is_cryptex policy h)
    (r : Bounds) (er : r ≡ portion_of c h) where
  pub portion-is : r ≡ portion_of (is_cryptex policy (layout_of p)) (layout_of p)
  portion-is = er ∙ rw (is, read)

  pub gcm-pass : (listed : ℕ → Bool) (q : List ℕ) → q ≡ xor_pad (portion_pad_of r (stream_of Gcm keys ssrc index)) p → q ≡ cipher_of Gcm keys policy listed ssrc index p
  gcm-pass listed q e =
      e ∙ ap (λ (x : Bounds). xor_pad (portion_pad_of x (stream_of Gcm keys ssrc index)) p) portion-is ∙ one-pass listed (stream_of Gcm keys ssrc index) p policy

  -- which leaves its layout, and so the portion
  pub sealed-portion : (q : List ℕ) → q ≡ xor_pad (portion_pad_of r (stream_of Gcm keys ssrc index)) p → r ≡ encrypted_in policy q
  sealed-portion q e =
      let l : layout_of q ≡ layout_of p =
      ap layout_of (gcm-pass (λ k. false) q e) ∙ crypted-layout policy (λ k. false) (stream_of Gcm keys ssrc index) (header_stream_of Gcm keys ssrc index) p in
      portion-is ∙ rw l
