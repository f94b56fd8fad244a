-- The cipher as the code's passes: over a portion, and after that, under the mask, over the block.
use mathlib.Core.Path.{◌≡◌, refl, ap, ◌∙◌}
use mathlib.Core.Bool.{Bool, true, false}
use mathlib.Core.Logic.{◌⊎◌, inl, inr}
use mathlib.Core.List.{List, ◌++◌}
use Prim.Native.Nat.{ℕ, ◌+◌, ◌-◌, ◌≤◌, min}
use native.Mathlib.Decide.{dec_lt}
use native.Mathlib.Omega.{arith}
use borrow.Author.Tests.{lt-ltb, le-ltb}
use lib.ListN.{length, take, drop, length-take, length-drop}
use lib.Seq.{length-take-le}
use Rattle.bits.specs.Xor.{xor_pad}
use Rattle.bits.proofs.Xor.{length-pad, pad-ext, pad-none}
use Rattle.aes_cm.proofs.Portions.{before-first}
use Rattle.stretches.specs.Stretch.{stretch_pad}
use Rattle.stretches.proofs.Stretches.{pad-join, at_before, at-past, at_in, stretch-part}
use Rattle.rtp_header.specs.declared.header.Layout.{Layout}
use Rattle.rtp_elements.specs.Elements.{whole_of}
use Rattle.rtp_header.specs.Header.{layout_of, block_of}
use Rattle.rtp_elements.specs.Mask.{mask_of, masked_pad, masked_of}
use Rattle.rtp_elements.proofs.Walks.{masked-is}
use Rattle.bits.specs.Portion.{Bounds}
use Rattle.policies.specs.declared.policy.Policy.{Policy}
use Rattle.policies.specs.declared.policy.Policy.TheVariants.{Plain, Cryptex, CryptexRequired, Mask}
use Rattle.packet_cipher.specs.Cipher.{portion_of, portion_pad_of, pad_of, crypted_of}
use Rattle.policies.specs.Cryptex.{is_cryptex}
use Rattle.policies.specs.Judging.{elements_fit}
use Rattle.policies.specs.Policies.{uses_mask}
use Rattle.policies.proofs.Layouts.{apart, Sound, sound}
use Rattle.packet_cipher.proofs.Pads.{take-pad, drop-pad}

pub sound-read : (p : List ℕ) (h : Layout) → h ≡ layout_of p → Sound h
sound-read p h e = rw e (sound p)

pub whole-block : (policy : Policy) (h : Layout) (p : List ℕ) → uses_mask policy ≡ true → elements_fit policy h p ≡ true → whole_of h.tag (block_of h p) ≡ true
whole-block policy h p m e = rw m at e

-- the mask and Cryptex do not meet
not-cryptex : (policy : Policy) (h : Layout) → uses_mask policy ≡ true → is_cryptex policy h ≡ false
not-cryptex Plain h e = refl
not-cryptex Cryptex h e = apart cc
not-cryptex CryptexRequired h e = apart cc
not-cryptex Mask h e = refl

-- the portion lies in order within the packet
pub portion-order : (c : Bool) (h : Layout) (n : ℕ) → Sound h → h.payload ≤ n
    → ((portion_of c h).first ≤ (portion_of c h).stop) × (((portion_of c h).stop ≤ (portion_of c h).rest) × ((portion_of c h).rest ≤ n))
portion-order true h n s f = omega (arith, s.contributors, s.count, s.block, s.payload)
portion-order false h n s f = omega arith

-- so that under the mask the packet's own keystream is the payload's
pub payload-only : (policy : Policy) (h : Layout) (stream : ℕ → ℕ) (p : List ℕ) → uses_mask policy ≡ true → (c : Bool) (r : Bounds) (q : List ℕ) → c ≡ is_cryptex policy h
    → r ≡ portion_of c h → q ≡ xor_pad (portion_pad_of r stream) p → q ≡ xor_pad (portion_pad_of (portion_of false h) stream) p
payload-only policy h stream p m c r q ec er eq =
    eq ∙ ap (λ (a : Bounds). xor_pad (portion_pad_of a stream) p) (er ∙ ap (λ (b : Bool). portion_of b h) (ec ∙ not-cryptex policy h m))

-- q is the packet once its payload is encrypted: that keystream leaves the block as it is
module _ (h : Layout) (stream : ℕ → ℕ) (p q : List ℕ) (e : q ≡ xor_pad (portion_pad_of (portion_of false h) stream) p) where
  block-stays : block_of h q ≡ block_of h p
  block-stays =
      let m : length (block_of h p) ≡ min (h.payload - h.block) (length (drop h.block p)) = length-take (h.payload - h.block) (drop h.block p) in
      let pad = portion_pad_of (portion_of false h) stream in
      ap (block_of h) e ∙ ap (take (h.payload - h.block)) (drop-pad h.block pad p)
      ∙ take-pad (h.payload - h.block) (λ i. pad (h.block + i)) (drop h.block p)
      ∙ pad-none (λ i. pad (h.block + i)) (block_of h p) (λ i b. before-first h.payload h.payload h.payload stream (h.block + i) (omega arith))

  pub whole-stays : whole_of h.tag (block_of h p) ≡ true → whole_of h.tag (block_of h q) ≡ true
  whole-stays w = ap (whole_of h.tag) block-stays ∙ w

  pub size-stays : Sound h → h.payload ≤ length p → length (block_of h q) ≡ h.payload - h.block
  size-stays s f = ap length block-stays ∙ length-take-le (h.payload - h.block) (drop h.block p) (simp length-drop (omega (arith, s.payload)))

module _ (listed : ℕ → Bool) (stream header-stream : ℕ → ℕ) (p : List ℕ) where
  pub one-pass : (policy : Policy) → uses_mask policy ≡ false
      → xor_pad (portion_pad_of (portion_of (is_cryptex policy (layout_of p)) (layout_of p)) stream) p ≡ crypted_of policy listed stream header-stream p
  unfolding crypted_of pad_of
  one-pass policy m =
      pad-ext (portion_pad_of (portion_of (is_cryptex policy (layout_of p)) (layout_of p)) stream) (pad_of policy listed stream header-stream p) p (λ i b. rw m)

  -- only one policy uses the mask
  pub under-mask : (policy : Policy) → uses_mask policy ≡ true → crypted_of Mask listed stream header-stream p ≡ crypted_of policy listed stream header-stream p
  under-mask Plain e = apart cc
  under-mask Cryptex e = apart cc
  under-mask CryptexRequired e = apart cc
  under-mask Mask e = refl

  block_pad : ℕ → ℕ
  block_pad = masked_pad (mask_of listed (layout_of p).tag (block_of (layout_of p) p)) header-stream

  both-passes : (i : ℕ)
      → ((portion_pad_of (portion_of false (layout_of p)) stream i ≡ 0)
      × (stretch_pad (layout_of p).block (layout_of p).payload 0 block_pad i ≡ pad_of Mask listed stream header-stream p i))
      ⊎ ((stretch_pad (layout_of p).block (layout_of p).payload 0 block_pad i ≡ 0)
      × (portion_pad_of (portion_of false (layout_of p)) stream i ≡ pad_of Mask listed stream header-stream p i))
  unfolding pad_of block_pad
  both-passes i =
      let s = sound p in
      elim (dec_lt i (layout_of p).payload) [
        | yes u ↦ elim (dec_lt i (layout_of p).block) [
          | yes v ↦ inl (
            before-first (layout_of p).payload (layout_of p).payload (layout_of p).payload stream i u,
            at_before (layout_of p).block (layout_of p).payload 0 block_pad i v ∙ simp (lt-ltb i (layout_of p).payload u, lt-ltb i (layout_of p).block v),
          )
          | no v ↦ inl (
            before-first (layout_of p).payload (layout_of p).payload (layout_of p).payload stream i u,
            at_in (layout_of p).block (layout_of p).payload 0 block_pad i (i - (layout_of p).block) (omega arith) u (omega arith)
                ∙ simp (lt-ltb i (layout_of p).payload u, le-ltb i (layout_of p).block (omega arith)),
          )
        ]
        | no u ↦ inr (
          at-past (layout_of p).block (layout_of p).payload 0 block_pad i (omega (arith, s.payload)) (omega arith),
          simp (le-ltb i (layout_of p).payload (omega arith)),
        )
      ]

  -- the packet once its payload is encrypted, whose block is lent and masked
  module _ (fits : (layout_of p).payload ≤ length p) (q ys : List ℕ) (e : q ≡ xor_pad (portion_pad_of (portion_of false (layout_of p)) stream) p)
      (m : ys ≡ masked_of listed (layout_of p).tag header-stream (block_of (layout_of p) q)) where
    masked : take (layout_of p).block q ++ (ys ++ drop ((layout_of p).payload - (layout_of p).block) (drop (layout_of p).block q))
        ≡ xor_pad (stretch_pad (layout_of p).block (layout_of p).payload 0 block_pad) q
    unfolding block_pad
    masked =
        let s = sound p in
        let n : length q ≡ length p = ap length e ∙ length-pad (portion_pad_of (portion_of false (layout_of p)) stream) p in
        stretch-part (layout_of p).block (layout_of p).payload 0 block_pad q ys s.payload (omega arith)
        (m ∙ masked-is listed (layout_of p).tag header-stream (block_of (layout_of p) q)
        ∙ ap (λ (l : List ℕ). xor_pad (masked_pad (mask_of listed (layout_of p).tag l) header-stream) (block_of (layout_of p) q)) (block-stays (layout_of p) stream p q e)
        ∙ pad-ext block_pad (λ k. block_pad (0 + k)) (block_of (layout_of p) q) (λ k h. ap block_pad (omega arith)))

    pub two-passes : take (layout_of p).block q ++ (ys ++ drop ((layout_of p).payload - (layout_of p).block) (drop (layout_of p).block q))
        ≡ crypted_of Mask listed stream header-stream p
    unfolding crypted_of
    two-passes =
        masked ∙ ap (xor_pad (stretch_pad (layout_of p).block (layout_of p).payload 0 block_pad)) e
        ∙ pad-join (portion_pad_of (portion_of false (layout_of p)) stream) (stretch_pad (layout_of p).block (layout_of p).payload 0 block_pad) (pad_of Mask listed stream header-stream p) p (λ i b. both-passes i)

-- ---- as the code has it: h is the layout that was read
module _ (listed : ℕ → Bool) (stream header-stream : ℕ → ℕ) (p : List ℕ) (h : Layout) (read : h ≡ layout_of p) where
  -- r is the portion, q what came out
  pub crypted-plain : (policy : Policy) → uses_mask policy ≡ false → (c : Bool) (r : Bounds) (q : List ℕ) → c ≡ is_cryptex policy h → r ≡ portion_of c h
      → q ≡ xor_pad (portion_pad_of r stream) p → q ≡ crypted_of policy listed stream header-stream p
  crypted-plain policy m c r q ec er eq = eq ∙ rw (er, ec, read) (one-pass listed stream header-stream p policy m)

  -- q is the packet once its payload is encrypted, ys its block once that is masked
  pub crypted-masked : h.payload ≤ length p → (q ys : List ℕ) → q ≡ xor_pad (portion_pad_of (portion_of false h) stream) p
      → ys ≡ masked_of listed h.tag header-stream (block_of h q)
      → take h.block q ++ (ys ++ drop (h.payload - h.block) (drop h.block q)) ≡ crypted_of Mask listed stream header-stream p
  crypted-masked fits q ys e m = rw read (two-passes listed stream header-stream p (rw read at fits) q ys (rw read at e) (rw read at m))
