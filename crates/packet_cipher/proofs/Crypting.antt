-- The cipher leaves the fixed header and the extension header alone, and undoes itself.
use mathlib.Core.Path.{◌≡◌, refl, sym, ap, ◌∙◌}
use mathlib.Core.Bool.{Bool, true, false, ◌&&◌}
use mathlib.Core.Logic.{◌⊎◌, inl, inr}
use mathlib.Core.List.{List}
use Prim.Native.Nat.{ℕ, ◌+◌, ◌-◌, ◌≤◌, ◌<◌, min}
use native.Mathlib.Omega.{arith}
use borrow.Author.Tests.{lt-ltb, le-ltb}
use lib.Dec.{ltb}
use lib.ListN.{length, get_or, take, drop, length-take}
use Rattle.bits.specs.Pick.{pick}
use Rattle.bits.specs.Xor.{◌⊕◌, xor_pad}
use Rattle.bits.proofs.Xor.{length-pad, pad-at, pad-twice, pad-ext, pad-stays}
use Rattle.aes_cm.proofs.Portions.{before-first, in-first, in-gap, past-gap}
use Rattle.rtp_header.specs.declared.header.Layout.{Layout}
use Rattle.rtp_elements.specs.Elements.{whole_of}
use Rattle.rtp_header.specs.Header.{layout_of, block_of}
use Rattle.rtp_elements.specs.Mask.{mask_of, masked_of, masked_pad}
use Rattle.rtp_elements.proofs.Walks.{masked-is}
use Rattle.rtp_claims.proofs.Alike.{masked-reads-alike}
use Rattle.policies.specs.declared.policy.Policy.{Policy}
use Rattle.policies.specs.declared.policy.Policy.TheVariants.{Plain, Cryptex, CryptexRequired, Mask}
use Rattle.packet_cipher.specs.Cipher.{portion_of, portion_pad_of, block_pad_of, pad_of, crypted_of}
use Rattle.policies.specs.Cryptex.{is_cryptex_tag, is_cryptex}
use Rattle.policies.specs.Policies.{uses_cryptex, uses_mask}
use Rattle.policies.proofs.Layouts.{apart, Sound, sound, layout-same}
use Rattle.packet_cipher.proofs.Pads.{take-pad, drop-pad}

pub and_left : (a b : Bool) → (a && b) ≡ true → a ≡ true
and_left true b e = refl
and_left false b e = apart cc

pub and_right : (a b : Bool) → (a && b) ≡ true → b ≡ true
and_right true b e = e
and_right false b e = apart cc

pub cryptex-x : (policy : Policy) (h : Layout) → is_cryptex policy h ≡ true → h.x ≡ true
cryptex-x policy h e = and_left h.x (is_cryptex_tag h.tag) (and_right (uses_cryptex policy) (h.x && is_cryptex_tag h.tag) e)

-- ---- places that no key touches

portion-quiet : (h : Layout) → Sound h → (c : Bool) → (c ≡ true → h.x ≡ true) → (stream : ℕ → ℕ) (i : ℕ) → i < h.block → (i < 12) ⊎ (h.extension ≤ i)
    → portion_pad_of (portion_of c h) stream i ≡ 0
portion-quiet h s true x stream i b (inl l) = before-first h.contributors h.extension h.block stream i (omega (arith, s.contributors))
portion-quiet h s true x stream i b (inr g) = in-gap h.contributors h.extension h.block stream i (omega (arith, s.contributors, s.count)) g b
portion-quiet h s false x stream i b q = before-first h.payload h.payload h.payload stream i (omega (arith, s.payload))

pick_same : {A : Type 0} (t : Bool) (a b c : A) → a ≡ c → b ≡ c → pick t a b ≡ c
pick_same true a b c e f = e
pick_same false a b c e f = f

module _ (policy : Policy) (listed : ℕ → Bool) (stream header-stream : ℕ → ℕ) where
  pad-quiet : (p : List ℕ) (i : ℕ) → i < (layout_of p).block → (i < 12) ⊎ ((layout_of p).extension ≤ i) → pad_of policy listed stream header-stream p i ≡ 0
  unfolding pad_of
  pad-quiet p i b u =
      pick_same (uses_mask policy && ltb i (layout_of p).payload) (block_pad_of listed header-stream p i)
      (portion_pad_of (portion_of (is_cryptex policy (layout_of p)) (layout_of p)) stream i) 0
      (simp (lt-ltb i (layout_of p).block b))
      (portion-quiet (layout_of p) (sound p) (is_cryptex policy (layout_of p)) (cryptex-x policy (layout_of p)) stream i b u)

  pub crypted-stays : (p : List ℕ) (i : ℕ) → i < (layout_of p).block → (i < 12) ⊎ ((layout_of p).extension ≤ i)
      → get_or (crypted_of policy listed stream header-stream p) i 0 ≡ get_or p i 0
  unfolding crypted_of
  crypted-stays p i b u = pad-stays (pad_of policy listed stream header-stream p) p i (pad-quiet p i b u)

  pub crypted-layout : (p : List ℕ) → layout_of (crypted_of policy listed stream header-stream p) ≡ layout_of p
  crypted-layout p =
      let s = sound p in
      layout-same p (crypted_of policy listed stream header-stream p) (crypted-stays p 0 (omega (arith, s.count, s.block)) (inl (omega arith)))
      (λ x i a b. crypted-stays p i (omega (arith, s.four x)) (inr a))

  pub crypted-length : (p : List ℕ) → length (crypted_of policy listed stream header-stream p) ≡ length p
  unfolding crypted_of
  crypted-length p = length-pad (pad_of policy listed stream header-stream p) p

  -- a part of the encrypted packet
  part-crypted : (a k : ℕ) (p : List ℕ)
      → take k (drop a (crypted_of policy listed stream header-stream p)) ≡ xor_pad (λ i. pad_of policy listed stream header-stream p (a + i)) (take k (drop a p))
  unfolding crypted_of
  part-crypted a k p =
      ap (take k) (drop-pad a (pad_of policy listed stream header-stream p) p)
      ∙ take-pad k (λ i. pad_of policy listed stream header-stream p (a + i)) (drop a p)

-- ---- without a mask

module _ (policy : Policy) (listed : ℕ → Bool) (stream header-stream : ℕ → ℕ) (p : List ℕ) (bare : uses_mask policy ≡ false) where
  bare-pad : (c : Bool) → is_cryptex policy (layout_of p) ≡ c → (i : ℕ) → pad_of policy listed stream header-stream p i ≡ portion_pad_of (portion_of c (layout_of p)) stream i
  unfolding pad_of
  bare-pad c e i = rw (bare, e)

  -- what is not in its Cryptex form is encrypted as under policy 0
  pub crypted-plain : is_cryptex policy (layout_of p) ≡ false → crypted_of policy listed stream header-stream p ≡ crypted_of Plain listed stream header-stream p
  unfolding crypted_of pad_of
  crypted-plain e = pad-ext (pad_of policy listed stream header-stream p) (pad_of Plain listed stream header-stream p) p (λ i b. bare-pad false e i)

  -- and what is, byte by byte: the keystream goes on behind the four bytes of the extension header
  module _ (says : is_cryptex policy (layout_of p) ≡ true) (i : ℕ) (inside : i < length p) where
    crypted-at : (k : ℕ) → portion_pad_of (portion_of true (layout_of p)) stream i ≡ stream k → get_or (crypted_of policy listed stream header-stream p) i 0 ≡ get_or p i 0 ⊕ stream k
    unfolding crypted_of
    crypted-at k e = pad-at (pad_of policy listed stream header-stream p) p i inside ∙ ap (λ (b : ℕ). get_or p i 0 ⊕ b) (bare-pad true says i ∙ e)

    pub contributors-crypted : 12 ≤ i → i < (layout_of p).extension → get_or (crypted_of policy listed stream header-stream p) i 0 ≡ get_or p i 0 ⊕ stream (i - 12)
    contributors-crypted a b =
        let s = sound p in
        crypted-at (i - 12) (rw s.contributors (in-first 12 (layout_of p).extension (layout_of p).block stream i a b))

    pub rest-crypted : (layout_of p).block ≤ i → get_or (crypted_of policy listed stream header-stream p) i 0 ≡ get_or p i 0 ⊕ stream (i - 16)
    rest-crypted b =
        let s = sound p in
        let f = s.four (cryptex-x policy (layout_of p) says) in
        let k : (layout_of p).extension - 12 + (i - (layout_of p).block) ≡ i - 16 = omega (arith, s.count) in
        crypted-at (i - 16)
        (rw s.contributors
        (past-gap 12 (layout_of p).extension (layout_of p).block stream i (omega (arith, s.count)) (omega arith) b ∙ ap stream k))

-- ---- the block under the mask

module _ (listed : ℕ → Bool) (stream header-stream : ℕ → ℕ) (p : List ℕ) where
  mask : List ℕ
  mask = mask_of listed (layout_of p).tag (block_of (layout_of p) p)

  inside : (i : ℕ) → i < length (block_of (layout_of p) p) → pad_of Mask listed stream header-stream p ((layout_of p).block + i) ≡ masked_pad mask header-stream i
  unfolding pad_of mask
  inside i b =
      let m : length (block_of (layout_of p) p) ≡ min ((layout_of p).payload - (layout_of p).block) (length (drop (layout_of p).block p))
      = length-take ((layout_of p).payload - (layout_of p).block) (drop (layout_of p).block p) in
      let e : (layout_of p).block + i - (layout_of p).block ≡ i = omega arith in
      simp (lt-ltb ((layout_of p).block + i) (layout_of p).payload (omega arith), le-ltb ((layout_of p).block + i) (layout_of p).block (omega arith), e)

  pub crypted-block : block_of (layout_of p) (crypted_of Mask listed stream header-stream p) ≡ masked_of listed (layout_of p).tag header-stream (block_of (layout_of p) p)
  unfolding mask
  crypted-block =
      part-crypted Mask listed stream header-stream (layout_of p).block ((layout_of p).payload - (layout_of p).block) p
      ∙ pad-ext (λ i. pad_of Mask listed stream header-stream p ((layout_of p).block + i)) (masked_pad mask header-stream) (block_of (layout_of p) p) inside
      ∙ sym (masked-is listed (layout_of p).tag header-stream (block_of (layout_of p) p))

  -- what stands before the block stays
  pub head-stays : (i : ℕ) → i < (layout_of p).block → get_or (crypted_of Mask listed stream header-stream p) i 0 ≡ get_or p i 0
  unfolding crypted_of pad_of
  head-stays i b =
      let s = sound p in
      pad-stays (pad_of Mask listed stream header-stream p) p i (simp (lt-ltb i (layout_of p).payload (omega (arith, s.payload)), lt-ltb i (layout_of p).block b))

  -- the payload has the packet's own keystream from its first byte on
  outside : (i : ℕ) → pad_of Mask listed stream header-stream p ((layout_of p).payload + i) ≡ stream i
  unfolding pad_of
  outside i =
      let n = (layout_of p).payload in
      let k : n - n + (n + i - n) ≡ i = omega arith in
      simp (le-ltb (n + i) n (omega arith)) (past-gap n n n stream (n + i) (omega arith) (omega arith) (omega arith) ∙ ap stream k)

  pub payload-crypted : drop (layout_of p).payload (crypted_of Mask listed stream header-stream p) ≡ xor_pad stream (drop (layout_of p).payload p)
  unfolding crypted_of
  payload-crypted =
      drop-pad (layout_of p).payload (pad_of Mask listed stream header-stream p) p
      ∙ pad-ext (λ i. pad_of Mask listed stream header-stream p ((layout_of p).payload + i)) stream (drop (layout_of p).payload p) (λ i b. outside i)

  crypted-mask : mask_of listed (layout_of p).tag (block_of (layout_of p) (crypted_of Mask listed stream header-stream p)) ≡ mask_of listed (layout_of p).tag (block_of (layout_of p) p)
  crypted-mask = ap (mask_of listed (layout_of p).tag) crypted-block ∙ masked-reads-alike.mask listed listed (layout_of p).tag header-stream (block_of (layout_of p) p)

  crypted-whole : whole_of (layout_of p).tag (block_of (layout_of p) (crypted_of Mask listed stream header-stream p)) ≡ whole_of (layout_of p).tag (block_of (layout_of p) p)
  crypted-whole = ap (whole_of (layout_of p).tag) crypted-block ∙ masked-reads-alike.whole listed (layout_of p).tag header-stream (block_of (layout_of p) p)

-- ---- undone

-- the pad is the same for the plain packet and the encrypted one
crypted-pad : (policy : Policy) (listed : ℕ → Bool) (stream header-stream : ℕ → ℕ) (p : List ℕ) (i : ℕ)
    → pad_of policy listed stream header-stream (crypted_of policy listed stream header-stream p) i ≡ pad_of policy listed stream header-stream p i
unfolding pad_of
crypted-pad Plain listed stream header-stream p i = rw (crypted-layout Plain listed stream header-stream p)
crypted-pad Cryptex listed stream header-stream p i = rw (crypted-layout Cryptex listed stream header-stream p)
crypted-pad CryptexRequired listed stream header-stream p i = rw (crypted-layout CryptexRequired listed stream header-stream p)
crypted-pad Mask listed stream header-stream p i = rw (crypted-layout Mask listed stream header-stream p, crypted-mask listed stream header-stream p)

-- for every list of bytes, whatever its header says
pub crypted-twice : (policy : Policy) (listed : ℕ → Bool) (stream header-stream : ℕ → ℕ) (p : List ℕ)
    → crypted_of policy listed stream header-stream (crypted_of policy listed stream header-stream p) ≡ p
unfolding crypted_of
crypted-twice policy listed stream header-stream p =
    pad-ext (pad_of policy listed stream header-stream (crypted_of policy listed stream header-stream p)) (pad_of policy listed stream header-stream p)
    (crypted_of policy listed stream header-stream p) (λ i b. crypted-pad policy listed stream header-stream p i)
    ∙ pad-twice (pad_of policy listed stream header-stream p) p

-- policies 1 and 2 encrypt alike
pub crypted-alike : (listed : ℕ → Bool) (stream header-stream : ℕ → ℕ) (p : List ℕ)
    → crypted_of CryptexRequired listed stream header-stream p ≡ crypted_of Cryptex listed stream header-stream p
unfolding crypted_of pad_of
crypted-alike listed stream header-stream p = refl

pub whole_by : (policy : Policy) (listed : ℕ → Bool) (stream header-stream : ℕ → ℕ) → uses_mask policy ≡ true → (p : List ℕ)
    → whole_of (layout_of p).tag (block_of (layout_of p) (crypted_of policy listed stream header-stream p)) ≡ whole_of (layout_of p).tag (block_of (layout_of p) p)
whole_by Plain listed stream header-stream e p = apart cc
whole_by Cryptex listed stream header-stream e p = apart cc
whole_by CryptexRequired listed stream header-stream e p = apart cc
whole_by Mask listed stream header-stream e p = crypted-whole listed stream header-stream p
