-- What is given back, beside the bytes that came.
use mathlib.Core.Path.{◌≡◌, refl, sym, ap, ◌∙◌}
use mathlib.Core.Bool.{Bool, true, false, ◌&&◌}
use mathlib.Core.Logic.{◌⊎◌, inl, inr}
use mathlib.Core.List.{List}
use Prim.Native.Nat.{ℕ, ◌+◌, ◌-◌, ◌≤◌, ◌<◌}
use native.Mathlib.Omega.{arith}
use lib.ListN.{length, get_or, take}
use Rattle.bits.specs.Xor.{◌⊕◌}
use Rattle.bits.proofs.Xor.{xor-twice}
use Rattle.rtp_header.specs.Header.{layout_of}
use Rattle.suites.specs.declared.suite.Suite.{Suite}
use Rattle.suites.specs.Suites.{tag_length_of}
use Rattle.packet_cipher.specs.declared.keys.Keys.{Keys}
use Rattle.packet_cipher.specs.Cipher.{stream_of, header_stream_of, cipher_of}
use Rattle.packet_cipher.proofs.Crypting.{crypted-length, crypted-layout, crypted-plain, cryptex-x, contributors-crypted, rest-crypted, and_left}
use Rattle.policies.specs.declared.policy.Policy.{Policy}
use Rattle.policies.specs.declared.policy.Policy.TheVariants.{Plain}
use Rattle.policies.specs.declared.policy.Way.TheVariants.{Receiving}
use Rattle.policies.specs.Policies.{uses_cryptex, uses_mask}
use Rattle.policies.specs.Cryptex.{is_cryptex_tag, is_cryptex, plain_tag, written16, untagged_of}
use Rattle.policies.proofs.Layouts.{sound}
use Rattle.packet_cipher.proofs.Tagging.{tag-plain}
use Rattle.wire.specs.Wire.{restore_of, tag_fits}
use Rattle.wire.proofs.Forms.{written-length, written-other}
use Rattle.wire.proofs.Wires.{restore-is}
use Rattle.wire.proofs.RoundTrips.{Passed, not-both}
use Rattle.wire.proofs.Sizes.{received-length, received-at, received-layout}
use Rattle.wire.proofs.Tagging.{is-untagged, not-untagged}

module _ (suite : Suite) (keys : Keys) (policy : Policy) (listed : ℕ → Bool) (ssrc index : ℕ) (w : List ℕ) (d : Passed Receiving policy (tag_length_of suite) w) where
  abbrev t : ℕ
  t = tag_length_of suite

  -- the bytes before the tag
  body : List ℕ
  body = take (length w - t) w

  body-length : length body ≡ length w - t
  unfolding body
  body-length = received-length t policy w d

  body_at : (i : ℕ) → i < length w - t → get_or body i 0 ≡ get_or w i 0
  unfolding body
  body_at = received-at t policy w d

  body-layout : layout_of body ≡ layout_of w
  unfolding body
  body-layout = received-layout t policy w d

  opened : List ℕ
  opened = cipher_of suite keys policy listed ssrc index body

  opened-layout : layout_of opened ≡ layout_of w
  unfolding opened
  opened-layout = crypted-layout policy listed (stream_of suite keys ssrc index) (header_stream_of suite keys ssrc index) body ∙ body-layout

  restored-is : restore_of suite keys policy listed ssrc index w ≡ untagged_of policy opened
  unfolding opened body
  restored-is = restore-is suite keys policy ssrc index listed w

  -- what is not in its Cryptex form is given back as under policy 0
  pub restored-plain : uses_mask policy ≡ false → is_cryptex policy (layout_of w) ≡ false → restore_of suite keys policy listed ssrc index w ≡ restore_of suite keys Plain listed ssrc index w
  unfolding opened body
  restored-plain bare e =
      restored-is ∙ sym (not-untagged opened (layout_of w) (sym opened-layout) policy e)
      ∙ crypted-plain policy listed (stream_of suite keys ssrc index) (header_stream_of suite keys ssrc index) body bare (rw body-layout e)
      ∙ not-untagged (cipher_of suite keys Plain listed ssrc index body) _ refl Plain refl
      ∙ sym (restore-is suite keys Plain ssrc index listed w)

  pub tagged-plain : is_cryptex policy (layout_of w) ≡ false → tag_fits suite keys policy ssrc index w ≡ tag_fits suite keys Plain ssrc index w
  unfolding tag_fits body
  tagged-plain e = rw (tag-plain suite keys policy ssrc index body (rw body-layout e))

  -- what is: its tag apart, each byte is XORed with the keystream
  module _ (says : is_cryptex policy (layout_of w) ≡ true) where
    abbrev restored : List ℕ
    restored = restore_of suite keys policy listed ssrc index w

    bare : uses_mask policy ≡ false
    bare = not-both policy (and_left (uses_cryptex policy) ((layout_of w).x && is_cryptex_tag (layout_of w).tag) says)

    written : restored ≡ written16 opened (layout_of w).extension (plain_tag (layout_of w).tag)
    written = restored-is ∙ sym (is-untagged opened (layout_of w) (sym opened-layout) policy _ says refl)

    pub restored-length : length restored ≡ length w - t
    unfolding opened
    restored-length =
        ap length written ∙ written-length opened (layout_of w).extension (plain_tag (layout_of w).tag)
        ∙ crypted-length policy listed (stream_of suite keys ssrc index) (header_stream_of suite keys ssrc index) body ∙ body-length

    restored_at : (i : ℕ) → i < length w - t → (i < (layout_of w).extension) ⊎ ((layout_of w).extension + 1 < i) → (k : ℕ)
        → get_or opened i 0 ≡ get_or body i 0 ⊕ stream_of suite keys ssrc index k → get_or w i 0 ≡ get_or restored i 0 ⊕ stream_of suite keys ssrc index k
    restored_at i b other k e =
        let r : get_or restored i 0 ≡ get_or w i 0 ⊕ stream_of suite keys ssrc index k
        = ap (λ (l : List ℕ). get_or l i 0) written ∙ written-other opened (layout_of w).extension (plain_tag (layout_of w).tag) i other
        ∙ e ∙ ap (λ (a : ℕ). a ⊕ stream_of suite keys ssrc index k) (body_at i b) in
        sym (ap (λ (a : ℕ). a ⊕ stream_of suite keys ssrc index k) r ∙ xor-twice (get_or w i 0) (stream_of suite keys ssrc index k))

    pub contributors-came : (i : ℕ) → 12 ≤ i → i < (layout_of w).extension → get_or w i 0 ≡ get_or restored i 0 ⊕ stream_of suite keys ssrc index (i - 12)
    unfolding opened
    contributors-came i a b =
        let s = sound w in
        let c : i < length w - t = omega (arith, s.block, s.payload, d.fits) in
        restored_at i c (inl b) (i - 12)
        (contributors-crypted policy listed (stream_of suite keys ssrc index) (header_stream_of suite keys ssrc index) body bare (rw body-layout says) i (omega (arith, body-length)) a (rw body-layout b))

    pub block-came : (i : ℕ) → (layout_of w).block ≤ i → i < (layout_of w).payload → get_or w i 0 ≡ get_or restored i 0 ⊕ stream_of suite keys ssrc index (i - 16)
    unfolding opened
    block-came i a b =
        let s = sound w in
        let c : i < length w - t = omega (arith, d.fits) in
        restored_at i c (inr (omega (arith, s.four (cryptex-x policy (layout_of w) says)))) (i - 16)
        (rest-crypted policy listed (stream_of suite keys ssrc index) (header_stream_of suite keys ssrc index) body bare (rw body-layout says) i (omega (arith, body-length)) (rw body-layout a))
