-- The wire bytes as body and tag.
use mathlib.Core.Path.{◌≡◌, refl, sym, ◌∙◌}
use mathlib.Core.Bool.{Bool, true}
use mathlib.Core.List.{List, ◌++◌}
use Prim.Native.Nat.{ℕ, ◌+◌, ◌-◌, ◌≤◌}
use native.Mathlib.Omega.{arith}
use lib.ListN.{length, take, drop, length-append}
use lib.Seq.{take_at, drop_at}
use Rattle.tags.specs.Tag.{same_of}
use Rattle.tags.proofs.Tags.{same-itself}
use Rattle.packet_cipher.specs.declared.keys.Keys.{Keys}
use Rattle.packet_cipher.specs.Cipher.{cipher_of}
use Rattle.packet_cipher.specs.Tag.{tag_of}
use Rattle.packet_cipher.proofs.Tagging.{tag-length}
use Rattle.suites.specs.declared.suite.Suite.{Suite}
use Rattle.suites.specs.Suites.{tag_length_of}
use Rattle.policies.specs.declared.policy.Policy.{Policy}
use Rattle.policies.specs.Cryptex.{tagged_of, untagged_of}
use Rattle.wire.specs.Wire.{given_back_of, body_by, wire_by, restore_by, wire_of, restore_of, tag_fits}

-- the authenticated portion
pub body_is : (policy : Policy) (encrypt : List ℕ → List ℕ) (p : List ℕ) → body_by policy encrypt p ≡ encrypt (tagged_of policy (given_back_of policy p))
unfolding body_by
body_is policy encrypt p = refl

module _ (suite : Suite) (keys : Keys) (policy : Policy) (ssrc index : ℕ) where
  abbrev t : ℕ
  t = tag_length_of suite

  abbrev tag : List ℕ → List ℕ
  tag = tag_of suite keys policy ssrc index

  -- two tags compared: the one that a packet should have, and its last bytes
  pub tag-compared : (w a b : List ℕ) → a ≡ tag (take (length w - t) w) → b ≡ drop (length w - t) w → same_of a b ≡ tag_fits suite keys policy ssrc index w
  unfolding tag_fits
  tag-compared w a b e f = rw (e, f)

  -- ---- a body with its tag

  pub record Ends (w : List ℕ) : Type 0 where
    pub long : t ≤ length w
    pub tag : drop (length w - t) w ≡ tag_of suite keys policy ssrc index (take (length w - t) w)

  pub body-ends : (b : List ℕ) → Ends (b ++ tag b)
  body-ends b =
      let h : length (tag b) ≡ t = tag-length suite keys policy ssrc index b in
      let n : length (b ++ tag b) ≡ length b + length (tag b) = length-append b (tag b) in
      let m : length (b ++ tag b) - t ≡ length b = omega (arith, h) in
      record {
        long = omega (arith, h);
        tag = rw (m, take_at b (tag b) (length b) refl, drop_at b (tag b) (length b) refl);
      }

  pub ends-fit : (w : List ℕ) → Ends w → tag_fits suite keys policy ssrc index w ≡ true
  ends-fit w e =
      let a = tag (take (length w - t) w) in
      sym (tag-compared w a a refl (sym e.tag)) ∙ same-itself a

  -- ---- what is sent, and what is given back

  module _ (listed : ℕ → Bool) where
    pub wire-is : (p : List ℕ) → wire_of suite keys policy listed ssrc index p
        ≡ body_by policy (cipher_of suite keys policy listed ssrc index) p ++ tag (body_by policy (cipher_of suite keys policy listed ssrc index) p)
    unfolding wire_of wire_by
    wire-is p = refl

    pub wire-ends : (p : List ℕ) → Ends (wire_of suite keys policy listed ssrc index p)
    wire-ends p = rw (wire-is p) (body-ends (body_by policy (cipher_of suite keys policy listed ssrc index) p))

    pub restore-is : (w : List ℕ) → restore_of suite keys policy listed ssrc index w
        ≡ untagged_of policy (cipher_of suite keys policy listed ssrc index (take (length w - t) w))
    unfolding restore_of restore_by
    restore-is w = refl
