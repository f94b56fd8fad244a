-- The tag of each suite: its length, and what it is by the standards.
use mathlib.Core.Path.{◌≡◌, refl, ap, ap₂, ◌∙◌}
use mathlib.Core.Bool.{false}
use mathlib.Core.List.{List, ◌++◌}
use Prim.Native.Nat.{ℕ, ◌/◌, ◌^◌}
use native.Mathlib.Omega.{arith}
use lib.ListN.{length, take, length-take}
use Rattle.bits.specs.BigEndian.{to_bytes}
use Rattle.hmac.specs.declared.key.KeyStates.{KeyStates}
use Rattle.hmac.specs.Steps.{key_states_of, mac_of}
use Rattle.hmac.proofs.Macs.{mac-hmac, mac-length}
use Rattle.gcm.specs.Gcm.{subkey_of, tag_by, tag_of as gcm_tag}
use Rattle.gcm_hash.specs.Portion.{outside_of, inside_of}
use Rattle.gcm_iv.specs.Srtp.{iv_of}
use Rattle.gcm.proofs.Lengths.{length-tag, tag-by}
use Rattle.suites.specs.declared.suite.Suite.{Suite}
use Rattle.suites.specs.declared.suite.Suite.TheVariants.{CmHmac, Gcm}
use Rattle.suites.specs.Suites.{salt_length_of, tag_length_of}
use Rattle.rtp_header.specs.Header.{layout_of}
use Rattle.policies.specs.declared.policy.Policy.{Policy}
use Rattle.policies.specs.declared.policy.Policy.TheVariants.{Plain, Cryptex, CryptexRequired}
use Rattle.policies.specs.Cryptex.{is_cryptex}
use Rattle.bits.specs.Portion.{Bounds}
use Rattle.packet_cipher.specs.declared.keys.Keys.{Keys}
use Rattle.packet_cipher.specs.Cipher.{packet_iv}
use Rattle.packet_cipher.specs.Tag.{encrypted_in, associated_data, cipher_text, tag_of, standard_tag}

pub tag-length : (suite : Suite) (keys : Keys) (policy : Policy) (ssrc index : ℕ) (p : List ℕ) → length (tag_of suite keys policy ssrc index p) ≡ tag_length_of suite
unfolding tag_of
tag-length CmHmac keys policy ssrc index p =
    let text = p ++ to_bytes 4 (index / 2 ^ 16) in
    length-take 10 (mac_of keys.auth text) ∙ omega (arith, mac-length keys.auth text)
tag-length Gcm keys policy ssrc index p = length-tag keys.cipher keys.hash (packet_iv keys ssrc index) (associated_data policy p) (cipher_text policy p)

-- the code over a packet, as the code makes it
pub tag-code : (keys : Keys) (policy : Policy) (ssrc index : ℕ) (p code : List ℕ) → code ≡ mac_of keys.auth (p ++ to_bytes 4 (index / 2 ^ 16))
    → take 10 code ≡ tag_of CmHmac keys policy ssrc index p
unfolding tag_of
tag-code keys policy ssrc index p code e = ap (take 10) e

-- GCM's tag, for the portion r of q, which has the layout of p
pub tag-gcm : (keys : Keys) (policy : Policy) (ssrc index : ℕ) (q : List ℕ) (r : Bounds) → r ≡ encrypted_in policy q → (iv made : List ℕ) → iv ≡ packet_iv keys ssrc index
    → made ≡ tag_by keys.cipher keys.hash iv (outside_of r.first r.stop r.rest q) (inside_of r.first r.stop r.rest q)
    → made ≡ tag_of Gcm keys policy ssrc index q
unfolding tag_of
tag-gcm keys policy ssrc index q r er iv made ei e =
    e
    ∙ ap₂ (λ (v : List ℕ) (x : Bounds). tag_by keys.cipher keys.hash v (outside_of x.first x.stop x.rest q) (inside_of x.first x.stop x.rest q)) ei er

-- policies 1 and 2 tag alike
pub tag-alike : (suite : Suite) (keys : Keys) (ssrc index : ℕ) (p q : List ℕ) → p ≡ q → tag_of suite keys CryptexRequired ssrc index p ≡ tag_of suite keys Cryptex ssrc index q
unfolding tag_of
tag-alike CmHmac keys ssrc index p q e = rw e
tag-alike Gcm keys ssrc index p q e = rw e

-- what is not in its Cryptex form is tagged as under policy 0
pub tag-plain : (suite : Suite) (keys : Keys) (policy : Policy) (ssrc index : ℕ) (p : List ℕ) → is_cryptex policy (layout_of p) ≡ false
    → tag_of suite keys policy ssrc index p ≡ tag_of suite keys Plain ssrc index p
unfolding tag_of
tag-plain CmHmac keys policy ssrc index p e = refl
tag-plain Gcm keys policy ssrc index p e = rw e

-- by the standards, from the session keys: HMAC-SHA1 under the authentication key (RFC 3711, 4.2), or GCM's tag (SP 800-38D, 7.1)
pub tag-standard : (suite : Suite) (keys : Keys) (auth salt : List ℕ) → keys.auth ≡ key_states_of auth → keys.hash ≡ subkey_of keys.cipher
    → take (salt_length_of suite) keys.salt ≡ salt → (policy : Policy) (ssrc index : ℕ) (p : List ℕ)
    → tag_of suite keys policy ssrc index p ≡ standard_tag suite keys.cipher auth salt policy ssrc index p
unfolding tag_of standard_tag
tag-standard CmHmac keys auth salt a h s policy ssrc index p =
    let text = p ++ to_bytes 4 (index / 2 ^ 16) in
    ap (take 10) (ap (λ (x : KeyStates). mac_of x text) a ∙ mac-hmac auth text)
tag-standard Gcm keys auth salt a h s policy ssrc index p =
    tag-by keys.cipher keys.hash h (packet_iv keys ssrc index) (associated_data policy p) (cipher_text policy p)
    ∙ ap (λ (x : List ℕ). gcm_tag keys.cipher (iv_of x ssrc index) (associated_data policy p) (cipher_text policy p)) s
