-- HMAC from the states of the key.
use mathlib.Core.Path.{◌≡◌, refl, sym, ap, ◌∙◌}
use mathlib.Core.Bool.{Bool, true, false}
use mathlib.Core.List.{List, ◌++◌}
use Prim.Native.Nat.{ℕ, ◌≤◌}
use native.Mathlib.Omega.{arith}
use borrow.Author.Tests.{leb-true}
use lib.Dec.{leb}
use lib.ListN.{length, length-append, length-replicate}
use Rattle.bits.specs.Pick.{pick}
use Rattle.bits.specs.Xor.{xor_pad}
use Rattle.bits.proofs.Xor.{length-pad}
use Rattle.sha1_compress.specs.Hash.{start_of, blocks_of, digest_of, sha1_of}
use Rattle.sha1_compress.specs.Steps.{hash_from}
use Rattle.sha1_compress.proofs.Digests.{digest-length, sha1-length, hash-front}
use Rattle.hmac.specs.declared.key.KeyStates.{KeyStates}
use Rattle.hmac.specs.Hmac.{filled_of, key_block_of, ipad, opad, hmac_of}
use Rattle.hmac.specs.Steps.{state_of, key_states_of, mac_of}

filled-length : (k : List ℕ) → length k ≤ 64 → length (filled_of k) ≡ 64
filled-length k h = simp (length-append, length-replicate) (omega arith)

picked-length : (t : Bool) (k : List ℕ) → leb (length k) 64 ≡ t → length (filled_of (pick t k (sha1_of k))) ≡ 64
picked-length true k e = filled-length k (leb-true (length k) 64 e)
picked-length false k e = filled-length (sha1_of k) (omega (arith, sha1-length k))

block-length : (x : ℕ) (k : List ℕ) → length (xor_pad (λ i. x) (key_block_of k)) ≡ 64
unfolding key_block_of
block-length x k = length-pad (λ i. x) (key_block_of k) ∙ picked-length (leb (length k) 64) k refl

pub mac-hmac : (k text : List ℕ) → mac_of (key_states_of k) text ≡ hmac_of k text
unfolding mac_of state_of hmac_of
mac-hmac k text =
    let i = xor_pad (λ n. ipad) (key_block_of k) in
    let o = xor_pad (λ n. opad) (key_block_of k) in
    sym
    (hash-front o (sha1_of (i ++ text)) (block-length opad k)
    ∙ ap (λ (u : List ℕ). digest_of (hash_from 64 (blocks_of 1 start_of o) u)) (hash-front i text (block-length ipad k)))

pub mac-length : (states : KeyStates) (text : List ℕ) → length (mac_of states text) ≡ 20
unfolding mac_of
mac-length states text = digest-length (hash_from 64 states.outer (digest_of (hash_from 64 states.inner text)))
