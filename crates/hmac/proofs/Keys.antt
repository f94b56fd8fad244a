-- The key's block.
use mathlib.Core.Path.{◌≡◌, refl, sym, ap, ap₂, ◌∙◌}
use mathlib.Core.List.{List, [], ◌∷◌, ◌++◌}
use Prim.Native.Nat.{ℕ, zero, suc, ◌+◌, ◌-◌, ◌≤◌, ◌<◌}
use native.Mathlib.Numerals.{add-one}
use native.Mathlib.Omega.{arith}
use borrow.Author.Tests.{le-leb, lt-leb}
use lib.Bits.{xor_zero_l}
use lib.ListN.{length, get_or, set, take, replicate}
use lib.Seq.{take-suc, take_all, length-take-le}
use Rattle.bits.specs.Xor.{◌⊕◌, xor_pad}
use Rattle.bits.proofs.Xor.{length-pad, pad-append}
use Rattle.sha1_compress.specs.Hash.{sha1_of}
use Rattle.sha1_compress.proofs.Blocks.{put}
use Rattle.hmac.specs.Hmac.{filled_of, key_block_of}

-- every byte with x
abbrev with_each : ℕ → List ℕ → List ℕ
with_each x l = xor_pad (λ i. x) l

zeros-with : (x n : ℕ) → with_each x (replicate n 0) ≡ replicate n x
zeros-with x zero = refl
zeros-with x (suc n) = ap₂ (λ (y : ℕ) (l : List ℕ). y ∷ l) (xor_zero_l x) (zeros-with x n)

-- a turn of the loop that fills the block
pub key_more : (b key : List ℕ) (x i : ℕ) → i < length key → length key ≤ 64 → b ≡ with_each x (take i key) ++ replicate (64 - i) x
    → set b i (get_or key i 0 ⊕ x) ≡ with_each x (take (i + 1) key) ++ replicate (64 - (i + 1)) x
key_more b key x i h l e =
    let p = with_each x (take i key) in
    let lp : length p ≡ i = length-pad (λ k. x) (take i key) ∙ length-take-le i key (omega arith) in
    let y = get_or key i 0 ⊕ x in
    ap (λ (u : List ℕ). set u i y) e
    ∙ put p 64 i x y lp (omega arith)
    ∙ ap (λ (u : List ℕ). u ++ replicate (64 - (i + 1)) x)
    (sym (pad-append (λ k. x) (take i key) (get_or key i 0 ∷ [])) ∙ ap (with_each x) (sym (take-suc key i 0 h) ∙ ap (λ (k : ℕ). take k key) (sym (add-one i))))

pub key-all : (b key : List ℕ) (x i : ℕ) → i ≡ length key → b ≡ with_each x (take i key) ++ replicate (64 - i) x → b ≡ with_each x (filled_of key)
key-all b key x i ei e =
    e
    ∙ ap₂ (λ (u : List ℕ) (k : ℕ). with_each x u ++ replicate (64 - k) x) (take_all i key (omega arith)) ei
    ∙ ap (λ (u : List ℕ). with_each x key ++ u) (sym (zeros-with x (64 - length key)))
    ∙ sym (pad-append (λ k. x) key (replicate (64 - length key) 0))

-- a key of at most 64 bytes is filled as it is, a longer one once it is hashed
pub short-key : (k : List ℕ) → length k ≤ 64 → filled_of k ≡ key_block_of k
unfolding key_block_of
short-key k h = simp (le-leb _ _ h)

pub long-key : (k d : List ℕ) → 64 < length k → d ≡ sha1_of k → filled_of d ≡ key_block_of k
unfolding key_block_of
long-key k d h e = ap filled_of e ∙ simp (lt-leb _ _ h)
