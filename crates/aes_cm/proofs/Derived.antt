-- Derived keys: the keystream onto zeros, over the length.
use mathlib.Core.Path.{◌≡◌, refl, ap, ap₂, ◌∙◌}
use mathlib.Core.List.{List, ◌∷◌}
use Prim.Native.Nat.{ℕ, zero, suc, ◌+◌, ◌≤◌}
use native.Mathlib.Omega.{arith}
use lib.Bits.{xor_zero_l}
use lib.ListN.{length, take, replicate}
use Rattle.bits.specs.Lists.{tabulate}
use Rattle.bits.specs.Xor.{xor_pad}
use Rattle.bits.proofs.Lists.{length-tabulate}
use Rattle.bits.proofs.Xor.{pad-ext}
use Rattle.aes_cm.specs.declared.derivation.SessionKeys.{SessionKeys}
use Rattle.aes_counter.specs.Keystream.{keystream_of}
use Rattle.stretches.specs.Stretch.{keystream_end}
use Rattle.stretches.proofs.Parts.{served-bytes}
use Rattle.keystream.specs.Stretch.{stretch_of}
use Rattle.aes_cm.specs.Derivation.{salt_for, derived_of}

onto-zeros : (n : ℕ) (pad : ℕ → ℕ) → xor_pad pad (replicate n 0) ≡ tabulate n pad
onto-zeros zero pad = refl
onto-zeros (suc n) pad = ap₂ (λ (a : ℕ) (l : List ℕ). a ∷ l) (xor_zero_l (pad 0)) (onto-zeros n (λ i. pad (suc i)))

pub derived-is : (key salt : List ℕ) (label : ℕ) (l m : List ℕ) → l ≡ replicate (length l) 0 → length l ≤ keystream_end
    → m ≡ (stretch_of key (salt_for salt label) 0 0 0 l).bytes → m ≡ derived_of key salt label (length l)
unfolding derived_of
derived-is key salt label l m z h e =
    let stream = keystream_of key (salt_for salt label) 0 0 in
    e ∙ served-bytes stream 0 l (omega arith) ∙ pad-ext (λ k. stream (0 + k)) stream l (λ i b. ap stream (omega arith)) ∙ ap (xor_pad stream) z ∙ onto-zeros (length l) stream

tabulate-front : {A : Type 0} (k n : ℕ) (f : ℕ → A) → k ≤ n → take k (tabulate n f) ≡ tabulate k f
tabulate-front zero n f h = refl
tabulate-front (suc k) zero f h = absurd (omega arith)
tabulate-front (suc k) (suc n) f h = ap (λ (l : List _). f 0 ∷ l) (tabulate-front k n (λ i. f (suc i)) (omega arith))

-- a shorter key is the front of a longer one
pub derived-front : (key salt : List ℕ) (label k n : ℕ) → k ≤ n → take k (derived_of key salt label n) ≡ derived_of key salt label k
unfolding derived_of
derived-front key salt label k n h = tabulate-front k n (keystream_of key (salt_for salt label) 0 0) h

pub derived-length : (key salt : List ℕ) (label n : ℕ) → length (derived_of key salt label n) ≡ n
unfolding derived_of
derived-length key salt label n = length-tabulate n (keystream_of key (salt_for salt label) 0 0)

pub five : {a b c d e p q r s t : List ℕ} → a ≡ p → b ≡ q → c ≡ r → d ≡ s → e ≡ t
    → ◌≡◌ {A = SessionKeys} (record { cipher = a; auth = b; salt = c; header_cipher = d; header_salt = e })
    (record { cipher = p; auth = q; salt = r; header_cipher = s; header_salt = t })
five f g h i j = cc
