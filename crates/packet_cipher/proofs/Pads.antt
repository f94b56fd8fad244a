-- Parts of a list with a pad.
use mathlib.Core.Path.{◌≡◌, refl, ap, ◌∙◌}
use mathlib.Core.List.{List, [], ◌∷◌}
use Prim.Native.Nat.{ℕ, zero, suc, ◌+◌}
use native.Mathlib.Omega.{arith}
use lib.ListN.{take, drop}
use Rattle.bits.specs.Xor.{◌⊕◌, xor_pad}
use Rattle.bits.proofs.Xor.{pad-ext}

pub take-pad : (n : ℕ) (f : ℕ → ℕ) (l : List ℕ) → take n (xor_pad f l) ≡ xor_pad f (take n l)
take-pad zero f l = refl
take-pad (suc n) f [] = refl
take-pad (suc n) f (x ∷ l) = ap (λ (r : List ℕ). x ⊕ f 0 ∷ r) (take-pad n (λ i. f (suc i)) l)

pub drop-pad : (n : ℕ) (f : ℕ → ℕ) (l : List ℕ) → drop n (xor_pad f l) ≡ xor_pad (λ i. f (n + i)) (drop n l)
drop-pad zero f l = pad-ext f (λ i. f (0 + i)) l (λ i h. ap f (omega arith))
drop-pad (suc n) f [] = refl
drop-pad (suc n) f (x ∷ l) =
    drop-pad n (λ i. f (suc i)) l ∙ pad-ext (λ i. f (suc (n + i))) (λ i. f (suc n + i)) (drop n l) (λ i h. ap f (omega arith))
