-- A loop that XORs a pad onto a list from its front: what is still to do, applied to the present list, is the goal.
use mathlib.Core.Path.{◌≡◌, refl, sym, ap, ap₂, ◌∙◌}
use mathlib.Core.List.{List, [], ◌∷◌, ◌++◌, append_assoc, append-nil}
use Prim.Native.Nat.{ℕ, suc, ◌+◌, ◌≤◌, ◌<◌}
use native.Mathlib.Numerals.{add-one}
use native.Mathlib.Omega.{arith}
use lib.ListN.{length, get_or, set, take, drop, length-set, drop_of_length-le}
use lib.Seq.{drop-cons, take_all, take-suc-set, drop-set-lt}
use Rattle.bits.specs.Xor.{◌⊕◌, xor_pad}
use Rattle.bits.proofs.Xor.{pad-ext}

pub record Running (pad : ℕ → ℕ) (l₀ l : List ℕ) (i : ℕ) : Type 0 where
  pub upto : i ≤ length l₀
  pub size : length l ≡ length l₀
  pub left : take i l ++ xor_pad (λ k. pad (i + k)) (drop i l) ≡ xor_pad pad l₀

pub running-start : (pad : ℕ → ℕ) (l : List ℕ) → Running pad l l 0
running-start pad l = record { upto = omega arith; size = refl; left = pad-ext (λ k. pad (0 + k)) pad l (λ k h. ap pad (omega arith)) }

-- the byte at i is done
pub running-next : (pad : ℕ → ℕ) (l₀ l : List ℕ) (i : ℕ) → i < length l₀ → Running pad l₀ l i → Running pad l₀ (set l i (get_or l i 0 ⊕ pad i)) (i + 1)
running-next pad l₀ l i h r =
    let v : ℕ = get_or l i 0 ⊕ pad i in
    let b : i < length l = omega (arith, r.size) in
    record {
      upto = omega arith;
      size = length-set l i v ∙ r.size;
      left =
          ap (λ (j : ℕ). take j (set l i v) ++ xor_pad (λ k. pad (i + 1 + k)) (drop j (set l i v))) (add-one i)
          ∙ ap₂ (λ (a d : List ℕ). a ++ xor_pad (λ k. pad (i + 1 + k)) d) (take-suc-set l i v b) (drop-set-lt (suc i) l i v (omega arith))
          ∙ append_assoc (take i l) (v ∷ []) (xor_pad (λ k. pad (i + 1 + k)) (drop (suc i) l))
          ∙ ap (λ (d : List ℕ). take i l ++ d)
          (ap₂ (λ (a : ℕ) (d : List ℕ). get_or l i 0 ⊕ a ∷ d) (ap pad (omega arith))
          (pad-ext (λ k. pad (i + 1 + k)) (λ k. pad (i + suc k)) (drop (suc i) l) (λ k o. ap pad (omega arith)))
          ∙ ap (xor_pad (λ k. pad (i + k))) (sym (drop-cons l i 0 b)))
          ∙ r.left;
    }

pub running-end : (pad : ℕ → ℕ) (l₀ l : List ℕ) (i : ℕ) → length l₀ ≤ i → Running pad l₀ l i → l ≡ xor_pad pad l₀
running-end pad l₀ l i h r =
    let o : length l ≤ i = omega (arith, r.size) in
    sym (append-nil l) ∙ ap₂ (λ (a d : List ℕ). a ++ xor_pad (λ k. pad (i + k)) d) (sym (take_all i l o)) (sym (drop_of_length-le l o)) ∙ r.left
