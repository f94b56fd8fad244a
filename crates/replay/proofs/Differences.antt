-- Laws of the signed difference of two numbers (lib.IntN's `sub_ℕ`).
use mathlib.Core.Path.{◌≡◌, refl, sym, ap, ◌∙◌}
use mathlib.Core.Bool.{Bool, true, false, cond}
use Prim.Native.Nat.{ℕ, zero, suc, ◌+◌, ◌-◌, ◌<◌, ◌≤◌, zero-le}
use native.Mathlib.Nat.{add-zero}
use native.Mathlib.Omega.{arith}
use borrow.Author.Tests.{ltb-true, ltb-false, lt-ltb, le-ltb}
use lib.Dec.{ltb}
use lib.IntN.{ℤ, pos, negsuc, sub_ℕ, ◌-ℤ◌, +ℤ_idr}

pub by_sign : (P : ℤ → Type 0) (a b : ℕ) → (a < b → P (negsuc (b - suc a))) → (b ≤ a → P (pos (a - b))) → P (sub_ℕ a b)
by_sign P a b f g = go (ltb a b) refl
  where
    go : (t : Bool) → ltb a b ≡ t → P (cond t (negsuc (b - suc a)) (pos (a - b)))
    go true e = f (ltb-true a b e)
    go false e = g (ltb-false a b e)

pub below : (a b : ℕ) → a < b → sub_ℕ a b ≡ negsuc (b - suc a)
below a b h = rw (lt-ltb a b h)

pub lands : (a b n : ℕ) → a ≡ n + b → sub_ℕ a b ≡ pos n
lands a b n e =
    let h : b ≤ a = omega arith in
    let f : a - b ≡ n = omega arith in
    rw (le-ltb a b h) (ap pos f)

-- only the difference counts
pub same-difference : (a b c d : ℕ) → a + d ≡ c + b → sub_ℕ a b ≡ sub_ℕ c d
same-difference a b c d e =
    by_sign (λ (z : ℤ). z ≡ sub_ℕ c d) a b
    (λ h. let f : b - suc a ≡ d - suc c = omega arith in ap negsuc f ∙ sym (below c d (omega arith)))
    (λ h. sym (lands c d (a - b) (omega arith)))

pub minus : (a b : ℕ) → pos a -ℤ pos b ≡ sub_ℕ a b
minus a zero = let e : a + 0 ≡ a - 0 = omega arith in rw (le-ltb a 0 zero-le) (ap pos e)
minus a (suc b) = refl

negative-minus : (n c : ℕ) → negsuc n -ℤ pos c ≡ negsuc (n + c)
negative-minus n zero = +ℤ_idr (negsuc n) ∙ ap negsuc (sym (add-zero n))
negative-minus n (suc c) = let e : suc (n + c) ≡ n + suc c = omega arith in ap negsuc e

pub minus_number : (a b c : ℕ) → sub_ℕ a b -ℤ pos c ≡ sub_ℕ a (b + c)
minus_number a b c =
    by_sign (λ (z : ℤ). z -ℤ pos c ≡ sub_ℕ a (b + c)) a b
    (λ h. let f : b - suc a + c ≡ b + c - suc a = omega arith in negative-minus (b - suc a) c ∙ ap negsuc f ∙ sym (below a (b + c) (omega arith)))
    (λ h. minus (a - b) c ∙ same-difference (a - b) c a (b + c) (omega arith))
