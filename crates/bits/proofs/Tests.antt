-- Two numbers are the same or not.
use mathlib.Core.Path.{◌≡◌, refl}
use mathlib.Core.Bool.{Bool, true, false}
use mathlib.Core.Logic.{◌⊎◌, inl, inr}
use Prim.Native.Nat.{ℕ}
use borrow.Author.Tests.{eqb-true, eqb-false}
use lib.Dec.{eqb}

by-test : (m n : ℕ) (t : Bool) → eqb m n ≡ t → (m ≡ n) ⊎ (m ≡ n → ⊥)
by-test m n true e = inl (eqb-true m n e)
by-test m n false e = inr (eqb-false m n e)

pub same? : (m n : ℕ) → (m ≡ n) ⊎ (m ≡ n → ⊥)
same? m n = by-test m n (eqb m n) refl
