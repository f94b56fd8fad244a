-- What is claimed of the definitions themselves.
use Rattle.std.specs.Prelude.{◌≡◌, ℕ}
use Rattle.bits.specs.Xor.{◌⊕◌}
use Rattle.gf128.specs.Product.{next_of, ◌•◌}

-- The product is linear in each factor, in the exclusive or, and the step to V_(i+1) goes through it: it is a product with x.
pub record Linear : Type 0 where
  pub left : (x y v : ℕ) → (x ⊕ y) • v ≡ (x • v) ⊕ (y • v)
  pub right : (x v w : ℕ) → x • (v ⊕ w) ≡ (x • v) ⊕ (x • w)
  pub step : (x v : ℕ) → x • next_of v ≡ next_of (x • v)
