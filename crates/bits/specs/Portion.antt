-- Which bytes of a packet one keystream runs over.
use Rattle.std.specs.Prelude.{ℕ}

-- from `first` up to `stop`, and then from `rest` on
pub record Bounds : Type 0 where
  pub first : ℕ
  pub stop : ℕ
  pub rest : ℕ
