-- What the code's own steps and tables mean. Nothing here is the standard's.
use Rattle.std.specs.Prelude.{◌≡◌, List, [], ℕ, zero, suc, ◌+◌, ◌*◌, ◌^◌, ◌<◌, get_or}
use Rattle.bits.specs.Xor.{◌⊕◌}
use Rattle.gf128.specs.Product.{next_of, sum_of}

-- the step to V_(i+1), n times: a block times x^n
unfoldable pub nexts_of : ℕ → ℕ → ℕ
nexts_of zero v = v
nexts_of (suc n) v = nexts_of n (next_of v)

-- what n more bits of a factor w do to a product with h, those before them being lower: the product moves by n, and theirs is added
unfoldable pub more_of : ℕ → ℕ → ℕ → ℕ → ℕ
more_of n h z w = nexts_of n z ⊕ sum_of n w h

-- entry k of sixteen blocks: their high halves come first, then their low ones
abbrev pub entry_of : List ℕ → ℕ → ℕ
entry_of t k = get_or t k 0 * 2 ^ 64 + get_or t (k + 16) 0

-- the sixteen multiples of v: entry k for the four bits of k
pub record Multiples (v : ℕ) (t : List ℕ) : Type 0 where
  pub entry : (k : ℕ) → k < 16 → entry_of t k ≡ sum_of 4 k v

-- the table of a hash subkey: multiples for each four of 32 bits, the highest four first
pub record KeyTable (h : ℕ) (t : List (List ℕ)) : Type 0 where
  pub multiples : (i : ℕ) → i < 8 → Multiples (nexts_of (4 * i) h) (get_or t i [])
