-- Flags as the bits of a number: flag k is bit k.
use Rattle.std.specs.Prelude.{Bool, ℕ, zero, suc, ◌+◌, ◌*◌, ◌/◌, ◌%◌, ◌^◌, eqb}
use Rattle.bits.specs.Pick.{pick}

-- bit k of x is set
abbrev pub is_set : ℕ → ℕ → Bool
is_set x k = eqb (x / 2 ^ k % 2) 1

-- the number of n flags
unfoldable pub packed : ℕ → (ℕ → Bool) → ℕ
packed zero flag = 0
packed (suc n) flag = pick (flag 0) 1 0 + 2 * packed n (λ k. flag (suc k))
