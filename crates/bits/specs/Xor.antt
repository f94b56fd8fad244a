-- Exclusive or, of numbers and of lists.
use Rattle.std.specs.Prelude.{List, [], ◌∷◌, ℕ, suc, get_or}
use Rattle.std.specs.Int.Bits.{bit_xor}

infixl 68 ◌⊕◌
-- bit by bit
abbrev pub ◌⊕◌ : ℕ → ℕ → ℕ
a ⊕ b = bit_xor a b

-- a list with a pad: element i with pad i
abbrev pub xor_pad : (ℕ → ℕ) → List ℕ → List ℕ
xor_pad pad [] = []
xor_pad pad (x ∷ l) = x ⊕ pad 0 ∷ xor_pad (λ i. pad (suc i)) l

-- two lists, element by element, as long as the first: the second counts as followed by zeros, and what it has beyond is dropped
abbrev pub xor_list : List ℕ → List ℕ → List ℕ
xor_list a b = xor_pad (λ i. get_or b i 0) a
