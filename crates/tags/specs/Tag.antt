-- Whether two lists are equal, as a test.
use Rattle.std.specs.Prelude.{Bool, true, false, ◌&&◌, List, [], ◌∷◌, ℕ, eqb}

unfoldable pub same_of : List ℕ → List ℕ → Bool
same_of [] [] = true
same_of [] (y ∷ b) = false
same_of (x ∷ a) [] = false
same_of (x ∷ a) (y ∷ b) = eqb x y && same_of a b
