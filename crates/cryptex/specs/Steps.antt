-- What the code's own steps mean: the room that is made for the added block (RFC 9335, section 5.1).
use Rattle.std.specs.Prelude.{List, ◌++◌, ℕ, ◌+◌, ◌-◌, take, drop}

-- the bytes from `at` up to n, four places higher; the four from `at` on stay
unfoldable pub raised_of : ℕ → ℕ → List ℕ → List ℕ
raised_of at n l = take (at + 4) l ++ (take (n - at) (drop at l) ++ drop (n + 4) l)
