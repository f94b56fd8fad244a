-- RFC 7714, section 8.2, and RFC 9335, section 6.2: what GCM is given of a packet. Associated data is exactly what is not encrypted.
-- The encrypted portion has a gap: for first ≤ stop ≤ rest it is the bytes from `first` up to but not including `stop`, and those from `rest` on.
use Rattle.std.specs.Prelude.{List, ◌++◌, ℕ, ◌-◌, take, drop}

-- the associated data: what lies before the portion, and in the gap
abbrev pub outside_of : ℕ → ℕ → ℕ → List ℕ → List ℕ
outside_of first stop rest l = take first l ++ take (rest - stop) (drop stop l)

-- the plain text or the cipher text: both sides of the gap
abbrev pub inside_of : ℕ → ℕ → ℕ → List ℕ → List ℕ
inside_of first stop rest l = take (stop - first) (drop first l) ++ drop rest l
