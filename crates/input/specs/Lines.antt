-- Lines, as docs/CALLS.md has them under "A line": each ends with a line feed, or the last one with the input.
use Rattle.std.specs.Prelude.{ℕ, ◌+◌, List, [], ◌∷◌, take, Option, Some, None}
use Rattle.std.specs.Io.BufRead.{first_piece}

-- the next line of bytes that are still to be read: without its line feed, and of a line of more than `most` bytes the first `most` and one more
abbrev pub next_line_of : ℕ → List ℕ → Option (List ℕ)
next_line_of most [] = None
next_line_of most (b ∷ bytes) = Some (first_piece 10 (take (most + 1) (b ∷ bytes)))
