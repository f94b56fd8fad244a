-- What the code's own steps mean: where an element that was found ends. Nothing here is an RFC's.
use Rattle.std.specs.Prelude.{ℕ, ◌+◌, ◌≤◌, Result, Ok, Err}
use Rattle.bits.specs.declared.refusal.Refusal.{Refusal}
use Rattle.rtp_elements.specs.declared.element.Element.{Element}

-- an element that was found ends within so many bytes
abbrev pub Inside : ℕ → Result Element Refusal → Type 0
Inside size (Ok e) = e.begin + e.length ≤ size
Inside size (Err r) = Unit {0}
