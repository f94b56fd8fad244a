-- Document 01, "Numbers given back": the number of what was found.
use Rattle.std.specs.Prelude.{ℕ, Result, Ok, Err}
use Rattle.bits.specs.Refusals.{number_of}
use Rattle.bits.specs.declared.refusal.Refusal.{Refusal}
use Rattle.rtp_elements.specs.declared.element.Element.{Element}

-- document 01's number for what was found; `part_of` (Finding, in rtp) adds the values
abbrev pub found_number : Result Element Refusal → ℕ
found_number (Ok e) = 0
found_number (Err r) = number_of r
