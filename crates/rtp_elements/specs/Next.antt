-- What the code's own steps mean: one element after another, where RFC 8285 (sections 4.2 and 4.3) is read a byte at a time (`Elements`).
use Rattle.std.specs.Prelude.{Bool, List, [], ◌∷◌, ℕ, ◌+◌, leb, length, drop, Option, Some, None, Result, Ok, Err}
use Rattle.bits.specs.Pick.{pick}
use Rattle.bits.specs.declared.refusal.Refusal.{Refusal}
use Rattle.bits.specs.declared.refusal.Refusal.TheVariants as refusal
use Rattle.rtp_elements.specs.declared.element.Element.{Element}
use Rattle.rtp_elements.specs.Elements.{two_byte, start_of, whole_from, elements_from}

-- the first of these elements if it ends within `size` bytes, else ELEMENT; without one, none, or ELEMENT where the block is not whole from there on
abbrev pub next_by : ℕ → Bool → List Element → Result (Option Element) Refusal
next_by size whole [] = pick whole (Ok None) (Err refusal.Element)
next_by size whole (e ∷ l) = pick (leb (e.begin + e.length) size) (Ok (Some e)) (Err refusal.Element)

-- the next element from place i on, which is the block's start or the end of an element
unfoldable pub next_of : ℕ → List ℕ → ℕ → Result (Option Element) Refusal
next_of tag block i =
    next_by (length block) (whole_from (two_byte tag) (start_of tag) (drop i block)) (elements_from (two_byte tag) (start_of tag) i (drop i block))
