-- Document 01, "Finding an element": the part of a packet that is handed back, and the answer beside it.
use Rattle.rtp_header.specs.declared.header.Layout.{Layout}
use Rattle.bits.specs.declared.refusal.Refusal.{Refusal}
use Rattle.bits.specs.declared.refusal.Refusal.TheVariants as refusal
use Rattle.std.specs.Prelude.{◌≡◌, List, [], ◌∷◌, ℕ, ◌+◌, ◌≤◌, eqb, length, take, drop, Result, Ok, Err}
use Rattle.std.specs.Borrow.{Bor}
use Rattle.bits.specs.Pick.{pick}
use Rattle.rtp_elements.specs.declared.element.Element.{Element}
use Rattle.rtp_elements.specs.Elements.{whole_of, elements_of}
use Rattle.rtp_elements.specs.Numbers.{found_number}
use Rattle.rtp_header.specs.Header.{block_of, header_of, header_number}

-- the first of these elements with an id
abbrev pub first_with : ℕ → List Element → Result Element Refusal
first_with id [] = Err refusal.Absent
first_with id (e ∷ l) = pick (eqb e.id id) (Ok e) (first_with id l)

-- the first element with an id; ELEMENT where the block is not whole, also where that element stands before the broken one
unfoldable pub located_of : ℕ → List ℕ → ℕ → Result Element Refusal
located_of tag block id = pick (whole_of tag block) (first_with id (elements_of tag block)) (Err refusal.Element)

-- an answer, and where in the packet the part that goes with it begins and how long it is
pub record Part : Type 0 where
  pub number : ℕ
  pub begin : ℕ
  pub length : ℕ

-- a refusal's part is empty. Where it points is left free by document 01; here to the packet's start
abbrev pub refused_part : ℕ → Part
refused_part number = record { number = number; begin = 0; length = 0 }

-- what was found in the block that begins at this place of the packet
abbrev pub part_of : ℕ → Result Element Refusal → Part
part_of block (Ok e) = record { number = found_number (Ok e); begin = block + e.begin; length = e.length }
part_of block (Err r) = refused_part (found_number (Err r))

abbrev pub found_in : List ℕ → ℕ → Result Layout Refusal → Part
found_in p id (Err r) = refused_part (header_number (Err r))
found_in p id (Ok h) = part_of h.block (located_of h.tag (block_of h p) id)

-- refusals 2, 3, 4, 6 and 19, in this order, of a plain packet
unfoldable pub find_of : List ℕ → ℕ → Part
find_of p id = found_in p id (header_of p 0)

-- What a call hands back: the answer, the bytes, and where they lie. `object` and `place` say that r is a part of the caller's packet
-- and no copy: r.ref_ptr.0 is the object, r.ref_ptr.1 the place of its first byte there.
pub record HandedBack (packet : Bor (List ℕ)) (part : Part) (answer : ℕ) (r : Bor (List ℕ)) : Type 0 where
  pub answered : answer ≡ part.number
  pub inside : part.begin + part.length ≤ length packet.now
  pub bytes : r.now ≡ take part.length (drop part.begin packet.now)
  pub object : r.ref_ptr.0 ≡ packet.ref_ptr.0
  pub place : r.ref_ptr.1 ≡ packet.ref_ptr.1 + part.begin
