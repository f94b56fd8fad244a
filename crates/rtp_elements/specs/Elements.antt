-- RFC 8285, sections 4.1.2, 4.2 and 4.3: the elements of a header extension's block, read a byte at a time.
use Rattle.std.specs.Prelude.{Bool, true, false, not, ◌&&◌, ◌||◌, List, [], ◌∷◌, ◌++◌, ℕ, zero, suc, ◌+◌, ◌/◌, ◌%◌, eqb, leb}
use Rattle.bits.specs.Pick.{pick}
use Rattle.rtp_elements.specs.declared.element.Element.{Element}

-- Tag 0xBEDE: one-byte elements. Tags 0x1000 to 0x100F, which are 0x100 and any four bits: two-byte elements. Any other tag: none.
abbrev pub two_byte : ℕ → Bool
two_byte tag = leb 0x1000 tag && leb tag 0x100F

abbrev pub has_elements : ℕ → Bool
has_elements tag = eqb tag 0xBEDE || two_byte tag

-- What the next byte of a block is (not a term of the RFC).
pub data NextByte : Type 0 where
  -- the first byte of an element, or padding
  Between : NextByte
  -- the length of the two-byte element with this id
  Length : ℕ → NextByte
  -- data of the element with this id; so many data bytes come after this one
  Data : ℕ → ℕ → NextByte
  -- not read any more
  Ended : NextByte

abbrev pub start_of : ℕ → NextByte
start_of tag = pick (has_elements tag) Between Ended

-- n data bytes of an element come next
abbrev pub data_of : ℕ → ℕ → NextByte
data_of id zero = Between
data_of id (suc n) = Data id n

-- 4.2: the first byte of a one-byte element has the id in its upper four bits and L in its lower four; L + 1 data bytes follow. Ids 0 and 15 are no element's.
abbrev pub opens : ℕ → Bool
opens x = not (eqb (x / 16) 0 || eqb (x / 16) 15)

-- A zero byte is padding (4.1.2). Id 15 ends the reading of a one-byte block, and so does id 0 with L above 0 (4.2; document 01, "Packet layout").
abbrev pub first_of : Bool → ℕ → NextByte
first_of two x = pick (eqb x 0) Between (pick two (Length x) (pick (opens x) (Data (x / 16) (x % 16)) Ended))

-- what comes after the byte x
abbrev pub step_of : Bool → NextByte → ℕ → NextByte
step_of two Between x = first_of two x
step_of two (Length id) x = data_of id x
step_of two (Data id n) x = data_of id n
step_of two Ended x = Ended

-- after all of these bytes
abbrev pub end_of : Bool → NextByte → List ℕ → NextByte
end_of two p [] = p
end_of two p (x ∷ l) = end_of two (step_of two p x) l

-- an element has begun and is not whole
abbrev pub within : NextByte → Bool
within Between = false
within (Length id) = true
within (Data id n) = true
within Ended = false

abbrev pub whole_from : Bool → NextByte → List ℕ → Bool
whole_from two p l = not (within (end_of two p l))

-- no element runs past the block: otherwise refusal 6
unfoldable pub whole_of : ℕ → List ℕ → Bool
whole_of tag block = whole_from (two_byte tag) (start_of tag) block

-- the element whose header ends with the byte x at place i, if one does; its data begins after that byte
abbrev pub begun_of : Bool → NextByte → ℕ → ℕ → List Element
begun_of two Between i x = pick (not two && opens x) (record { id = x / 16; begin = i + 1; length = x % 16 + 1 } ∷ []) []
begun_of two (Length id) i x = record { id = id; begin = i + 1; length = x } ∷ []
begun_of two (Data id n) i x = []
begun_of two Ended i x = []

-- the elements of bytes that stand from place i on
abbrev pub elements_from : Bool → NextByte → ℕ → List ℕ → List Element
elements_from two p i [] = []
elements_from two p i (x ∷ l) = begun_of two p i x ++ elements_from two (step_of two p x) (i + 1) l

-- The elements of a block in order: their ids, where in the block their data begins, and its length. One whose data runs past the block is among them:
-- ask `whole_of` first.
unfoldable pub elements_of : ℕ → List ℕ → List Element
elements_of tag block = elements_from (two_byte tag) (start_of tag) 0 block
