-- RFC 6904, section 3: the encryption mask of a header extension's block, and the block encrypted under it.
use Rattle.std.specs.Prelude.{Bool, false, ◌||◌, List, [], ◌∷◌, ℕ, ◌/◌, ◌%◌, eqb, get_or}
use Rattle.bits.specs.Bits.{is_set}
use Rattle.bits.specs.Pick.{pick}
use Rattle.bits.specs.Xor.{xor_pad}
use Rattle.rtp_elements.specs.Elements.{NextByte, Between, Length, Data, Ended, two_byte, start_of, step_of}

-- a set of ids by its members
abbrev pub among : List ℕ → ℕ → Bool
among [] id = false
among (x ∷ l) id = eqb id x || among l id

-- a set of ids in four words of 64 bits: id is bit id % 64 of word id / 64
abbrev pub listed_in : List ℕ → ℕ → Bool
listed_in words id = is_set (get_or words (id / 64) 0) (id % 64)

-- all ones on data of an element whose id is listed; zero on element headers, padding, data of other elements and bytes that are not read
abbrev pub mask_byte : (ℕ → Bool) → NextByte → ℕ
mask_byte listed Between = 0x00
mask_byte listed (Length id) = 0x00
mask_byte listed (Data id n) = pick (listed id) 0xFF 0x00
mask_byte listed Ended = 0x00

abbrev pub mask_from : (ℕ → Bool) → Bool → NextByte → List ℕ → List ℕ
mask_from listed two p [] = []
mask_from listed two p (x ∷ l) = mask_byte listed p ∷ mask_from listed two (step_of two p x) l

unfoldable pub mask_of : (ℕ → Bool) → ℕ → List ℕ → List ℕ
mask_of listed tag block = mask_from listed (two_byte tag) (start_of tag) block

-- RFC 6904's masked keystream, of a keystream (here a pad, since it can be any bytes): byte k where mask byte k is FF, else 0. A byte that is not masked
-- uses up its byte of the pad too.
abbrev pub masked_pad : List ℕ → (ℕ → ℕ) → ℕ → ℕ
masked_pad mask pad k = pick (eqb (get_or mask k 0x00) 0xFF) (pad k) 0

-- document 01, "What is encrypted", policy 3: block byte k with byte k of the pad, where the mask is FF
unfoldable pub masked_of : (ℕ → Bool) → ℕ → (ℕ → ℕ) → List ℕ → List ℕ
masked_of listed tag pad block = xor_pad (masked_pad (mask_of listed tag block) pad) block
