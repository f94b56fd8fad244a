-- What is claimed of the definitions of header (RFC 3550), elements (RFC 8285) and mask (RFC 6904) themselves.
use Rattle.std.specs.Prelude.{◌≡◌, Bool, true, false, ◌&&◌, ◌||◌, List, [], ◌∷◌, ℕ, ◌+◌, ◌≤◌, ◌<◌, leb, ltb, length, get_or, Err}
use Rattle.bits.specs.declared.refusal.Refusal.TheVariants as refusal
use Rattle.bits.specs.Pick.{pick}
use Rattle.rtp_elements.specs.declared.element.Element.{Element}
use Rattle.rtp_elements.specs.Elements.{whole_of, elements_of}
use Rattle.rtp.specs.Finding.{located_of}
use Rattle.rtp_header.specs.Header.{version_of, has_extension, count_of, past_contributors, layout_of, header_of}
use Rattle.rtp_elements.specs.Mask.{among, mask_of, masked_of}

-- ---- the header

-- V, X and CC are the same and, where X = 1, the four bytes of the extension header. Nothing is said of the P bit, nor of any other byte.
pub record SameHeader (p q : List ℕ) : Type 0 where
  pub version : version_of q ≡ version_of p
  pub x : has_extension q ≡ has_extension p
  pub cc : count_of q ≡ count_of p
  pub extension : has_extension p ≡ true → (i : ℕ) → past_contributors p ≤ i → i < past_contributors p + 4 → get_or q i 0 ≡ get_or p i 0

-- then the layout is the same and, for packets of one length, so is the reader's answer
pub record HeaderAlone : Type 0 where
  pub layout : (p q : List ℕ) → SameHeader p q → layout_of q ≡ layout_of p
  pub answer : (p q : List ℕ) (t : ℕ) → SameHeader p q → length q ≡ length p → header_of q t ≡ header_of p t

-- ---- finding

-- In a block that is whole, and whose bytes are below 256, id 0 is never found, and in a one-byte block no id from 15 on is.
pub record NeverFound : Type 0 where
  pub zero-id : (tag : ℕ) (block : List ℕ) → whole_of tag block ≡ true → located_of tag block 0 ≡ Err refusal.Absent
  pub high-id : (block : List ℕ) (id : ℕ) → ((i : ℕ) → get_or block i 0 < 256) → whole_of 0xBEDE block ≡ true → 15 ≤ id → located_of 0xBEDE block id ≡ Err refusal.Absent

-- ---- the mask

-- place k is data of a listed element
abbrev pub covered : (ℕ → Bool) → List Element → ℕ → Bool
covered listed [] k = false
covered listed (e ∷ l) k = (leb e.begin k && (ltb k (e.begin + e.length) && listed e.id)) || covered listed l k

pub record MaskOnData : Type 0 where
  pub same_length : (listed : ℕ → Bool) (tag : ℕ) (block : List ℕ) → length (mask_of listed tag block) ≡ length block
  pub bytes : (listed : ℕ → Bool) (tag : ℕ) (block : List ℕ) (k : ℕ) → k < length block
      → get_or (mask_of listed tag block) k 0 ≡ pick (covered listed (elements_of tag block) k) 0xFF 0x00

-- A block XORed under its mask, with any bytes, has the same elements, ELEMENT answer and masks (also under another list of ids), and the same once more
-- gives the block back. Ids and lengths are never masked.
pub record MaskedReadsAlike : Type 0 where
  pub elements : (listed : ℕ → Bool) (tag : ℕ) (pad : ℕ → ℕ) (block : List ℕ) → elements_of tag (masked_of listed tag pad block) ≡ elements_of tag block
  pub whole : (listed : ℕ → Bool) (tag : ℕ) (pad : ℕ → ℕ) (block : List ℕ) → whole_of tag (masked_of listed tag pad block) ≡ whole_of tag block
  pub mask : (listed other : ℕ → Bool) (tag : ℕ) (pad : ℕ → ℕ) (block : List ℕ) → mask_of other tag (masked_of listed tag pad block) ≡ mask_of other tag block
  pub same_length : (listed : ℕ → Bool) (tag : ℕ) (pad : ℕ → ℕ) (block : List ℕ) → length (masked_of listed tag pad block) ≡ length block
  pub undone : (listed : ℕ → Bool) (tag : ℕ) (pad : ℕ → ℕ) (block : List ℕ) → masked_of listed tag pad (masked_of listed tag pad block) ≡ block

-- RFC 6904, A.2: its mask, for the ids 1, 3 and 4 that it says are encrypted (its later "1, 2, and 4" is a slip)
abbrev pub published_block : List ℕ
published_block =
    0x17 ∷ 0x41 ∷ 0x42 ∷ 0x73 ∷ 0xa4 ∷ 0x75 ∷ 0x26 ∷ 0x27 ∷ 0x48 ∷ 0x22 ∷ 0x00 ∷ 0x00
    ∷ 0xc8 ∷ 0x30 ∷ 0x8e ∷ 0x46 ∷ 0x55 ∷ 0x99 ∷ 0x63 ∷ 0x86 ∷ 0xb3 ∷ 0x95 ∷ 0xfb ∷ 0x00 ∷ []

abbrev pub published_mask : List ℕ
published_mask =
    0x00 ∷ 0xff ∷ 0xff ∷ 0xff ∷ 0xff ∷ 0xff ∷ 0xff ∷ 0xff ∷ 0xff ∷ 0x00 ∷ 0x00 ∷ 0x00
    ∷ 0x00 ∷ 0x00 ∷ 0xff ∷ 0x00 ∷ 0xff ∷ 0xff ∷ 0xff ∷ 0xff ∷ 0xff ∷ 0xff ∷ 0xff ∷ 0x00 ∷ []

pub record MaskIsPublished : Type 0 where
  pub whole : whole_of 0xBEDE published_block ≡ true
  pub mask : mask_of (among (1 ∷ 3 ∷ 4 ∷ [])) 0xBEDE published_block ≡ published_mask
