-- RFC 3550, sections 5.1 and 5.3.1: where the parts of a packet begin, and whether its header can be read.
use Rattle.bits.specs.declared.refusal.Refusal.{Refusal}
use Rattle.std.specs.Prelude.{Bool, true, false, not, List, [], ◌∷◌, ℕ, ◌+◌, ◌-◌, ◌*◌, ◌/◌, ◌%◌, eqb, ltb, length, get_or, take, drop, Result, Ok, Err}
use Rattle.bits.specs.BigEndian.{from_bytes}
use Rattle.bits.specs.Pick.{pick}
use Rattle.bits.specs.Refusals.{number_of}
use Rattle.bits.specs.declared.refusal.Refusal.TheVariants as refusal
use Rattle.rtp_header.specs.declared.header.Layout.{Layout}

-- 5.1: V, X and CC of the first byte; P, between V and X, is not looked at
abbrev pub version_of : List ℕ → ℕ
version_of p = get_or p 0 0 / 64

abbrev pub has_extension : List ℕ → Bool
has_extension p = eqb (get_or p 0 0 / 16 % 2) 1

abbrev pub count_of : List ℕ → ℕ
count_of p = get_or p 0 0 % 16

-- a field of 16 bits at place i
abbrev pub field16 : List ℕ → ℕ → ℕ
field16 p i = from_bytes (get_or p i 0 ∷ get_or p (i + 1) 0 ∷ [])

-- 5.1: the sequence number and the SSRC
unfoldable pub seq_of : List ℕ → ℕ
seq_of p = field16 p 2

unfoldable pub ssrc_of : List ℕ → ℕ
ssrc_of p = from_bytes (get_or p 8 0 ∷ get_or p 9 0 ∷ get_or p 10 0 ∷ get_or p 11 0 ∷ [])

-- The fixed header has 12 bytes, each contributing source 4.
abbrev pub past_contributors : List ℕ → ℕ
past_contributors p = 12 + 4 * count_of p

-- 5.3.1, X = 1: the field "defined by profile" (document 01 calls it the tag) and the length in words, which does not count these four bytes; then the block
abbrev pub layout_by : Bool → List ℕ → Layout
layout_by true p =
    record {
      cc = count_of p;
      x = true;
      tag = field16 p (past_contributors p);
      contributors = 12;
      extension = past_contributors p;
      block = past_contributors p + 4;
      payload = past_contributors p + 4 + 4 * field16 p (past_contributors p + 2);
    }
-- X = 0: no tag, and block and payload begin after the contributing sources. The standard leaves these values free
layout_by false p =
    record {
      cc = count_of p;
      x = false;
      tag = 0;
      contributors = 12;
      extension = past_contributors p;
      block = past_contributors p;
      payload = past_contributors p;
    }

unfoldable pub layout_of : List ℕ → Layout
layout_of p = layout_by (has_extension p) p

-- the bytes of the extension's block: none where X = 0
abbrev pub block_of : Layout → List ℕ → List ℕ
block_of h p = take (h.payload - h.block) (drop h.block p)

-- The payload begins where contributing sources, extension header and block have ended, so one test tells whether any of them passes the end:
-- where the extension header itself does, whatever length is read there.
unfoldable pub bounded_of : List ℕ → ℕ → Result Layout Refusal
bounded_of p end = pick (ltb end (layout_of p).payload) (Err refusal.Header) (Ok (layout_of p))

-- document 01, refusals 2 to 4, of a packet whose last t bytes are its authentication tag (t = 0 on sending and finding): the header may not reach into it
unfoldable pub header_of : List ℕ → ℕ → Result Layout Refusal
header_of p t =
    pick (ltb (length p) (12 + t)) (Err refusal.Short)
    (pick (not (eqb (version_of p) 2)) (Err refusal.Version)
    (bounded_of p (length p - t)))

-- the number of a reader's answer: 0 where the header was read
abbrev pub header_number : Result Layout Refusal → ℕ
header_number (Ok h) = 0
header_number (Err r) = number_of r
