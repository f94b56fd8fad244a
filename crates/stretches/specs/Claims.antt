-- What is claimed of stretches, of any keystream (document 02, CR 6; RFC 3711, 4.1).
use Rattle.std.specs.Prelude.{◌≡◌, List, ◌++◌, ℕ, ◌+◌, ◌-◌, ◌/◌, ◌^◌, ◌≤◌, ◌<◌, length, take, drop}
use Rattle.bits.specs.Xor.{xor_pad}
use Rattle.stretches.specs.Stretch.{stretch_by, stretch_pad}

-- "Two neighbouring stretches give what one joined stretch gives, wherever the joined one isn't refused": for every keystream, start and buffer, wherever
-- the buffer is cut in two. The second ends where the joined one does, so it has its number, LARGE too; the first may be taken where the joined one is LARGE.
pub record NeighboursJoin (stream : ℕ → ℕ) (start : ℕ) (front back : List ℕ) : Type 0 where
  pub first : (stretch_by stream start (front ++ back)).number ≡ 0 → (stretch_by stream start front).number ≡ 0
  pub second : (stretch_by stream (start + length front) back).number ≡ (stretch_by stream start (front ++ back)).number
  pub bytes : (stretch_by stream start (front ++ back)).number ≡ 0
      → (stretch_by stream start front).bytes ++ (stretch_by stream (start + length front) back).bytes ≡ (stretch_by stream start (front ++ back)).bytes

pub record Stretches : Type 0 where
  pub joined : (stream : ℕ → ℕ) (start : ℕ) (front back : List ℕ) → NeighboursJoin stream start front back
  -- LARGE is the one refusal: it is given exactly where the end passes 2^20, and then the bytes are untouched
  pub large : (stream : ℕ → ℕ) (start : ℕ) (l : List ℕ) → 2 ^ 20 < start + length l → stretch_by stream start l ≡ record { number = 7; bytes = l }
  pub taken : (stream : ℕ → ℕ) (start : ℕ) (l : List ℕ) → start + length l ≤ 2 ^ 20
      → stretch_by stream start l ≡ record { number = 0; bytes = xor_pad (λ k. stream (start + k)) l }
  -- the length stays, and the same stretch once more gives the bytes back
  pub same_length : (stream : ℕ → ℕ) (start : ℕ) (l : List ℕ) → length (stretch_by stream start l).bytes ≡ length l
  pub undone : (stream : ℕ → ℕ) (start : ℕ) (l : List ℕ) → (stretch_by stream start (stretch_by stream start l).bytes).bytes ≡ l
  -- in place: the part from a up to e under its stretch, and every other byte as it was
  pub placed : (stream : ℕ → ℕ) (a e o : ℕ) (l : List ℕ) → a ≤ e → e ≤ length l → (stretch_by stream o (take (e - a) (drop a l))).number ≡ 0
      → xor_pad (stretch_pad a e o stream) l ≡ take a l ++ ((stretch_by stream o (take (e - a) (drop a l))).bytes ++ drop e l)

-- the blocks that cover n bytes of keystream from its first
abbrev pub blocks_for : ℕ → ℕ
blocks_for n = (n + 15) / 16
