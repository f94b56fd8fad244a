-- What the code's own steps mean: a keystream that is used block by block.
use Rattle.std.specs.Prelude.{◌≡◌, List, ℕ, ◌+◌, ◌-◌, ◌/◌, ◌%◌, ◌≤◌, ◌<◌, ltb}
use Rattle.bits.specs.Pick.{pick}
use Rattle.aes_keystream.specs.declared.keystream.Keystream.{Keystream}
use Rattle.aes.specs.Blocks.{block_from}

-- the bytes to take from one block: the smaller of `left` and the 16 - from that remain
abbrev pub span_of : ℕ → ℕ → ℕ
span_of from left = pick (ltb left (16 - from)) left (16 - from)

-- so all that is left, or up to the block's end
pub record Span (from left n : ℕ) : Type 0 where
  pub fits : from + n ≤ 16
  pub within : n ≤ left
  pub forward : 0 < left → 0 < n
  pub whole : n < left → from + n ≡ 16

-- the keystream has the block of its next byte, unless that block is still to be made
pub record Holds (key start : List ℕ) (s : Keystream) : Type 0 where
  pub block : (s.at % 16 ≡ 0 → ⊥) → s.block ≡ block_from key start (s.at / 16)

-- the keystream r after the block that s held went onto n places or the first of them: where places are left, a new block is next
pub record Used (n : ℕ) (s r : Keystream) : Type 0 where
  pub forward : s.at ≤ r.at
  pub within : r.at ≤ s.at + n
  pub next : r.at < s.at + n → r.at % 16 ≡ 0
