-- The memory of accepted indices, which RFC 3711, 3.3.2, calls the replay list: a ring of b blocks of 64 indices, each stamped with its number.
use Rattle.std.specs.Prelude.{Bool, List, ℕ, ◌/◌, ◌%◌, ◌^◌, eqb, get_or, set}
use Rattle.std.specs.Int.Bits.{bit_or}
use Rattle.bits.specs.Bits.{is_set}
use Rattle.bits.specs.Pick.{pick}

-- Bit k of bits[n % b] says that index 64 * n + k was accepted, where stamps[n % b] is n.
pub record Window : Type 0 where
  pub stamps : List ℕ
  pub bits : List ℕ

-- This library's ring, and its width W. A ring of b blocks remembers every width up to 64 * (b - 1) (the claim `FollowsTheLedger`).
abbrev pub blocks : ℕ
blocks = 2

abbrev pub width : ℕ
width = 64

-- the bits of block n, which stands in place n % b: none where the stamp there is another block's
abbrev pub block_of : ℕ → Window → ℕ → ℕ
block_of b w n = pick (eqb (get_or w.stamps (n % b) 0) n) (get_or w.bits (n % b) 0) 0

-- index i is marked as accepted: no longer so once another block stands in its place
unfoldable pub seen_in : ℕ → Window → ℕ → Bool
seen_in b w i = is_set (block_of b w (i / 64)) (i % 64)

-- the window with index i accepted
unfoldable pub mark_of : ℕ → Window → ℕ → Window
mark_of b w i =
    record {
      stamps = set w.stamps (i / 64 % b) (i / 64);
      bits = set w.bits (i / 64 % b) (bit_or (block_of b w (i / 64)) (2 ^ (i % 64)));
    }
