-- A hash has sixteen bytes.
use mathlib.Core.Path.{◌≡◌}
use mathlib.Core.List.{List}
use Prim.Native.Nat.{ℕ, ◌/◌}
use lib.ListN.{length}
use Rattle.bits.proofs.BigEndian.{length_to}
use Rattle.ghash.specs.Ghash.{value_after, ghash_of}

pub length-ghash : (h : ℕ) (l : List ℕ) → length (ghash_of h l) ≡ 16
unfolding ghash_of
length-ghash h l = length_to 16 (value_after h l (length l / 16))
