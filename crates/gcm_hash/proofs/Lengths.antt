-- S has sixteen bytes.
use mathlib.Core.Path.{◌≡◌}
use mathlib.Core.List.{List, ◌++◌}
use Prim.Native.Nat.{ℕ}
use lib.ListN.{length}
use Rattle.ghash.specs.Ghash.{padded_of, lengths_of}
use Rattle.ghash.proofs.Lengths.{length-ghash}
use Rattle.gcm_hash.specs.Hash.{hash_of}

pub length-hash : (h : ℕ) (a c : List ℕ) → length (hash_of h a c) ≡ 16
unfolding hash_of
length-hash h a c = length-ghash h (padded_of a ++ (padded_of c ++ lengths_of (length a) (length c)))
