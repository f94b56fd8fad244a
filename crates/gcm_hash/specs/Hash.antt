-- NIST SP 800-38D, section 7.1: what is hashed.
use Rattle.std.specs.Prelude.{List, ◌++◌, ℕ, length}
use Rattle.ghash.specs.Ghash.{ghash_of, padded_of, lengths_of}

-- algorithm 4, steps 4 and 5: S, of the associated data a and the cipher text c, under the hash subkey h
unfoldable pub hash_of : ℕ → List ℕ → List ℕ → List ℕ
hash_of h a c = ghash_of h (padded_of a ++ (padded_of c ++ lengths_of (length a) (length c)))
