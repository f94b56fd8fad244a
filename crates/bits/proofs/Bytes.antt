-- The toolchain's test that a list holds bytes (lib.Pow's `are_bytes`), taken apart and put together.
use mathlib.Core.List.{List, [], ◌∷◌}
use Prim.Native.Nat.{ℕ, zero, suc, ◌<◌}
use lib.Dec.{T, ltb, ltb→lt, lt→ltb}
use lib.Ieee.Fits.{and_i, and_l, and_r}
use lib.ListN.{get_or, set}
use lib.Pow.{are_bytes}

pub first_byte : (x : ℕ) (l : List ℕ) → T (are_bytes (x ∷ l)) → x < 256
first_byte x l t = ltb→lt x 256 (and_l (ltb x 256) (are_bytes l) t)

pub other-bytes : (x : ℕ) (l : List ℕ) → T (are_bytes (x ∷ l)) → T (are_bytes l)
other-bytes x l t = and_r (ltb x 256) (are_bytes l) t

pub cons-bytes : (x : ℕ) (l : List ℕ) → x < 256 → T (are_bytes l) → T (are_bytes (x ∷ l))
cons-bytes x l h t = and_i (ltb x 256) (are_bytes l) (lt→ltb x 256 h) t

-- from a bound at each place
pub are-bytes : (l : List ℕ) → ((i : ℕ) → get_or l i 0 < 256) → T (are_bytes l)
are-bytes [] h = tt
are-bytes (x ∷ l) h = cons-bytes x l (h 0) (are-bytes l (λ i. h (suc i)))

-- a byte stored
pub set-bytes : (l : List ℕ) (i v : ℕ) → T (are_bytes l) → v < 256 → T (are_bytes (set l i v))
set-bytes [] i v t h = tt
set-bytes (x ∷ l) zero v t h = cons-bytes v l h (other-bytes x l t)
set-bytes (x ∷ l) (suc i) v t h = cons-bytes x (set l i v) (first_byte x l t) (set-bytes l i v (other-bytes x l t) h)
