-- Laws of words and of columns kept as one number.
use mathlib.Core.Path.{◌≡◌, ap, ap₂, ◌∙◌}
use mathlib.Core.List.{List, [], ◌∷◌}
use Prim.Native.Nat.{ℕ, ◌+◌, ◌*◌, ◌<◌}
use native.Mathlib.Omega.{arith}
use mir.Syntax.{w8}
use mir.Val.{Fits}
use lib.ListN.{get_or}
use Rattle.bits.specs.Lists.{tabulate}
use Rattle.bits.specs.Xor.{◌⊕◌, xor_list}
use Rattle.bits.proofs.Xor.{xor-byte}
use Rattle.aes_tables.specs.Tables.{unpack_of}

-- what an array of four bytes is known to hold
pub record FourBytes (a : List ℕ) : Type 0 where
  pub b0 : Fits w8 (get_or a 0 0)
  pub b1 : Fits w8 (get_or a 1 0)
  pub b2 : Fits w8 (get_or a 2 0)
  pub b3 : Fits w8 (get_or a 3 0)

pub cons2 : {A : Type 0} {a b p q : A} → a ≡ p → b ≡ q → a ∷ b ∷ [] ≡ p ∷ q ∷ []
cons2 e f = cc

pub cons4 : {A : Type 0} {a b c d p q r s : A} → a ≡ p → b ≡ q → c ≡ r → d ≡ s → a ∷ b ∷ c ∷ d ∷ [] ≡ p ∷ q ∷ r ∷ s ∷ []
cons4 e f g h = cc

-- the sum of two packed columns is the sum of the columns
pub unpack-xor : (x y : ℕ) → unpack_of (x ⊕ y) ≡ xor_list (unpack_of x) (unpack_of y)
unpack-xor x y = cons4 (xor-byte 0 x y) (xor-byte 1 x y) (xor-byte 2 x y) (xor-byte 3 x y)

-- and of two that are known
pub both : (x y : ℕ) (a b : List ℕ) → unpack_of x ≡ a → unpack_of y ≡ b → unpack_of (x ⊕ y) ≡ xor_list a b
both x y a b e f = unpack-xor x y ∙ ap₂ xor_list e f

-- two or three columns and a packed word, which is spelt out
module _ (x y p : ℕ) (a b k : List ℕ) (e : unpack_of x ≡ a) (f : unpack_of y ≡ b) (h : unpack_of p ≡ k) where
  spelt : unpack_of p ≡ tabulate 4 (λ r. get_or k r 0)
  spelt = ap (λ (l : List ℕ). tabulate 4 (λ r. get_or l r 0)) h

  pub two-and : unpack_of (x ⊕ y ⊕ p) ≡ xor_list (xor_list a b) (tabulate 4 (λ r. get_or k r 0))
  two-and = both (x ⊕ y) p (xor_list a b) (tabulate 4 (λ r. get_or k r 0)) (both x y a b e f) spelt

  pub three-and : (z : ℕ) (c : List ℕ) → unpack_of z ≡ c → unpack_of (x ⊕ y ⊕ z ⊕ p) ≡ xor_list (xor_list (xor_list a b) c) (tabulate 4 (λ r. get_or k r 0))
  three-and z c g =
      both (x ⊕ y ⊕ z) p (xor_list (xor_list a b) c) (tabulate 4 (λ r. get_or k r 0)) (both (x ⊕ y) z (xor_list a b) c (both x y a b e f) g) spelt

-- four bytes packed and unpacked again
pub unpacked : (a b c d : ℕ) → a < 256 → b < 256 → c < 256 → d < 256 → unpack_of (a + b * 256 + c * 65536 + d * 16777216) ≡ a ∷ b ∷ c ∷ d ∷ []
unpacked a b c d la lb lc ld = cons4 (omega arith) (omega arith) (omega arith) (omega arith)
