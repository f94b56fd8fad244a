-- The order of a sum does not matter: sums in the orders of the code, and columns of them.
use mathlib.Core.Path.{◌≡◌, sym, ap, ◌∙◌}
use mathlib.Core.List.{List, [], ◌∷◌}
use Prim.Native.Nat.{ℕ}
use lib.Bits.{xor_comm}
use lib.ListN.{get_or}
use Rattle.bits.specs.Xor.{◌⊕◌, xor_list}
use Rattle.bits.proofs.Xor.{xor_assoc}
use Rattle.aes_tables.specs.Field.{◌•◌}
use Rattle.aes_tables.specs.Cipher.{mix_column}
use Rattle.aes_tables.specs.Tables.{unpack_of, row0_of, row1_of, row2_of, row3_of}
use Rattle.aes_tables.proofs.Words.{both, cons4}

pub swap : (x a b : ℕ) → x ⊕ a ⊕ b ≡ x ⊕ b ⊕ a
swap x a b = xor_assoc x a b ∙ ap (λ (v : ℕ). x ⊕ v) (xor_comm a b) ∙ sym (xor_assoc x b a)

pub order2 : (a b c d k : ℕ) → a ⊕ b ⊕ d ⊕ k ⊕ c ≡ a ⊕ b ⊕ c ⊕ d ⊕ k
order2 a b c d k = swap (a ⊕ b ⊕ d) k c ∙ ap (λ (v : ℕ). v ⊕ k) (swap (a ⊕ b) d c)

pub order01 : (a b c d k : ℕ) → a ⊕ b ⊕ (c ⊕ d ⊕ k) ≡ a ⊕ b ⊕ c ⊕ d ⊕ k
order01 a b c d k = sym (xor_assoc (a ⊕ b) (c ⊕ d) k) ∙ ap (λ (v : ℕ). v ⊕ k) (sym (xor_assoc (a ⊕ b) c d))

pub order03 : (a b c d k : ℕ) → a ⊕ (b ⊕ c ⊕ k) ⊕ d ≡ a ⊕ b ⊕ c ⊕ d ⊕ k
order03 a b c d k =
    ap (λ (v : ℕ). v ⊕ d) (sym (xor_assoc a (b ⊕ c) k) ∙ ap (λ (v : ℕ). v ⊕ k) (sym (xor_assoc a b c))) ∙ swap (a ⊕ b ⊕ c) k d

pub order23 : (a b c d k : ℕ) → a ⊕ b ⊕ k ⊕ c ⊕ d ≡ a ⊕ b ⊕ c ⊕ d ⊕ k
order23 a b c d k = ap (λ (v : ℕ). v ⊕ d) (swap (a ⊕ b) k c) ∙ swap (a ⊕ b ⊕ c) k d

pub order12 : (a b c d k : ℕ) → a ⊕ d ⊕ k ⊕ b ⊕ c ≡ a ⊕ b ⊕ c ⊕ d ⊕ k
order12 a b c d k = ap (λ (v : ℕ). v ⊕ c) (swap (a ⊕ d) k b ∙ ap (λ (v : ℕ). v ⊕ k) (swap a d b)) ∙ order2 a b c d k

pub order31 : (a b c d k : ℕ) → a ⊕ k ⊕ d ⊕ b ⊕ c ≡ a ⊕ b ⊕ c ⊕ d ⊕ k
order31 a b c d k = ap (λ (v : ℕ). v ⊕ b ⊕ c) (swap a k d) ∙ order12 a b c d k

-- a sum of numbers in some order, taken at each byte of a column, is the column of the round
pub column : (f : ℕ → ℕ → ℕ → ℕ → ℕ → ℕ) → ((a b c d k : ℕ) → f a b c d k ≡ a ⊕ b ⊕ c ⊕ d ⊕ k) → (a b c d : ℕ) (k : List ℕ)
    → f (2 • a) (3 • b) c d (get_or k 0 0) ∷ f a (2 • b) (3 • c) d (get_or k 1 0) ∷ f a b (2 • c) (3 • d) (get_or k 2 0) ∷ f (3 • a) b c (2 • d) (get_or k 3 0) ∷ []
    ≡ xor_list (mix_column a b c d) k
column f p a b c d k =
    cons4 (p (2 • a) (3 • b) c d (get_or k 0 0)) (p a (2 • b) (3 • c) d (get_or k 1 0)) (p a b (2 • c) (3 • d) (get_or k 2 0)) (p (3 • a) b c (2 • d) (get_or k 3 0))

-- what the four bytes bring and the key's word, unpacked, is the column of the round
pub mixed : (x y z w p a b c d : ℕ) (k : List ℕ) → unpack_of x ≡ row0_of a → unpack_of y ≡ row1_of b → unpack_of z ≡ row2_of c → unpack_of w ≡ row3_of d
    → unpack_of p ≡ k → unpack_of (x ⊕ p ⊕ w ⊕ y ⊕ z) ≡ xor_list (mix_column a b c d) k
mixed x y z w p a b c d k e f g h i =
    both (x ⊕ p ⊕ w ⊕ y) z _ _ (both (x ⊕ p ⊕ w) y _ _ (both (x ⊕ p) w _ _ (both x p _ _ e i) h) f) g
    ∙ column (λ a b c d k. a ⊕ k ⊕ d ⊕ b ⊕ c) order31 a b c d k
