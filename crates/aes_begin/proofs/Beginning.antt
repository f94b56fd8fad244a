-- The first two rounds from what their states have in common: the missing bytes are added last.
use mathlib.Core.Path.{◌≡◌, sym, ap, subst, ◌∙◌}
use mathlib.Core.List.{List, [], ◌∷◌}
use Prim.Native.Nat.{ℕ}
use lib.ListN.{get_or}
use Rattle.bits.specs.Xor.{◌⊕◌, xor_list}
use Rattle.aes_begin.specs.declared.begin.Begun.{Begun}
use Rattle.aes_tables.specs.Cipher.{sbox_of, at, mix_column, round_of}
use Rattle.aes_tables.specs.Tables.{unpack_of, row0_of, row1_of, row2_of, row3_of}
use Rattle.aes_shared.specs.Shared.{key_word, SecondColumns}
use Rattle.aes_begin.specs.Steps.{Begins}
use Rattle.aes_tables.proofs.Rounds.{round_is}
use Rattle.aes_tables.proofs.Words.{cons4}
use Rattle.aes_columns.proofs.Sums.{swap, order2, order01, order03, order23, order12, column}

module _ (a b c d : ℕ) (k : List (List ℕ)) (j : ℕ) where
  last3 : xor_list (xor_list (xor_list (xor_list (row0_of a) (row1_of b)) (row2_of c)) (key_word k j)) (row3_of d) ≡ xor_list (mix_column a b c d) (get_or k j [])
  last3 = column (λ a b c d k. a ⊕ b ⊕ c ⊕ k ⊕ d) (λ a b c d k. swap (a ⊕ b ⊕ c) k d) a b c d (get_or k j [])

  last2 : xor_list (xor_list (xor_list (xor_list (row0_of a) (row1_of b)) (row3_of d)) (key_word k j)) (row2_of c) ≡ xor_list (mix_column a b c d) (get_or k j [])
  last2 = column (λ a b c d k. a ⊕ b ⊕ d ⊕ k ⊕ c) order2 a b c d (get_or k j [])

  last01 : xor_list (xor_list (row0_of a) (row1_of b)) (xor_list (xor_list (row2_of c) (row3_of d)) (key_word k j)) ≡ xor_list (mix_column a b c d) (get_or k j [])
  last01 = column (λ a b c d k. a ⊕ b ⊕ (c ⊕ d ⊕ k)) order01 a b c d (get_or k j [])

  last03 : xor_list (xor_list (row0_of a) (xor_list (xor_list (row1_of b) (row2_of c)) (key_word k j))) (row3_of d) ≡ xor_list (mix_column a b c d) (get_or k j [])
  last03 = column (λ a b c d k. a ⊕ (b ⊕ c ⊕ k) ⊕ d) order03 a b c d (get_or k j [])

  last23 : xor_list (xor_list (xor_list (xor_list (row0_of a) (row1_of b)) (key_word k j)) (row2_of c)) (row3_of d) ≡ xor_list (mix_column a b c d) (get_or k j [])
  last23 = column (λ a b c d k. a ⊕ b ⊕ k ⊕ c ⊕ d) order23 a b c d (get_or k j [])

  last12 : xor_list (xor_list (xor_list (xor_list (row0_of a) (row3_of d)) (key_word k j)) (row1_of b)) (row2_of c) ≡ xor_list (mix_column a b c d) (get_or k j [])
  last12 = column (λ a b c d k. a ⊕ d ⊕ k ⊕ b ⊕ c) order12 a b c d (get_or k j [])

-- ---- the first round, of a state that was begun

module _ (s k l : List (List ℕ)) (b : Begun) (h : Begins s k l b) where
  pub after_first : (p q : List ℕ)
      → p ≡ xor_list (unpack_of (get_or b.first 0 0)) (row3_of (sbox_of (at s 3 3)))
      → q ≡ xor_list (unpack_of (get_or b.first 1 0)) (row2_of (sbox_of (at s 2 3)))
      → p ∷ q ∷ b.column2 ∷ b.column3 ∷ [] ≡ round_of s k
  after_first p q ep eq =
      let e = round_is s k in
      cons4
      (ep ∙ ap (λ (x : List ℕ). xor_list x (row3_of (sbox_of (at s 3 3)))) h.first.column0
      ∙ last3 (sbox_of (at s 0 0)) (sbox_of (at s 1 1)) (sbox_of (at s 2 2)) (sbox_of (at s 3 3)) k 0)
      (eq ∙ ap (λ (x : List ℕ). xor_list x (row2_of (sbox_of (at s 2 3)))) h.first.column1
      ∙ last2 (sbox_of (at s 0 1)) (sbox_of (at s 1 2)) (sbox_of (at s 2 3)) (sbox_of (at s 3 0)) k 1)
      (h.column2 ∙ ap (λ (x : List (List ℕ)). get_or x 2 []) e)
      (h.column3 ∙ ap (λ (x : List (List ℕ)). get_or x 3 []) e)
      ∙ sym e

-- ---- the second round, of the state t

-- columns 2 and 3 of the state that the first round has left are those that were begun
pub left : (s k t l : List (List ℕ)) (b : Begun) → t ≡ round_of s k → Begins s k l b → SecondColumns (get_or t 2 []) (get_or t 3 []) l b.second
left s k t l b e h =
    subst (λ (u : List ℕ). SecondColumns u (get_or t 3 []) l b.second) (h.column2 ∙ ap (λ (x : List (List ℕ)). get_or x 2 []) (sym e))
    (subst (λ (v : List ℕ). SecondColumns b.column2 v l b.second) (h.column3 ∙ ap (λ (x : List (List ℕ)). get_or x 3 []) (sym e)) h.second)

-- The columns that the code adds up.
pub record Added (b : Begun) (t : List (List ℕ)) (c d e f : List ℕ) : Type 0 where
  pub is_c : c ≡ xor_list (xor_list (row0_of (sbox_of (at t 0 0))) (row1_of (sbox_of (at t 1 1)))) (unpack_of (get_or b.second 0 0))
  pub is-d : d ≡ xor_list (xor_list (row0_of (sbox_of (at t 0 1))) (unpack_of (get_or b.second 1 0))) (row3_of (sbox_of (at t 3 0)))
  pub is-e : e ≡ xor_list (xor_list (unpack_of (get_or b.second 2 0)) (row2_of (sbox_of (at t 2 0)))) (row3_of (sbox_of (at t 3 1)))
  pub is_f : f ≡ xor_list (xor_list (unpack_of (get_or b.second 3 0)) (row1_of (sbox_of (at t 1 0)))) (row2_of (sbox_of (at t 2 1)))

module _ (t l : List (List ℕ)) (b : Begun) (h : SecondColumns (get_or t 2 []) (get_or t 3 []) l b.second) (c d e f : List ℕ) (added : Added b t c d e f) where
  pub after-second : c ∷ d ∷ e ∷ f ∷ [] ≡ round_of t l
  after-second =
      cons4
      (added.is_c ∙ ap (λ (x : List ℕ). xor_list (xor_list (row0_of (sbox_of (at t 0 0))) (row1_of (sbox_of (at t 1 1)))) x) h.column0
      ∙ last01 (sbox_of (at t 0 0)) (sbox_of (at t 1 1)) (sbox_of (at t 2 2)) (sbox_of (at t 3 3)) l 0)
      (added.is-d ∙ ap (λ (x : List ℕ). xor_list (xor_list (row0_of (sbox_of (at t 0 1))) x) (row3_of (sbox_of (at t 3 0)))) h.column1
      ∙ last03 (sbox_of (at t 0 1)) (sbox_of (at t 1 2)) (sbox_of (at t 2 3)) (sbox_of (at t 3 0)) l 1)
      (added.is-e ∙ ap (λ (x : List ℕ). xor_list (xor_list x (row2_of (sbox_of (at t 2 0)))) (row3_of (sbox_of (at t 3 1)))) h.column2
      ∙ last23 (sbox_of (at t 0 2)) (sbox_of (at t 1 3)) (sbox_of (at t 2 0)) (sbox_of (at t 3 1)) l 2)
      (added.is_f ∙ ap (λ (x : List ℕ). xor_list (xor_list x (row1_of (sbox_of (at t 1 0)))) (row2_of (sbox_of (at t 2 1)))) h.column3
      ∙ last12 (sbox_of (at t 0 3)) (sbox_of (at t 1 0)) (sbox_of (at t 2 1)) (sbox_of (at t 3 2)) l 3)
      ∙ sym (round_is t l)

-- ---- the last two bytes do not matter

-- a state with x and y for its last two bytes
abbrev pub ending_of : List (List ℕ) → ℕ → ℕ → List (List ℕ)
ending_of s x y = get_or s 0 [] ∷ get_or s 1 [] ∷ get_or s 2 [] ∷ (at s 0 3 ∷ at s 1 3 ∷ x ∷ y ∷ []) ∷ []

pub alike : (s k l : List (List ℕ)) (b : Begun) (x y : ℕ) → Begins s k l b → Begins (ending_of s x y) k l b
alike s k l b x y h =
    let e = round_is s k in
    let f = sym (round_is (ending_of s x y) k) in
    record {
      first = record { column0 = h.first.column0; column1 = h.first.column1 };
      column2 = h.column2 ∙ ap (λ (z : List (List ℕ)). get_or z 2 []) e ∙ ap (λ (z : List (List ℕ)). get_or z 2 []) f;
      column3 = h.column3 ∙ ap (λ (z : List (List ℕ)). get_or z 3 []) e ∙ ap (λ (z : List (List ℕ)). get_or z 3 []) f;
      second = h.second;
    }
