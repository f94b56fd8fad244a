-- The entries of a subkey's table.
use mathlib.Core.Path.{◌≡◌, refl, sym, ap, ap₂, subst, ◌∙◌}
use mathlib.Core.List.{List, [], ◌∷◌}
use Prim.Native.Nat.{ℕ, zero, suc, ◌+◌, ◌*◌, ◌/◌, ◌%◌, ◌<◌}
use native.Mathlib.Nat.{zero-mul, one-mul}
use native.Mathlib.Omega.{arith}
use lib.Bits.{bit_xor, xor_zero_r}
use lib.ListN.{get_or}
use Rattle.bits.specs.Xor.{◌⊕◌}
use Rattle.gf128.specs.Product.{next_of, sum_of}
use Rattle.gf128_product.specs.Steps.{nexts_of, entry_of, Multiples, KeyTable}
use Rattle.gf128.proofs.Products.{sum-linear-left}
use Rattle.gf128_product.proofs.Groups.{nexts-add}

-- ---- multiples: those of one bit, and the sum of two entries

pub none : (v : ℕ) → 0 ≡ sum_of 4 0 v
unfolding sum_of
none v = simp zero-mul

pub first : (v : ℕ) → v ≡ sum_of 4 8 v
unfolding sum_of
first v = simp (zero-mul, one-mul, xor_zero_r)

pub second : (v : ℕ) → next_of v ≡ sum_of 4 4 v
unfolding sum_of
second v = simp (zero-mul, one-mul, xor_zero_r)

pub third : (v : ℕ) → next_of (next_of v) ≡ sum_of 4 2 v
unfolding sum_of
third v = simp (zero-mul, one-mul, xor_zero_r)

pub fourth : (v : ℕ) → next_of (next_of (next_of v)) ≡ sum_of 4 1 v
unfolding sum_of
fourth v = simp (zero-mul, one-mul, xor_zero_r)

pub joined : (v j k x y z : ℕ) → z ≡ x ⊕ y → x ≡ sum_of 4 j v → y ≡ sum_of 4 k v → z ≡ sum_of 4 (j ⊕ k) v
joined v j k x y z e a b = e ∙ ap₂ bit_xor a b ∙ sym (sum-linear-left 4 j k v)

below-four : (P : ℕ → Type 0) → P 0 → P 1 → P 2 → P 3 → (k : ℕ) → k < 4 → P k
below-four P a b c d zero h = a
below-four P a b c d (suc zero) h = b
below-four P a b c d (suc (suc zero)) h = c
below-four P a b c d (suc (suc (suc zero))) h = d
below-four P a b c d (suc (suc (suc (suc k)))) h = absurd (omega arith)

below_two : (P : ℕ → Type 0) → P 0 → P 1 → (k : ℕ) → k < 2 → P k
below_two P a b zero h = a
below_two P a b (suc zero) h = b
below_two P a b (suc (suc k)) h = absurd (omega arith)

pub all-sixteen : (v : ℕ) (t : List ℕ) → let right : ℕ → Type 0 = λ k. entry_of t k ≡ sum_of 4 k v in
    right 0 → right 1 → right 2 → right 3 → right 4 → right 5 → right 6 → right 7
    → right 8 → right 9 → right 10 → right 11 → right 12 → right 13 → right 14 → right 15 → Multiples v t
all-sixteen v t p0 p1 p2 p3 p4 p5 p6 p7 p8 p9 p10 p11 p12 p13 p14 p15 =
    let row : ℕ → ℕ → Type 0 = λ i j. entry_of t (4 * i + j) ≡ sum_of 4 (4 * i + j) v in
    record {
      entry = λ k h.
          let e : 4 * (k / 4) + k % 4 ≡ k = omega arith in
          subst (λ (n : ℕ). entry_of t n ≡ sum_of 4 n v) e
          (below-four (λ i. (j : ℕ) → j < 4 → row i j)
          (below-four (row 0) p0 p1 p2 p3)
          (below-four (row 1) p4 p5 p6 p7)
          (below-four (row 2) p8 p9 p10 p11)
          (below-four (row 3) p12 p13 p14 p15)
          (k / 4) (omega arith) (k % 4) (omega arith));
    }

-- ---- the table of a subkey

-- four bits on
on : (i h x y : ℕ) → x ≡ nexts_of (4 * i) h → y ≡ nexts_of 4 x → y ≡ nexts_of (4 * suc i) h
on i h x y e f =
    let n : 4 * i + 4 ≡ 4 * suc i = omega arith in
    f ∙ ap (nexts_of 4) e ∙ sym (nexts-add (4 * i) 4 h) ∙ ap (λ (k : ℕ). nexts_of k h) n

below-eight : (P : ℕ → Type 0) → P 0 → P 1 → P 2 → P 3 → P 4 → P 5 → P 6 → P 7 → (k : ℕ) → k < 8 → P k
below-eight P a b c d e f g h k l =
    let n : 4 * (k / 4) + k % 4 ≡ k = omega arith in
    subst P n
    (below_two (λ i. (j : ℕ) → j < 4 → P (4 * i + j)) (below-four (λ j. P (4 * 0 + j)) a b c d) (below-four (λ j. P (4 * 1 + j)) e f g h) (k / 4) (omega arith) (k % 4) (omega arith))

pub eight-lists : (h h1 h2 h3 h4 h5 h6 h7 : ℕ) (t0 t1 t2 t3 t4 t5 t6 t7 : List ℕ)
    → h1 ≡ nexts_of 4 h → h2 ≡ nexts_of 4 h1 → h3 ≡ nexts_of 4 h2 → h4 ≡ nexts_of 4 h3 → h5 ≡ nexts_of 4 h4 → h6 ≡ nexts_of 4 h5 → h7 ≡ nexts_of 4 h6
    → Multiples h t0 → Multiples h1 t1 → Multiples h2 t2 → Multiples h3 t3 → Multiples h4 t4 → Multiples h5 t5 → Multiples h6 t6 → Multiples h7 t7
    → KeyTable h (t0 ∷ t1 ∷ t2 ∷ t3 ∷ t4 ∷ t5 ∷ t6 ∷ t7 ∷ [])
unfolding nexts_of
eight-lists h h1 h2 h3 h4 h5 h6 h7 t0 t1 t2 t3 t4 t5 t6 t7 e1 e2 e3 e4 e5 e6 e7 m0 m1 m2 m3 m4 m5 m6 m7 =
    let t = t0 ∷ t1 ∷ t2 ∷ t3 ∷ t4 ∷ t5 ∷ t6 ∷ t7 ∷ [] in
    let of : (u : List ℕ) (x y : ℕ) → x ≡ y → Multiples x u → Multiples y u = λ u x y e m. subst (λ (v : ℕ). Multiples v u) e m in
    let f1 = on 0 h h h1 refl e1 in
    let f2 = on 1 h h1 h2 f1 e2 in
    let f3 = on 2 h h2 h3 f2 e3 in
    let f4 = on 3 h h3 h4 f3 e4 in
    let f5 = on 4 h h4 h5 f4 e5 in
    let f6 = on 5 h h5 h6 f5 e6 in
    let f7 = on 6 h h6 h7 f6 e7 in
    record {
      multiples = below-eight (λ i. Multiples (nexts_of (4 * i) h) (get_or t i []))
          m0 (of t1 h1 _ f1 m1) (of t2 h2 _ f2 m2) (of t3 h3 _ f3 m3) (of t4 h4 _ f4 m4) (of t5 h5 _ f5 m5) (of t6 h6 _ f6 m6) (of t7 h7 _ f7 m7);
    }
