-- Laws of the product: both its factors are linear in the exclusive or, and a block times x is a step to the next V.
use mathlib.Core.Path.{◌≡◌, refl, sym, ap, ap₂, ◌∙◌}
use Prim.Native.Nat.{ℕ, zero, suc, ◌*◌, ◌/◌, ◌%◌, ◌^◌, ◌<◌}
use native.Mathlib.Nat.{zero-mul, one-mul, mod-lt, zero-lt-suc}
use native.Mathlib.Omega.{arith}
use lib.Bits.{bit_xor, xor_zero_l, xor_zero_r, xor_self, xor_comm, xor_shr, xor_mod}
use Rattle.bits.specs.Xor.{◌⊕◌}
use Rattle.bits.proofs.Xor.{xor_assoc}
use Rattle.gf128.specs.Product.{r128, next_of, sum_of}

pub xor-swap : (a b c d : ℕ) → a ⊕ b ⊕ (c ⊕ d) ≡ a ⊕ c ⊕ (b ⊕ d)
xor-swap a b c d =
    xor_assoc a b (c ⊕ d)
    ∙ ap (bit_xor a) (sym (xor_assoc b c d) ∙ ap (λ (n : ℕ). n ⊕ d) (xor_comm b c) ∙ xor_assoc c b d)
    ∙ sym (xor_assoc a c (b ⊕ d))

-- ---- a bit as a factor

bit-lt : (x : ℕ) → x % 2 < 2
bit-lt x = mod-lt x (zero-lt-suc 1)

bit-over : (b v w : ℕ) → b < 2 → b * (v ⊕ w) ≡ (b * v) ⊕ (b * w)
bit-over zero v w h = simp zero-mul
bit-over (suc zero) v w h = simp one-mul
bit-over (suc (suc b)) v w h = absurd (omega arith)

bits-over : (p q v : ℕ) → p < 2 → q < 2 → (p ⊕ q) * v ≡ (p * v) ⊕ (q * v)
bits-over zero q v h k = simp (xor_zero_l, zero-mul)
bits-over (suc zero) zero v h k = simp (zero-mul, xor_zero_r)
bits-over (suc zero) (suc zero) v h k = simp (zero-mul, xor_self)
bits-over (suc zero) (suc (suc q)) v h k = absurd (omega arith)
bits-over (suc (suc p)) q v h k = absurd (omega arith)

-- ---- the step

pub next-linear : (a b : ℕ) → next_of (a ⊕ b) ≡ next_of a ⊕ next_of b
next-linear a b =
    ap₂ bit_xor (xor_shr a b 1) (ap (λ (n : ℕ). n * r128) (xor_mod a b 1) ∙ bits-over (a % 2) (b % 2) r128 (bit-lt a) (bit-lt b))
    ∙ xor-swap (a / 2) (b / 2) (a % 2 * r128) (b % 2 * r128)

next_bit : (b v : ℕ) → b < 2 → next_of (b * v) ≡ b * next_of v
next_bit zero v h = simp zero-mul
next_bit (suc zero) v h = simp one-mul
next_bit (suc (suc b)) v h = absurd (omega arith)

-- ---- the sum

pub sum-linear : (n x a b : ℕ) → sum_of n x (a ⊕ b) ≡ sum_of n x a ⊕ sum_of n x b
unfolding sum_of
sum-linear zero x a b = refl
sum-linear (suc n) x a b =
    let p = x / 2 ^ n % 2 in
    ap₂ bit_xor (bit-over p a b (bit-lt (x / 2 ^ n))) (ap (sum_of n x) (next-linear a b) ∙ sum-linear n x (next_of a) (next_of b))
    ∙ xor-swap (p * a) (p * b) (sum_of n x (next_of a)) (sum_of n x (next_of b))

pub sum-linear-left : (n x y v : ℕ) → sum_of n (x ⊕ y) v ≡ sum_of n x v ⊕ sum_of n y v
unfolding sum_of
sum-linear-left zero x y v = refl
sum-linear-left (suc n) x y v =
    let p = x / 2 ^ n % 2 in
    let q = y / 2 ^ n % 2 in
    ap₂ bit_xor
    (ap (λ (k : ℕ). k * v) (ap (λ (k : ℕ). k % 2) (xor_shr x y n) ∙ xor_mod (x / 2 ^ n) (y / 2 ^ n) 1) ∙ bits-over p q v (bit-lt (x / 2 ^ n)) (bit-lt (y / 2 ^ n)))
    (sum-linear-left n x y (next_of v))
    ∙ xor-swap (p * v) (q * v) (sum_of n x (next_of v)) (sum_of n y (next_of v))

pub sum-next : (n x v : ℕ) → sum_of n x (next_of v) ≡ next_of (sum_of n x v)
unfolding sum_of
sum-next zero x v = refl
sum-next (suc n) x v =
    let p = x / 2 ^ n % 2 in
    ap₂ bit_xor (sym (next_bit p v (bit-lt (x / 2 ^ n)))) (sum-next n x (next_of v))
    ∙ sym (next-linear (p * v) (sum_of n x (next_of v)))
