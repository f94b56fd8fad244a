-- A factor's bits in groups: what a group of steps does to a block, and what a group of bits adds to a product.
use mathlib.Core.Path.{◌≡◌, refl, sym, ap, ap₂, ◌∙◌}
use Prim.Native.Nat.{ℕ, zero, suc, ◌+◌, ◌-◌, ◌*◌, ◌/◌, ◌%◌, ◌^◌, ◌<◌}
use native.Mathlib.Nat.{add_comm, zero-add, suc-add, mod-lt, pow-succ'}
use native.Mathlib.Omega.{arith}
use lib.Bits.{bit_xor, xor_zero_l, xor_zero_r, xor_comm, xor_shifted}
use lib.Pow.{pow_pos, split, high, low, field, mod-mod-pow, shr-shr}
use Rattle.bits.specs.Xor.{◌⊕◌}
use Rattle.bits.proofs.Xor.{xor_assoc}
use Rattle.gf128.specs.Product.{r128, next_of, sum_of, ◌•◌}
use Rattle.gf128.proofs.Products.{next-linear, sum-next}
use Rattle.gf128_product.specs.Steps.{nexts_of, more_of}

-- ---- the steps

pub nexts-linear : (n a b : ℕ) → nexts_of n (a ⊕ b) ≡ nexts_of n a ⊕ nexts_of n b
unfolding nexts_of
nexts-linear zero a b = refl
nexts-linear (suc n) a b = ap (nexts_of n) (next-linear a b) ∙ nexts-linear n (next_of a) (next_of b)

pub nexts-add : (m n v : ℕ) → nexts_of (m + n) v ≡ nexts_of n (nexts_of m v)
unfolding nexts_of
nexts-add zero n v = rw zero-add
nexts-add (suc m) n v = ap (λ (k : ℕ). nexts_of k v) (suc-add m n) ∙ nexts-add m n (next_of v)

-- a block that ends in n zeros only moves
pub nexts-up : (n a : ℕ) → nexts_of n (a * 2 ^ n) ≡ a
unfolding nexts_of
nexts-up zero a = omega arith
nexts-up (suc n) a =
    let e : a * 2 ^ suc n ≡ a * 2 ^ n * 2 = ap (λ (p : ℕ). a * p) (pow-succ' 2 n) ∙ omega arith in
    let q : a * 2 ^ n * 2 / 2 ≡ a * 2 ^ n = omega arith in
    let r : a * 2 ^ n * 2 % 2 ≡ 0 = omega arith in
    ap (λ (v : ℕ). nexts_of n (next_of v)) e
    ∙ ap (nexts_of n) (ap₂ (λ (x y : ℕ). x ⊕ (y * r128)) q r ∙ xor_zero_r (a * 2 ^ n))
    ∙ nexts-up n a

-- n steps at once: what falls off comes back in front
pub nexts-split : (n v : ℕ) → nexts_of n v ≡ (v / 2 ^ n) ⊕ nexts_of n (v % 2 ^ n)
nexts-split n v =
    ap (nexts_of n) (sym (split v n) ∙ sym (xor_shifted (v / 2 ^ n) n (v % 2 ^ n) (mod-lt v (pow_pos n))))
    ∙ nexts-linear n (v / 2 ^ n * 2 ^ n) (v % 2 ^ n)
    ∙ ap (λ (x : ℕ). x ⊕ nexts_of n (v % 2 ^ n)) (nexts-up n (v / 2 ^ n))

-- ---- the sum

sum-nexts : (m n x v : ℕ) → sum_of n x (nexts_of m v) ≡ nexts_of m (sum_of n x v)
unfolding nexts_of
sum-nexts zero n x v = refl
sum-nexts (suc m) n x v = sum-nexts m n x (next_of v) ∙ ap (nexts_of m) (sum-next n x v)

-- the m high bits and the n low ones
sum_more : (m n x v : ℕ) → sum_of (m + n) x v ≡ sum_of m (x / 2 ^ n) v ⊕ sum_of n x (nexts_of m v)
unfolding sum_of nexts_of
sum_more zero n x v = ap (λ (k : ℕ). sum_of k x v) (zero-add n) ∙ sym (xor_zero_l (sum_of n x v))
sum_more (suc m) n x v =
    let e : x / 2 ^ (m + n) ≡ x / 2 ^ n / 2 ^ m = ap (λ (k : ℕ). x / 2 ^ k) (add_comm m n) ∙ sym (shr-shr x n m) in
    ap (λ (k : ℕ). sum_of k x v) (suc-add m n)
    ∙ ap₂ (λ (a b : ℕ). (a % 2 * v) ⊕ b) e (sum_more m n x (next_of v))
    ∙ sym (xor_assoc (x / 2 ^ n / 2 ^ m % 2 * v) (sum_of m (x / 2 ^ n) (next_of v)) (sum_of n x (nexts_of m (next_of v))))

-- only the n low bits of the factor count
sum-ext : (n x y v : ℕ) → ((i : ℕ) → i < n → x / 2 ^ i % 2 ≡ y / 2 ^ i % 2) → sum_of n x v ≡ sum_of n y v
unfolding sum_of
sum-ext zero x y v h = refl
sum-ext (suc n) x y v h = ap₂ (λ (a b : ℕ). (a * v) ⊕ b) (h n (omega arith)) (sum-ext n x y (next_of v) (λ i l. h i (omega arith)))

pub sum_low : (n x v : ℕ) → sum_of n (x % 2 ^ n) v ≡ sum_of n x v
sum_low n x v =
    sum-ext n (x % 2 ^ n) x v
    (λ i l.
    let e : n ≡ suc (n - suc i) + i = omega arith in
    let f : n - suc i + 1 ≡ suc (n - suc i) = omega arith in
    ap (λ (k : ℕ). x % 2 ^ k / 2 ^ i % 2) e
    ∙ ap (λ (k : ℕ). k % 2) (field x (suc (n - suc i)) i)
    ∙ ap (λ (k : ℕ). x / 2 ^ i % 2 ^ k % 2) (sym f)
    ∙ mod-mod-pow (x / 2 ^ i) (n - suc i) 1)

-- ---- a factor's bits in groups, the lower first

pub more-is : (n h z w : ℕ) → nexts_of n z ⊕ sum_of n w h ≡ more_of n h z w
unfolding more_of
more-is n h z w = refl

pub more-more : (m n h z w : ℕ) → more_of n h (more_of m h z (w % 2 ^ m)) (w / 2 ^ m) ≡ more_of (m + n) h z w
unfolding more_of
more-more m n h z w =
    let a = nexts_of n (nexts_of m z) in
    let b = nexts_of n (sum_of m w h) in
    let c = sum_of n (w / 2 ^ m) h in
    ap (λ (s : ℕ). nexts_of n (nexts_of m z ⊕ s) ⊕ c) (sum_low m w h)
    ∙ ap (λ (s : ℕ). s ⊕ c) (nexts-linear n (nexts_of m z) (sum_of m w h))
    ∙ xor_assoc a b c
    ∙ ap (bit_xor a) (xor_comm b c)
    ∙ sym
    (ap₂ bit_xor (nexts-add m n z)
    (ap (λ (k : ℕ). sum_of k w h) (add_comm m n)
    ∙ sum_more n m w h
    ∙ ap (bit_xor c) (sum-nexts n m w h)))

-- m bits and n more, from place 4 i of a subkey on: those after them stand at place 4 j
pub sum-joined : (m n i j h x : ℕ) → 4 * i + m ≡ 4 * j → sum_of m (x / 2 ^ n) (nexts_of (4 * i) h) ⊕ sum_of n (x % 2 ^ n) (nexts_of (4 * j) h) ≡ sum_of (m + n) x (nexts_of (4 * i) h)
sum-joined m n i j h x e =
    let v = nexts_of (4 * i) h in
    ap (bit_xor (sum_of m (x / 2 ^ n) v))
    (ap (sum_of n (x % 2 ^ n)) (ap (λ (k : ℕ). nexts_of k h) (sym e) ∙ nexts-add (4 * i) m h) ∙ sum_low n x (nexts_of m v))
    ∙ sym (sum_more m n x v)

-- from the subkey itself on
pub sum_first : (m n j h x : ℕ) → m ≡ 4 * j → sum_of m (x / 2 ^ n) (nexts_of (4 * 0) h) ⊕ sum_of n (x % 2 ^ n) (nexts_of (4 * j) h) ≡ sum_of (m + n) x h
unfolding nexts_of
sum_first m n j h x e = sum-joined m n 0 j h x (zero-add m ∙ e)

-- nothing so far
nexts-none : (n : ℕ) → nexts_of n 0 ≡ 0
unfolding nexts_of
nexts-none zero = refl
nexts-none (suc n) = nexts-none n

pub more-none : (n h w : ℕ) → more_of n h 0 w ≡ sum_of n w h
unfolding more_of
more-none n h w = ap (λ (z : ℕ). z ⊕ sum_of n w h) (nexts-none n) ∙ xor_zero_l (sum_of n w h)

-- a factor in two halves, each by its low and its high 32 bits
pub whole : (h a l : ℕ) → l < 2 ^ 64
    → more_of 32 h (more_of 32 h (more_of 32 h (more_of 32 h 0 (l % 2 ^ 32)) (l / 2 ^ 32)) (a % 2 ^ 32)) (a / 2 ^ 32) ≡ (a * 2 ^ 64 + l) • h
unfolding ◌•◌
whole h a l b =
    let w = a * 2 ^ 64 + l in
    ap (λ (z : ℕ). more_of 32 h (more_of 32 h z (a % 2 ^ 32)) (a / 2 ^ 32)) (more-more 32 32 h 0 l)
    ∙ more-more 32 32 h (more_of 64 h 0 l) a
    ∙ ap₂ (λ (x y : ℕ). more_of 64 h (more_of 64 h 0 x) y) (sym (low a 64 b)) (sym (high a 64 b))
    ∙ more-more 64 64 h 0 w
    ∙ more-none 128 h w
