-- A bit of a power of two, and of `|` with one; and flags packed into a number.
use mathlib.Core.Path.{◌≡◌, refl, sym, ap, ap₂, ◌∙◌}
use mathlib.Core.Bool.{Bool, true, false, true≢false}
use Prim.Native.Nat.{ℕ, zero, suc, ◌+◌, ◌*◌, ◌-◌, ◌/◌, ◌%◌, ◌^◌, ◌<◌, max}
use native.Mathlib.Decide.{dec_lt}
use native.Mathlib.Nat.{one-mul, div_self, div-eq_of_lt, pow-succ', mul-mod_right, zero-div}
use native.Mathlib.Omega.{arith}
use borrow.Author.Tests.{eqb-true, eqb-false}
use lib.Bits.{bit_or, or_shr, or_step}
use lib.Dec.{eqb, lit<}
use lib.Pow.{pow_pos, pow-lt, pow-add, shl_exact, shl-shr, shr-shr}
use Rattle.bits.specs.Bits.{is_set, packed}
use Rattle.bits.specs.Pick.{pick}

-- `1 << k` at 64 bits
pub one_shl : (k : ℕ) → k < 64 → (1 * 2 ^ k) % 2 ^ 64 ≡ 2 ^ k
one_shl k h = shl_exact {a = 1} 1 k 64 (lit< tt) (omega arith) ∙ one-mul (2 ^ k)

or_at : (a b k : ℕ) → bit_or a b / 2 ^ k % 2 ≡ max (a / 2 ^ k % 2) (b / 2 ^ k % 2)
or_at a b k = rw or_shr (omega (arith, or_step (a / 2 ^ k) (b / 2 ^ k)))

power_below : (j k : ℕ) → j < k → 2 ^ k / 2 ^ j % 2 ≡ 0
power_below j k h =
    let e : k ≡ suc (k - suc j) + j = omega arith in
    let p : 2 ^ k ≡ 2 ^ suc (k - suc j) * 2 ^ j = ap (λ (n : ℕ). 2 ^ n) e ∙ pow-add 2 (suc (k - suc j)) j in
    rw (p, shl-shr, pow-succ', mul-mod_right)

power-other : (j k : ℕ) → (j ≡ k → ⊥) → 2 ^ k / 2 ^ j % 2 ≡ 0
power-other j k h =
    elim (dec_lt j k) [
      | yes p ↦ power_below j k p
      | no p ↦ let l : k < j = omega arith in rw (div-eq_of_lt (pow-lt l))
    ]

power-same : (k : ℕ) → 2 ^ k / 2 ^ k % 2 ≡ 1
power-same k = rw (div_self (pow_pos k))

-- bit k of `x | 2 ^ k` is set, and any other is as in x
pub or_same : (x k : ℕ) → is_set (bit_or x (2 ^ k)) k ≡ true
or_same x k =
    let e : bit_or x (2 ^ k) / 2 ^ k % 2 ≡ 1 = omega (arith, or_at x (2 ^ k) k, power-same k) in
    rw e

pub or-other : (x j k : ℕ) → (j ≡ k → ⊥) → is_set (bit_or x (2 ^ k)) j ≡ is_set x j
or-other x j k h =
    let e : bit_or x (2 ^ k) / 2 ^ j % 2 ≡ x / 2 ^ j % 2 = omega (arith, or_at x (2 ^ k) j, power-other j k h) in
    rw e

pub zero_bit : (k : ℕ) → is_set 0 k ≡ false
zero_bit k = rw (zero-div (2 ^ k))

pub no-bit : (k : ℕ) → is_set 0 k ≡ true → ⊥
no-bit k h = true≢false (sym h ∙ zero_bit k)

-- ---- flags packed into a number

pub packed-ext : (n : ℕ) (f g : ℕ → Bool) → ((k : ℕ) → k < n → f k ≡ g k) → packed n f ≡ packed n g
unfolding packed
packed-ext zero f g h = refl
packed-ext (suc n) f g h =
    ap₂ (λ (b : Bool) (r : ℕ). pick b 1 0 + 2 * r) (h 0 (omega arith)) (packed-ext n (λ k. f (suc k)) (λ k. g (suc k)) (λ k b. h (suc k) (omega arith)))

low_bit : (b : Bool) (p : ℕ) → is_set (pick b 1 0 + 2 * p) 0 ≡ b
low_bit true p = let e : (1 + 2 * p) / 2 ^ 0 % 2 ≡ 1 = omega arith in rw e
low_bit false p = let e : (0 + 2 * p) / 2 ^ 0 % 2 ≡ 0 = omega arith in rw e

half : (b : Bool) (p : ℕ) → (pick b 1 0 + 2 * p) / 2 ≡ p
half true p = omega arith
half false p = omega arith

next_bit : (x k : ℕ) → is_set x (suc k) ≡ is_set (x / 2) k
next_bit x k =
    let s : suc k ≡ 1 + k = omega arith in
    ap (λ (y : ℕ). eqb (y % 2) 1) (ap (λ (j : ℕ). x / 2 ^ j) s ∙ sym (shr-shr x 1 k))

-- flag k is bit k
pub packed-bit : (n : ℕ) (f : ℕ → Bool) (k : ℕ) → k < n → is_set (packed n f) k ≡ f k
unfolding packed
packed-bit zero f k h = absurd (omega arith)
packed-bit (suc n) f zero h = low_bit (f 0) (packed n (λ k. f (suc k)))
packed-bit (suc n) f (suc k) h =
    let p = packed n (λ m. f (suc m)) in
    next_bit (pick (f 0) 1 0 + 2 * p) k ∙ ap (λ (y : ℕ). is_set y k) (half (f 0) p) ∙ packed-bit n (λ m. f (suc m)) k (omega arith)

first_bit : (x : ℕ) (b : Bool) → is_set x 0 ≡ b → pick b 1 0 ≡ x % 2
first_bit x true e = omega (arith, eqb-true (x / 2 ^ 0 % 2) 1 e)
first_bit x false e = omega (arith, eqb-false (x / 2 ^ 0 % 2) 1 e)

-- a number of n bits is its bits packed
pub bits-packed : (n x : ℕ) → x < 2 ^ n → packed n (is_set x) ≡ x
unfolding packed
bits-packed zero x h = omega arith
bits-packed (suc n) x h =
    let p : 2 ^ suc n ≡ 2 * 2 ^ n = pow-succ' 2 n in
    let r : packed n (λ k. is_set x (suc k)) ≡ x / 2 = packed-ext n (λ k. is_set x (suc k)) (is_set (x / 2)) (λ k b. next_bit x k) ∙ bits-packed n (x / 2) (omega arith) in
    omega (arith, first_bit x (is_set x 0) refl)
