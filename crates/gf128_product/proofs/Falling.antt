-- A block in two halves, moved by n bits: what falls off comes back in front.
use mathlib.Core.Path.{◌≡◌, refl, sym, ap, ap₂, subst, ◌∙◌}
use Prim.Native.Nat.{ℕ, zero, suc, ◌+◌, ◌-◌, ◌*◌, ◌/◌, ◌%◌, ◌^◌, ◌≤◌, ◌<◌}
use native.Mathlib.Nat.{add-zero, zero-mul, mul_assoc, mul_right_comm, add-mul, mod-lt, lt_of_le_of_lt}
use native.Mathlib.Omega.{arith}
use lib.Bits.{bit_xor, bit_or, xor_shifted, or_lt, or_shifted}
use lib.Pow.{pow_pos, pow-add, split, high, low, mod-pow-add, shl-shr, shr_lt, shr_le}
use Rattle.bits.specs.Xor.{◌⊕◌}
use Rattle.bits.proofs.Xor.{xor-shift}
use Rattle.gf128.specs.Product.{r128}
use Rattle.gf128.proofs.Halves.{front}
use Rattle.gf128.proofs.Products.{xor-swap}
use Rattle.gf128_product.specs.Steps.{nexts_of}
use Rattle.gf128_product.proofs.Groups.{nexts-linear, nexts-up, nexts-split}

-- ---- powers of two

up : (w a j : ℕ) → w * 2 ^ (a + j) ≡ w * 2 ^ a * 2 ^ j
up w a j = ap (λ (p : ℕ). w * p) (pow-add 2 a j) ∙ sym (mul_assoc w (2 ^ a) (2 ^ j))

down : (w a j : ℕ) → w * 2 ^ (a + j) / 2 ^ j ≡ w * 2 ^ a
down w a j = ap (λ (x : ℕ). x / 2 ^ j) (up w a j) ∙ shl-shr (w * 2 ^ a) j

-- what a shift to the left leaves of n and m bits
shl-mod : (x n m : ℕ) → x * 2 ^ m % 2 ^ (n + m) ≡ x % 2 ^ n * 2 ^ m
shl-mod x n m =
    let none : x * 2 ^ m % 2 ^ m ≡ 0 = ap (λ (y : ℕ). y % 2 ^ m) (sym (add-zero (x * 2 ^ m))) ∙ low x m (pow_pos m) in
    mod-pow-add (x * 2 ^ m) n m
    ∙ ap₂ (λ (y z : ℕ). y % 2 ^ n * 2 ^ m + z) (shl-shr x m) none
    ∙ add-zero (x % 2 ^ n * 2 ^ m)

-- ---- a number at the four places of R

four_of : ℕ → ℕ
four_of w = (w * 2 ^ 7) ⊕ (w * 2 ^ 6) ⊕ (w * 2 ^ 5) ⊕ w

four-linear : (a b : ℕ) → four_of (a ⊕ b) ≡ four_of a ⊕ four_of b
unfolding four_of
four-linear a b =
    ap (λ (x : ℕ). x ⊕ (a ⊕ b))
    (ap₂ bit_xor
    (ap₂ bit_xor (sym (xor-shift 7 a b)) (sym (xor-shift 6 a b)) ∙ xor-swap (a * 2 ^ 7) (b * 2 ^ 7) (a * 2 ^ 6) (b * 2 ^ 6))
    (sym (xor-shift 5 a b))
    ∙ xor-swap ((a * 2 ^ 7) ⊕ (a * 2 ^ 6)) ((b * 2 ^ 7) ⊕ (b * 2 ^ 6)) (a * 2 ^ 5) (b * 2 ^ 5))
    ∙ xor-swap ((a * 2 ^ 7) ⊕ (a * 2 ^ 6) ⊕ (a * 2 ^ 5)) ((b * 2 ^ 7) ⊕ (b * 2 ^ 6) ⊕ (b * 2 ^ 5)) a b

-- the four moved alike are four of the number moved
four-up : (k w : ℕ) → (w * 2 ^ (7 + k)) ⊕ (w * 2 ^ (6 + k)) ⊕ (w * 2 ^ (5 + k)) ⊕ (w * 2 ^ k) ≡ four_of w * 2 ^ k
unfolding four_of
four-up k w =
    ap (λ (x : ℕ). x ⊕ (w * 2 ^ k))
    (ap₂ bit_xor (ap₂ bit_xor (up w 7 k) (up w 6 k) ∙ xor-shift k (w * 2 ^ 7) (w * 2 ^ 6)) (up w 5 k)
    ∙ xor-shift k ((w * 2 ^ 7) ⊕ (w * 2 ^ 6)) (w * 2 ^ 5))
    ∙ xor-shift k ((w * 2 ^ 7) ⊕ (w * 2 ^ 6) ⊕ (w * 2 ^ 5)) w

four-twice : (w : ℕ) → four_of (w * 2 ^ 1) ≡ four_of w * 2 ^ 1
unfolding four_of
four-twice w =
    let e7 : w * 2 ^ 1 * 2 ^ 7 ≡ w * 2 ^ (7 + 1) = omega arith in
    let e6 : w * 2 ^ 1 * 2 ^ 6 ≡ w * 2 ^ (6 + 1) = omega arith in
    let e5 : w * 2 ^ 1 * 2 ^ 5 ≡ w * 2 ^ (5 + 1) = omega arith in
    ap (λ (x : ℕ). x ⊕ (w * 2 ^ 1)) (ap₂ bit_xor (ap₂ bit_xor e7 e6) e5) ∙ four-up 1 w

four-bit : (b : ℕ) → b < 2 → b * 0xe1 ≡ four_of b
unfolding four_of
four-bit zero h = refl
four-bit (suc zero) h = refl
four-bit (suc (suc b)) h = absurd (omega arith)

-- ---- what falls off

-- a bit of R that does not reach the end only moves
r-moves : (n k b : ℕ) → k + n ≡ 120 → nexts_of n (b * r128) ≡ b * 0xe1 * 2 ^ k
r-moves n k b e =
    ap (λ (p : ℕ). nexts_of n (b * (0xe1 * 2 ^ p))) (sym e)
    ∙ ap (nexts_of n) (sym (mul_assoc b 0xe1 (2 ^ (k + n))) ∙ up (b * 0xe1) k n)
    ∙ nexts-up n (b * 0xe1 * 2 ^ k)

falls : (n k w : ℕ) → n + k ≡ 121 → w < 2 ^ n → nexts_of n w ≡ four_of w * 2 ^ k
unfolding nexts_of four_of
falls zero k w e h =
    let z : w ≡ 0 = omega arith in
    z ∙ sym (ap (λ (x : ℕ). four_of x * 2 ^ k) z ∙ zero-mul (2 ^ k))
falls (suc n) k w e h =
    let q = w / 2 ^ 1 in
    let b = w % 2 ^ 1 in
    let e1 : suc n ≡ n + 1 = omega arith in
    let l : q < 2 ^ n = shr_lt n 1 (subst (λ (m : ℕ). w < 2 ^ m) e1 h) in
    nexts-linear n q (b * r128)
    ∙ ap₂ bit_xor (falls n (1 + k) q (omega arith) l) (r-moves n k b (omega arith))
    ∙ ap₂ bit_xor (up (four_of q) 1 k ∙ ap (λ (x : ℕ). x * 2 ^ k) (sym (four-twice q))) (ap (λ (x : ℕ). x * 2 ^ k) (four-bit b (mod-lt w (pow_pos 1))))
    ∙ xor-shift k (four_of (q * 2 ^ 1)) (four_of b)
    ∙ ap (λ (x : ℕ). x * 2 ^ k) (sym (four-linear (q * 2 ^ 1) b) ∙ ap four_of (xor_shifted q 1 b (mod-lt w (pow_pos 1)) ∙ split w 1))

-- ---- a block in halves

-- the code's four shifts of what falls off, at the front of the high half
back : (n w : ℕ) → n ≤ 57 → w < 2 ^ n → let off = w * 2 ^ (64 - n) in
    (off ⊕ (off / 2 ^ 1) ⊕ (off / 2 ^ 2) ⊕ (off / 2 ^ 7)) * 2 ^ 64 ≡ nexts_of n w
back n w l h =
    let k = 57 - n in
    let e7 : 64 - n ≡ 7 + k = omega arith in
    let shifted : (a j : ℕ) → a + j ≡ 7 + k → w * 2 ^ (64 - n) / 2 ^ j ≡ w * 2 ^ a = λ a j e. ap (λ (s : ℕ). w * 2 ^ s / 2 ^ j) (e7 ∙ sym e) ∙ down w a j in
    ap (λ (x : ℕ). x * 2 ^ 64)
    (ap₂ bit_xor
    (ap₂ bit_xor (ap₂ bit_xor (ap (λ (s : ℕ). w * 2 ^ s) e7) (shifted (6 + k) 1 (omega arith))) (shifted (5 + k) 2 (omega arith)))
    (shifted k 7 (omega arith))
    ∙ four-up k w)
    ∙ sym (up (four_of w) k 64)
    ∙ sym (falls n (k + 64) w (omega arith) h)

-- the two halves, cut n bits before the end
cut : (n a l : ℕ) → n ≤ 64 → (a / 2 ^ n * 2 ^ 64 + (a % 2 ^ n * 2 ^ (64 - n) + l / 2 ^ n)) * 2 ^ n + l % 2 ^ n ≡ a * 2 ^ 64 + l
cut n a l h =
    let m = 64 - n in
    let q = a / 2 ^ n in
    let r = a % 2 ^ n in
    let d = l / 2 ^ n in
    let e : m + n ≡ 64 = omega arith in
    let regroup : (x y z t : ℕ) → x + (y + z) + t ≡ x + y + (z + t) = λ x y z t. omega arith in
    ap (λ (x : ℕ). x + l % 2 ^ n) (add-mul (q * 2 ^ 64) (r * 2 ^ m + d) (2 ^ n) ∙ ap (λ (x : ℕ). q * 2 ^ 64 * 2 ^ n + x) (add-mul (r * 2 ^ m) d (2 ^ n)))
    ∙ regroup (q * 2 ^ 64 * 2 ^ n) (r * 2 ^ m * 2 ^ n) (d * 2 ^ n) (l % 2 ^ n)
    ∙ ap₂ (λ (x y : ℕ). x + y)
    (ap₂ (λ (x y : ℕ). x + y) (mul_right_comm q (2 ^ 64) (2 ^ n)) (sym (up r m n) ∙ ap (λ (s : ℕ). r * 2 ^ s) e)
    ∙ sym (add-mul (q * 2 ^ n) r (2 ^ 64))
    ∙ ap (λ (x : ℕ). x * 2 ^ 64) (split a n))
    (split l n)

pub moved-halves : (n a l : ℕ) → 0 < n → n ≤ 32 → l < 2 ^ 64 → let m = 64 - n in let off = l * 2 ^ m % 2 ^ 64 in
    ((a / 2 ^ n) ⊕ (off ⊕ (off / 2 ^ 1) ⊕ (off / 2 ^ 2) ⊕ (off / 2 ^ 7))) * 2 ^ 64 + bit_or (a * 2 ^ m % 2 ^ 64) (l / 2 ^ n)
    ≡ nexts_of n (a * 2 ^ 64 + l)
moved-halves n a l p h b =
    let m = 64 - n in
    let x = a * 2 ^ 64 + l in
    let on = a / 2 ^ n * 2 ^ 64 + (a % 2 ^ n * 2 ^ m + l / 2 ^ n) in
    let w = l % 2 ^ n in
    let wl : w < 2 ^ n = mod-lt l (pow_pos n) in
    let e : n + m ≡ 64 = omega arith in
    let e' : 64 ≡ m + n = omega arith in
    let kept : (y : ℕ) → y * 2 ^ m % 2 ^ 64 ≡ y % 2 ^ n * 2 ^ m = λ y. ap (λ (s : ℕ). y * 2 ^ m % 2 ^ s) (sym e) ∙ shl-mod y n m in
    let below : l / 2 ^ n < 2 ^ m = shr_lt m n (subst (λ (s : ℕ). l < 2 ^ s) e' b) in
    let c : on * 2 ^ n + w ≡ x = cut n a l (omega arith) in
    let fits : bit_or (a * 2 ^ m % 2 ^ 64) (l / 2 ^ n) < 2 ^ 64 = or_lt 64 (a * 2 ^ m % 2 ^ 64) (l / 2 ^ n) (mod-lt (a * 2 ^ m) (pow_pos 64)) (lt_of_le_of_lt (shr_le l n) b) in
    front (a / 2 ^ n) _ (bit_or (a * 2 ^ m % 2 ^ 64) (l / 2 ^ n)) fits
    ∙ ap₂ bit_xor
    (ap (λ (y : ℕ). a / 2 ^ n * 2 ^ 64 + y) (ap (λ (y : ℕ). bit_or y (l / 2 ^ n)) (kept a) ∙ or_shifted (a % 2 ^ n) m (l / 2 ^ n) below)
    ∙ sym (high on n wl)
    ∙ ap (λ (y : ℕ). y / 2 ^ n) c)
    (ap (λ (off : ℕ). (off ⊕ (off / 2 ^ 1) ⊕ (off / 2 ^ 2) ⊕ (off / 2 ^ 7)) * 2 ^ 64) (kept l)
    ∙ back n w (omega arith) wl
    ∙ ap (nexts_of n) (sym (low on n wl) ∙ ap (λ (y : ℕ). y % 2 ^ n) c))
    ∙ sym (nexts-split n x)
