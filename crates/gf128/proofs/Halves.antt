-- A block in two halves: its step by one bit.
use mathlib.Core.Path.{◌≡◌, sym, ap, ap₂, ◌∙◌}
use Prim.Native.Nat.{ℕ, ◌+◌, ◌*◌, ◌/◌, ◌%◌, ◌^◌, ◌<◌}
use native.Mathlib.Nat.{add-zero, mul_assoc}
use native.Mathlib.Omega.{arith}
use lib.Bits.{bit_xor, xor_block, xor_zero_r}
use lib.Pow.{pow_pos}
use Rattle.bits.specs.Xor.{◌⊕◌}
use Rattle.gf128.specs.Product.{r128, next_of}

-- what is added to the high half
pub front : (a f l : ℕ) → l < 2 ^ 64 → (a ⊕ f) * 2 ^ 64 + l ≡ (a * 2 ^ 64 + l) ⊕ (f * 2 ^ 64)
front a f l h =
    sym
    (ap (bit_xor (a * 2 ^ 64 + l)) (sym (add-zero (f * 2 ^ 64)))
    ∙ xor_block 64 a f l 0 h (pow_pos 64)
    ∙ ap (λ (x : ℕ). (a ⊕ f) * 2 ^ 64 + x) (xor_zero_r l))

-- the low half fits
low-by-one : (a l : ℕ) → l < 2 ^ 64 → l / 2 + a % 2 * 0x8000000000000000 < 2 ^ 64
low-by-one a l h = omega arith

pub next-halves : (a l : ℕ) → l < 2 ^ 64
    → ((a / 2) ⊕ (l % 2 * 0xe100000000000000)) * 2 ^ 64 + (l / 2 + a % 2 * 0x8000000000000000) ≡ next_of (a * 2 ^ 64 + l)
next-halves a l h =
    let q : a / 2 * 2 ^ 64 + (l / 2 + a % 2 * 0x8000000000000000) ≡ (a * 2 ^ 64 + l) / 2 = omega arith in
    let r : l % 2 ≡ (a * 2 ^ 64 + l) % 2 = omega arith in
    front (a / 2) (l % 2 * 0xe100000000000000) (l / 2 + a % 2 * 0x8000000000000000) (low-by-one a l h)
    ∙ ap₂ bit_xor q (mul_assoc (l % 2) 0xe100000000000000 (2 ^ 64) ∙ ap (λ (x : ℕ). x * r128) r)
