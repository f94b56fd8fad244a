-- A few bytes: the number that they are, that number at its place of a block, and what feeding them does.
use mathlib.Core.Path.{◌≡◌, refl, sym, ap, ap₂, ◌∙◌}
use mathlib.Core.Bool.{Bool}
use mathlib.Core.List.{List, [], ◌∷◌}
use Prim.Native.Nat.{ℕ, suc, ◌+◌, ◌-◌, ◌*◌, ◌%◌, ◌^◌, ◌≤◌, ◌<◌}
use native.Mathlib.Nat.{add-zero, zero-add, zero-mul, add-mul, mul_assoc, mul-one}
use native.Mathlib.Omega.{arith}
use borrow.Author.Tests.{ne_eqb}
use lib.Bits.{bit_xor, xor_zero_r, xor_shifted}
use lib.Dec.{T}
use lib.ListN.{length, get_or, take, drop, length-drop, take-append-drop}
use lib.Pow.{are_bytes, pow-add, pow_mono, shl_exact}
use lib.Seq.{take-suc, take_all, length-take-le}
use Rattle.bits.specs.BigEndian.{from_bytes}
use Rattle.bits.specs.Pick.{pick}
use Rattle.bits.specs.Xor.{◌⊕◌}
use Rattle.bits.proofs.BigEndian.{from-append, from-lt}
use Rattle.bits.proofs.Bytes.{other-bytes}
use Rattle.bits.proofs.Xor.{xor_assoc, xor-shift}
use Rattle.gf128.specs.Product.{◌•◌}
use Rattle.ghash.specs.Steps.{placed_of, add_of, feed_of}
use Rattle.ghash.proofs.Feeding.{take-bytes, feed-block}

-- ---- the number

pub number-next : (l : List ℕ) (i x b : ℕ) → i < length l → x ≡ from_bytes (take i l) → b ≡ get_or l i 0 → x * 256 + b ≡ from_bytes (take (i + 1) l)
number-next l i x b h ex eb =
    let e : suc i ≡ i + 1 = omega arith in
    let z : x * 256 + b ≡ x * 2 ^ 8 + (b * 2 ^ 0 + 0) = omega arith in
    z
    ∙ ap₂ (λ (u v : ℕ). u * 2 ^ 8 + (v * 2 ^ 0 + 0)) ex eb
    ∙ sym (ap from_bytes (ap (λ (k : ℕ). take k l) (sym e) ∙ take-suc l i 0 h) ∙ from-append (take i l) (get_or l i 0 ∷ []))

-- seven bytes leave room for one more
pub number-room : (l : List ℕ) (i x : ℕ) → T (are_bytes l) → i < length l → length l ≤ 8 → x ≡ from_bytes (take i l) → x < 2 ^ 56
number-room l i x t h n e =
    let k : length (take i l) ≡ i = length-take-le i l (omega arith) in
    let b : from_bytes (take i l) < 2 ^ (8 * length (take i l)) = from-lt (take i l) (take-bytes i l t) in
    let m : 2 ^ (8 * length (take i l)) ≤ 2 ^ 56 = pow_mono {i = 8 * length (take i l)} {j = 56} (omega arith) in
    omega (arith, e, b, m)

pub number-end : (l : List ℕ) (i x : ℕ) → length l ≤ i → x ≡ from_bytes (take i l) → x ≡ from_bytes l
number-end l i x h e = e ∙ ap from_bytes (take_all i l h)

-- ---- at its place

pub moved-is : (l : List ℕ) (x n : ℕ) → T (are_bytes l) → length l + n ≤ 8 → x ≡ from_bytes l → (x * 2 ^ (8 * n)) % 2 ^ 64 ≡ from_bytes l * 2 ^ (8 * n)
moved-is l x n t h e =
    ap (λ (y : ℕ). (y * 2 ^ (8 * n)) % 2 ^ 64) e
    ∙ shl_exact {a = from_bytes l} (8 * length l) (8 * n) 64 (from-lt l t) (omega arith)

-- a number of s bits more, by its factor
further : (x m n s : ℕ) → m + n ≡ s → x * 2 ^ m * 2 ^ n ≡ x * 2 ^ s
further x m n s e = mul_assoc x (2 ^ m) (2 ^ n) ∙ ap (λ (y : ℕ). x * y) (sym (pow-add 2 m n) ∙ ap (λ (k : ℕ). 2 ^ k) e)

pub in-high : (x r end : ℕ) → end ≤ 8 → r ≡ x * 2 ^ (8 * (8 - end)) → r * 2 ^ 64 + 0 ≡ x * 2 ^ (8 * (16 - end))
in-high x r end h e =
    add-zero (r * 2 ^ 64)
    ∙ ap (λ (y : ℕ). y * 2 ^ 64) e
    ∙ further x (8 * (8 - end)) 64 (8 * (16 - end)) (omega arith)

pub in-low : (x r : ℕ) → r ≡ x → 0 * 2 ^ 64 + r ≡ x
in-low x r e = zero-add r ∙ e

pub in_both : (l : List ℕ) (k a b : ℕ) → k ≤ 8 → 8 ≤ k + length l → k + length l ≤ 16 → a ≡ from_bytes (take (8 - k) l)
    → b ≡ from_bytes (take (length l - (8 - k)) (drop (8 - k) l)) * 2 ^ (8 * (16 - (k + length l))) → a * 2 ^ 64 + b ≡ from_bytes l * 2 ^ (8 * (16 - (k + length l)))
in_both l k a b h g n ea eb =
    let m = 8 - k in
    let s = 8 * (16 - (k + length l)) in
    let p = from_bytes (take m l) in
    let d = drop m l in
    let w : length d ≡ length l - m = length-drop m l in
    ap₂ (λ (x y : ℕ). x * 2 ^ 64 + y) ea (eb ∙ ap (λ (y : List ℕ). from_bytes y * 2 ^ s) (take_all (length l - m) d (omega arith)))
    ∙ ap (λ (x : ℕ). x + from_bytes d * 2 ^ s) (sym (further p (8 * length d) s 64 (omega arith)))
    ∙ sym (ap (λ (x : List ℕ). from_bytes x * 2 ^ s) (sym (take-append-drop m l)) ∙ ap (λ (x : ℕ). x * 2 ^ s) (from-append (take m l) d) ∙ add-mul (p * 2 ^ (8 * length d)) (from_bytes d) (2 ^ s))

-- ---- fed

-- bytes that leave the block begun
few-inside : (h y p : ℕ) (l : List ℕ) → T (are_bytes l) → p % 16 + length l < 16 → feed_of h y p l ≡ y ⊕ (from_bytes l * 2 ^ (8 * (16 - (p % 16 + length l))))
unfolding feed_of add_of
few-inside h y p [] t n = sym (ap (bit_xor y) (zero-mul (2 ^ (8 * (16 - (p % 16 + 0))))) ∙ xor_zero_r y)
few-inside h y p (b ∷ l) t n =
    let w = placed_of p b in
    let s = 8 * (16 - (p % 16 + length (b ∷ l))) in
    let q : 8 * (16 - (suc p % 16 + length l)) ≡ s = omega arith in
    let u = other-bytes b l t in
    ap (λ (k : Bool). feed_of h (pick k ((y ⊕ w) • h) (y ⊕ w)) (suc p) l) (ne_eqb (p % 16) 15 (λ z. omega arith))
    ∙ few-inside h (y ⊕ w) (suc p) l u (omega arith)
    ∙ ap (λ (k : ℕ). y ⊕ w ⊕ (from_bytes l * 2 ^ k)) q
    ∙ xor_assoc y w (from_bytes l * 2 ^ s)
    ∙ ap (bit_xor y)
    (ap (λ (k : ℕ). k ⊕ (from_bytes l * 2 ^ s)) (sym (further b (8 * length l) s (8 * (15 - p % 16)) (omega arith)))
    ∙ xor-shift s (b * 2 ^ (8 * length l)) (from_bytes l)
    ∙ ap (λ (k : ℕ). k * 2 ^ s) (xor_shifted b (8 * length l) (from_bytes l) (from-lt l u)))

pub fed-none : (h y p : ℕ) (l : List ℕ) → length l ≡ 0 → y ≡ feed_of h y p l
unfolding feed_of
fed-none h y p [] n = refl
fed-none h y p (b ∷ l) n = absurd (omega arith)

module _ (h y p x w : ℕ) (l : List ℕ) (t : T (are_bytes l)) (ew : w ≡ from_bytes l * 2 ^ (8 * (16 - (p % 16 + length l)))) (ex : x ≡ y ⊕ w) where
  pub fed-inside : p % 16 + length l < 16 → x ≡ feed_of h y p l
  fed-inside n = ex ∙ ap (bit_xor y) ew ∙ sym (few-inside h y p l t n)

  -- bytes that end it
  pub fed-last : (r : ℕ) → p % 16 + length l ≡ 16 → r ≡ x • h → r ≡ feed_of h y p l
  fed-last r n er =
      let z : 8 * (16 - (p % 16 + length l)) ≡ 0 = omega arith in
      er ∙ ap (λ (k : ℕ). k • h) (ex ∙ ap (bit_xor y) (ew ∙ ap (λ (k : ℕ). from_bytes l * 2 ^ k) z ∙ mul-one (from_bytes l))) ∙ sym (feed-block h y p l t n)
