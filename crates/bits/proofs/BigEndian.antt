-- Laws of big-endian numbers, over the number of bytes.
use mathlib.Core.Path.{◌≡◌, refl, sym, ap, ap₂, ◌∙◌, subst}
use mathlib.Core.List.{List, [], ◌∷◌, ◌++◌}
use Prim.Native.Nat.{ℕ, zero, suc, ◌+◌, ◌*◌, ◌/◌, ◌%◌, ◌^◌, ◌<◌}
use native.Mathlib.Nat.{mod-lt, mod-one, mod-eq_of_lt, add_assoc, add-mul, mul_assoc, zero-add, zero-mul, suc-add}
use native.Mathlib.Omega.{arith}
use lib.Arith.{digits_lt, digits_div, digits_mod}
use lib.Dec.{T}
use lib.ListN.{length, length-append}
use lib.Pow.{are_bytes, pow-add, pow_pos, mod-pow-add, mod-mod-pow, field, shr-shr}
use Rattle.bits.specs.BigEndian.{byte_of, to_bytes, from_bytes}
use Rattle.bits.proofs.Bytes.{first_byte, other-bytes, cons-bytes}

byte-lt : (j x : ℕ) → byte_of j x < 256
byte-lt j x = mod-lt (x / 2 ^ (8 * j)) (pow_pos 8)

pub length_to : (n x : ℕ) → length (to_bytes n x) ≡ n
length_to zero x = refl
length_to (suc n) x = ap suc (length_to n x)

pub to-are-bytes : (n x : ℕ) → T (are_bytes (to_bytes n x))
to-are-bytes zero x = tt
to-are-bytes (suc n) x = cons-bytes (byte_of n x) (to_bytes n x) (byte-lt n x) (to-are-bytes n x)

weight : (n : ℕ) → 2 ^ (8 * suc n) ≡ 2 ^ (8 + 8 * n)
weight n = let e : 8 * suc n ≡ 8 + 8 * n = omega arith in ap (λ (k : ℕ). 2 ^ k) e

-- n bytes hold a number modulo 256 ^ n
pub from-to : (n x : ℕ) → from_bytes (to_bytes n x) ≡ x % 2 ^ (8 * n)
from-to zero x = sym (mod-one x)
from-to (suc n) x =
    ap₂ (λ (k r : ℕ). byte_of n x * 2 ^ (8 * k) + r) (length_to n x) (from-to n x)
    ∙ sym (ap (λ (w : ℕ). x % w) (weight n) ∙ mod-pow-add x 8 (8 * n))

-- two parts: the first counts as many bytes higher as the second has
regroup : (x p q f g : ℕ) → x * (p * q) + (f * q + g) ≡ (x * p + f) * q + g
regroup x p q f g = simp (add-mul, mul_assoc, add_assoc)

both-weights : (m n : ℕ) → 2 ^ (8 * (m + n)) ≡ 2 ^ (8 * m) * 2 ^ (8 * n)
both-weights m n = let e : 8 * (m + n) ≡ 8 * m + 8 * n = omega arith in ap (λ (k : ℕ). 2 ^ k) e ∙ pow-add 2 (8 * m) (8 * n)

pub from-append : (a b : List ℕ) → from_bytes (a ++ b) ≡ from_bytes a * 2 ^ (8 * length b) + from_bytes b
from-append [] b = simp (zero-mul, zero-add)
from-append (x ∷ a) b =
    ap₂ (λ (w r : ℕ). x * w + r) (ap (λ (k : ℕ). 2 ^ (8 * k)) (length-append a b) ∙ both-weights (length a) (length b)) (from-append a b)
    ∙ regroup x (2 ^ (8 * length a)) (2 ^ (8 * length b)) (from_bytes a) (from_bytes b)

-- a number read in two halves
pub joined : (a b l : List ℕ) (h g : ℕ) → h ≡ from_bytes a → g ≡ from_bytes b → a ++ b ≡ l → h * 2 ^ (8 * length b) + g ≡ from_bytes l
joined a b l h g eh eg e = ap₂ (λ (x y : ℕ). x * 2 ^ (8 * length b) + y) eh eg ∙ sym (from-append a b) ∙ ap from_bytes e

pub from-lt : (l : List ℕ) → T (are_bytes l) → from_bytes l < 2 ^ (8 * length l)
from-lt [] t = pow_pos 0
from-lt (x ∷ l) t =
    subst (λ (w : ℕ). x * 2 ^ (8 * length l) + from_bytes l < w) (sym (weight (length l) ∙ pow-add 2 8 (8 * length l)))
    (digits_lt (first_byte x l t) (from-lt l (other-bytes x l t)))

-- the n low bytes depend on the number modulo 256 ^ n only
pub to_low : (n x y : ℕ) → x % 2 ^ (8 * n) ≡ y % 2 ^ (8 * n) → to_bytes n x ≡ to_bytes n y
to_low zero x y e = refl
to_low (suc n) x y e =
    let f : x % 2 ^ (8 + 8 * n) ≡ y % 2 ^ (8 + 8 * n) = rw weight at e in
    ap₂ (λ (b : ℕ) (r : List ℕ). b ∷ r)
    (sym (field x 8 (8 * n)) ∙ ap (λ (m : ℕ). m / 2 ^ (8 * n)) f ∙ field y 8 (8 * n))
    (to_low n x y (sym (mod-mod-pow x 8 (8 * n)) ∙ ap (λ (m : ℕ). m % 2 ^ (8 * n)) f ∙ mod-mod-pow y 8 (8 * n)))

-- bytes read as a number and written again are the bytes
pub to-from : (l : List ℕ) → T (are_bytes l) → to_bytes (length l) (from_bytes l) ≡ l
to-from [] t = refl
to-from (x ∷ l) t =
    let w = 2 ^ (8 * length l) in
    let r = from-lt l (other-bytes x l t) in
    ap₂ (λ (b : ℕ) (s : List ℕ). b ∷ s)
    (ap (λ (n : ℕ). n % 2 ^ 8) (digits_div x r) ∙ mod-eq_of_lt (first_byte x l t))
    (to_low (length l) (x * w + from_bytes l) (from_bytes l) (digits_mod x r ∙ sym (mod-eq_of_lt r)) ∙ to-from l (other-bytes x l t))

-- two parts of a number, each in its own bytes
pub to-append : (m n x y : ℕ) → y < 2 ^ (8 * n) → to_bytes (m + n) (x * 2 ^ (8 * n) + y) ≡ to_bytes m x ++ to_bytes n y
to-append zero n x y h =
    ap (λ (k : ℕ). to_bytes k (x * 2 ^ (8 * n) + y)) (zero-add n)
    ∙ to_low n (x * 2 ^ (8 * n) + y) y (digits_mod x h ∙ sym (mod-eq_of_lt h))
to-append (suc m) n x y h =
    let z = x * 2 ^ (8 * n) + y in
    let e : 8 * n + 8 * m ≡ 8 * (m + n) = omega arith in
    ap (λ (k : ℕ). to_bytes k z) (suc-add m n)
    ∙ ap₂ (λ (b : ℕ) (r : List ℕ). b ∷ r)
    (ap (λ (v : ℕ). v % 2 ^ 8) (ap (λ (k : ℕ). z / 2 ^ k) (sym e) ∙ sym (shr-shr z (8 * n) (8 * m)) ∙ ap (λ (v : ℕ). v / 2 ^ (8 * m)) (digits_div x h)))
    (to-append m n x y h)
