-- Bytes in two words, and numbers in one each, come back as they were.
use mathlib.Core.Path.{◌≡◌, refl, sym, ap, ap₂, ◌∙◌}
use mathlib.Core.List.{List, [], ◌∷◌, ◌++◌, append-nil}
use borrow.Rule.Slice.PartMut.{put_mid}
use Prim.Native.Nat.{ℕ, zero, suc, ◌+◌, ◌-◌, ◌^◌, ◌≤◌}
use native.Mathlib.Nat.{zero-mul, zero-add, mod-eq_of_lt}
use native.Mathlib.Omega.{arith}
use lib.Dec.{T}
use lib.ListN.{length, take, drop, length-drop, take-append-drop, replicate, length-replicate, drop_of_length-le}
use Rattle.std.proofs.lemmas.List.{take-replicate}
use lib.Pow.{are_bytes}
use lib.Seq.{length-take-le, take_all}
use Rattle.bits.specs.BigEndian.{to_bytes, from_bytes}
use Rattle.bits.proofs.BigEndian.{to-from, length_to}
use Rattle.bits.proofs.Bytes.{are-bytes, first_byte, other-bytes, cons-bytes}
use Rattle.bits.proofs.Lists.{tabulated}
use Rattle.memory.specs.Words.{Array, Lasts, Numbers5}

take-bytes : (n : ℕ) (l : List ℕ) → T (are_bytes l) → T (are_bytes (take n l))
take-bytes zero l t = tt
take-bytes (suc n) [] t = tt
take-bytes (suc n) (x ∷ l) t = cons-bytes x (take n l) (first_byte x l t) (take-bytes n l (other-bytes x l t))

drop-bytes : (n : ℕ) (l : List ℕ) → T (are_bytes l) → T (are_bytes (drop n l))
drop-bytes zero l t = t
drop-bytes (suc n) [] t = tt
drop-bytes (suc n) (x ∷ l) t = drop-bytes n l (other-bytes x l t)

written : (n : ℕ) (l : List ℕ) → T (are_bytes l) → length l ≡ n → to_bytes n (from_bytes l) ≡ l
written n l t e = ap (λ (k : ℕ). to_bytes k (from_bytes l)) (sym e) ∙ to-from l t

-- ---- arrays of the code's types

-- eight bytes in the first word and the others in the second
pub bytes-kept : (n : ℕ) → 8 ≤ n → (l : List ℕ) → Array n 256 l → Lasts n l
bytes-kept n h l a =
    let t = are-bytes l a.small in
    let d : length (drop 8 l) ≡ n - 8 = length-drop 8 l ∙ omega (arith, a.long) in
    ap₂ (λ (a b : List ℕ). a ++ b) (written 8 (take 8 l) (take-bytes 8 l t) (length-take-le 8 l (omega (arith, a.long)))) (written (n - 8) (drop 8 l) (drop-bytes 8 l t) d)
    ∙ take-append-drop 8 l

pub five-kept : (l : List ℕ) → Array 5 (2 ^ 32) l → Numbers5 l
five-kept l a =
    record {
      long = a.long;
      kept =
          simp (mod-eq_of_lt (a.small 0), mod-eq_of_lt (a.small 1), mod-eq_of_lt (a.small 2), mod-eq_of_lt (a.small 3), mod-eq_of_lt (a.small 4))
          (tabulated 0 5 l a.long);
    }

-- ---- bytes cut off and put in front

-- the low bytes of a number
low-bytes : (m n x : ℕ) → m ≤ n → drop m (to_bytes n x) ≡ to_bytes (n - m) x
low-bytes zero n x h = let e : n ≡ n - 0 = omega arith in ap (λ (k : ℕ). to_bytes k x) e
low-bytes (suc m) zero x h = absurd (omega arith)
low-bytes (suc m) (suc n) x h = let e : n - m ≡ suc n - suc m = omega arith in low-bytes m n x (omega arith) ∙ ap (λ (k : ℕ). to_bytes k x) e

pub low-part : (n x : ℕ) (l : List ℕ) → 8 ≤ n → n ≤ 16 → l ≡ to_bytes 8 x → take (8 - (16 - n)) (drop (16 - n) l) ≡ to_bytes (n - 8) x
low-part n x l h k e =
    let d : 8 - (16 - n) ≡ n - 8 = omega arith in
    let r : drop (16 - n) l ≡ to_bytes (8 - (16 - n)) x = ap (drop (16 - n)) e ∙ low-bytes (16 - n) 8 x (omega arith) in
    take_all (8 - (16 - n)) (drop (16 - n) l) (let z = length_to (8 - (16 - n)) x in omega (arith, ap length r)) ∙ r ∙ ap (λ (i : ℕ). to_bytes i x) d

-- zeros in front count nothing
zeros : (n : ℕ) (l : List ℕ) → from_bytes (replicate n 0 ++ l) ≡ from_bytes l
zeros zero l = refl
zeros (suc n) l = simp (zero-mul, zero-add) (zeros n l)

pub after-zeros : (k : ℕ) (m l : List ℕ) → k + length m ≡ 8 → m ≡ l → from_bytes (put_mid k (8 - k) (replicate 8 0) m) ≡ from_bytes l
after-zeros k m l h e =
    let f : take k (replicate 8 0) ≡ replicate k 0 = take-replicate k 8 0 (omega arith) in
    let d : drop (8 - k) (drop k (replicate 8 0)) ≡ [] =
    drop_of_length-le (drop k (replicate 8 0)) (omega (arith, length-drop {A = ℕ} k (replicate 8 0), length-replicate {A = ℕ} 8 0)) in
    ap from_bytes (ap₂ (λ (u v : List ℕ). u ++ (m ++ v)) f d ∙ ap (λ (u : List ℕ). replicate k 0 ++ u) (append-nil m ∙ e)) ∙ zeros k l
