-- A portion encrypted in place: its bytes in order are the text under the keystream, and the others stay.
use mathlib.Core.Path.{◌≡◌, sym, ap, ap₂, ◌∙◌}
use mathlib.Core.List.{List, ◌++◌}
use Prim.Native.Nat.{ℕ, ◌+◌, ◌-◌, ◌≤◌}
use native.Mathlib.Omega.{arith}
use lib.ListN.{length, take, drop, length-drop, take-append-drop}
use lib.Seq.{length-take-le, take_at, drop_at}
use Rattle.bits.specs.Xor.{xor_pad}
use Rattle.bits.proofs.Xor.{length-pad, pad-append, pad-ext, pad-none}
use Rattle.stretches.proofs.Parts.{part_length}
use Rattle.aes_cm.specs.Portion.{portion_pad}
use Rattle.aes_cm.proofs.Portions.{before-first, in-first, in-gap, past-gap}
use Rattle.gcm_hash.specs.Portion.{outside_of, inside_of}

-- a part of a list under a pad
take-pad : (f : ℕ → ℕ) (n : ℕ) (l : List ℕ) → n ≤ length l → take n (xor_pad f l) ≡ xor_pad f (take n l)
take-pad f n l h =
    ap (λ (k : List ℕ). take n (xor_pad f k)) (sym (take-append-drop n l))
    ∙ ap (take n) (pad-append f (take n l) (drop n l))
    ∙ take_at (xor_pad f (take n l)) (xor_pad (λ i. f (length (take n l) + i)) (drop n l)) n (length-pad f (take n l) ∙ length-take-le n l h)

drop-pad : (f : ℕ → ℕ) (n : ℕ) (l : List ℕ) → n ≤ length l → drop n (xor_pad f l) ≡ xor_pad (λ i. f (n + i)) (drop n l)
drop-pad f n l h =
    let e = length-take-le n l h in
    ap (λ (k : List ℕ). drop n (xor_pad f k)) (sym (take-append-drop n l))
    ∙ ap (drop n) (pad-append f (take n l) (drop n l))
    ∙ drop_at (xor_pad f (take n l)) (xor_pad (λ i. f (length (take n l) + i)) (drop n l)) n (length-pad f (take n l) ∙ e)
    ∙ ap (λ (m : ℕ). xor_pad (λ i. f (m + i)) (drop n l)) e

part-pad : (f : ℕ → ℕ) (n m : ℕ) (l : List ℕ) → n ≤ m → m ≤ length l → take (m - n) (drop n (xor_pad f l)) ≡ xor_pad (λ i. f (n + i)) (take (m - n) (drop n l))
part-pad f n m l h k = ap (take (m - n)) (drop-pad f n l (omega arith)) ∙ take-pad (λ i. f (n + i)) (m - n) (drop n l) (simp length-drop (omega arith))

module _ (l : List ℕ) (first stop rest : ℕ) (f : ℕ → ℕ) (up : first ≤ stop) (on : stop ≤ rest) (in-it : rest ≤ length l) where
  pad : ℕ → ℕ
  pad = portion_pad first stop rest f

  pub inside_is : inside_of first stop rest (xor_pad (portion_pad first stop rest f) l) ≡ xor_pad f (inside_of first stop rest l)
  unfolding pad
  inside_is =
      let c = take (stop - first) (drop first l) in
      let d = drop rest l in
      let n : length c ≡ stop - first = part_length first stop l (omega arith) in
      ap₂ (λ (x y : List ℕ). x ++ y)
      (part-pad pad first stop l up (omega arith)
      ∙ pad-ext (λ i. pad (first + i)) f c
      (λ i b. let e : first + i - first ≡ i = omega arith in in-first first stop rest f (first + i) (omega arith) (omega arith) ∙ ap f e))
      (drop-pad pad rest l in-it
      ∙ pad-ext (λ i. pad (rest + i)) (λ i. f (length c + i)) d
      (λ i b. let e : stop - first + (rest + i - rest) ≡ length c + i = omega arith in past-gap first stop rest f (rest + i) (omega arith) (omega arith) (omega arith) ∙ ap f e))
      ∙ sym (pad-append f c d)

  pub outside-is : outside_of first stop rest (xor_pad (portion_pad first stop rest f) l) ≡ outside_of first stop rest l
  unfolding pad
  outside-is =
      let a = take first l in
      let b = take (rest - stop) (drop stop l) in
      let m : length a ≡ first = length-take-le first l (omega arith) in
      let n : length b ≡ rest - stop = part_length stop rest l in-it in
      ap₂ (λ (x y : List ℕ). x ++ y)
      (take-pad pad first l (omega arith) ∙ pad-none pad a (λ i h. before-first first stop rest f i (omega arith)))
      (part-pad pad stop rest l on in-it ∙ pad-none (λ i. pad (stop + i)) b (λ i h. in-gap first stop rest f (stop + i) (omega arith) (omega arith) (omega arith)))
