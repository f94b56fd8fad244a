-- Four bytes at a time: they are read as a number, XORed, and written again.
use mathlib.Core.Path.{◌≡◌, sym, ap, ap₂, ◌∙◌}
use mathlib.Core.List.{List, [], ◌∷◌, ◌++◌}
use Prim.Native.Nat.{ℕ, ◌+◌, ◌-◌, ◌≤◌, ◌<◌}
use native.Mathlib.Nat.{add-zero, zero-add}
use native.Mathlib.Omega.{arith}
use lib.Dec.{T}
use lib.ListN.{length, get_or, take, drop}
use lib.Pow.{are_bytes}
use Rattle.bits.specs.BigEndian.{from_bytes, to_bytes}
use Rattle.bits.specs.Xor.{◌⊕◌, xor_pad, xor_list}
use Rattle.bits.proofs.BigEndian.{to-from}
use Rattle.bits.proofs.Bytes.{cons-bytes}
use Rattle.bits.proofs.Lists.{tabulated}
use Rattle.bits.proofs.Xor.{to-xor, length-pad, pad-ext}
use Rattle.stretches.specs.Stretch.{stretch_pad}
use Rattle.stretches.proofs.Stretches.{at_in, stretch-done, stretch-part, stretch-join}

four_bytes : (a b c d : ℕ) → a < 256 → b < 256 → c < 256 → d < 256 → T (are_bytes (a ∷ b ∷ c ∷ d ∷ []))
four_bytes a b c d ha hb hc hd =
    cons-bytes a (b ∷ c ∷ d ∷ []) ha (cons-bytes b (c ∷ d ∷ []) hb (cons-bytes c (d ∷ []) hc (cons-bytes d [] hd tt)))

-- as the code makes them
pub summed : (part block b : List ℕ) (from x y : ℕ) → length part ≡ 4 → ((k : ℕ) → get_or part k 0 < 256) → ((k : ℕ) → get_or block k 0 < 256)
    → x ≡ from_bytes (get_or part 0 0 ∷ get_or part 1 0 ∷ get_or part 2 0 ∷ get_or part 3 0 ∷ [])
    → y ≡ from_bytes (get_or block from 0 ∷ get_or block (from + 1) 0 ∷ get_or block (from + 2) 0 ∷ get_or block (from + 3) 0 ∷ [])
    → b ≡ to_bytes 4 (x ⊕ y) → b ≡ xor_pad (λ k. get_or block (from + k) 0) part
summed part block b from x y n hp hb ex ey eb =
    let p = get_or part 0 0 ∷ get_or part 1 0 ∷ get_or part 2 0 ∷ get_or part 3 0 ∷ [] in
    let w = get_or block from 0 ∷ get_or block (from + 1) 0 ∷ get_or block (from + 2) 0 ∷ get_or block (from + 3) 0 ∷ [] in
    let bp = four_bytes (get_or part 0 0) (get_or part 1 0) (get_or part 2 0) (get_or part 3 0) (hp 0) (hp 1) (hp 2) (hp 3) in
    let bw = four_bytes (get_or block from 0) (get_or block (from + 1) 0) (get_or block (from + 2) 0) (get_or block (from + 3) 0) (hb from) (hb (from + 1)) (hb (from + 2)) (hb (from + 3)) in
    let same : xor_list p w ≡ xor_pad (λ k. get_or block (from + k) 0) p = simp add-zero in
    eb ∙ ap₂ (λ (u v : ℕ). to_bytes 4 (u ⊕ v)) ex ey ∙ to-xor 4 (from_bytes p) (from_bytes w)
    ∙ ap₂ xor_list (to-from p bp) (to-from w bw)
    ∙ same
    ∙ ap (xor_pad (λ k. get_or block (from + k) 0)) (tabulated 0 4 part n)

-- a block, column after column
module _ (block l : List ℕ) where
  pub columns : (b : ℕ) (m ys : List ℕ) → b + 4 ≤ length l → m ≡ xor_pad (stretch_pad 0 b 0 (λ k. get_or block k 0)) l
      → ys ≡ xor_pad (λ k. get_or block (b + k) 0) (take (b + 4 - b) (drop b m))
      → take b m ++ (ys ++ drop (b + 4 - b) (drop b m)) ≡ xor_pad (stretch_pad 0 (b + 4) 0 (λ k. get_or block k 0)) l
  columns b m ys n em ey =
      let stream : ℕ → ℕ = λ k. get_or block k 0 in
      let size : length m ≡ length l = ap length em ∙ length-pad (stretch_pad 0 b 0 stream) l in
      stretch-part b (b + 4) b stream m ys (omega arith) (omega arith) ey
      ∙ ap (xor_pad (stretch_pad b (b + 4) b stream)) em
      ∙ stretch-join 0 b (b + 4) 0 b stream l (omega arith) (omega arith) (omega arith)

  pub none_yet : l ≡ xor_pad (stretch_pad 0 0 0 (λ k. get_or block k 0)) l
  none_yet = sym (stretch-done 0 0 0 (λ k. get_or block k 0) l (omega arith))

  pub all-four : length l ≡ 16 → xor_pad (stretch_pad 0 16 0 (λ k. get_or block k 0)) l ≡ xor_pad (λ k. get_or block k 0) l
  all-four n =
      pad-ext (stretch_pad 0 16 0 (λ k. get_or block k 0)) (λ k. get_or block k 0) l
      (λ i b. at_in 0 16 0 (λ k. get_or block k 0) i i (omega arith) (omega arith) (omega arith))

  pub from_zero : xor_pad (λ k. get_or block k 0) l ≡ xor_pad (λ k. get_or block (0 + k) 0) l
  from_zero = pad-ext (λ k. get_or block k 0) (λ k. get_or block (0 + k) 0) l (λ i b. ap (λ (m : ℕ). get_or block m 0) (sym (zero-add i)))
