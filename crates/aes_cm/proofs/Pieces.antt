-- A portion, piece by piece: two neighbouring stretches of the keystream part, and the bytes around them as they were.
use mathlib.Core.Path.{◌≡◌, sym, ap, ap₂, ◌∙◌}
use mathlib.Core.List.{List, ◌++◌}
use Prim.Native.Nat.{ℕ, ◌+◌, ◌-◌, ◌≤◌}
use native.Mathlib.Omega.{arith}
use lib.ListN.{length, take, drop, length-drop, take-append-drop}
use lib.Seq.{drop-drop, length-take-le}
use Rattle.bits.specs.Xor.{xor_pad}
use Rattle.bits.proofs.Xor.{pad-append, pad-ext, pad-none}
use Rattle.stretches.specs.Stretch.{keystream_end, stretch_by}
use Rattle.stretches.proofs.Parts.{served-bytes, part_length}
use Rattle.aes_cm.specs.Portion.{portion_pad}
use Rattle.aes_cm.proofs.Portions.{before-first, in-first, in-gap, past-gap}

module _ (stream : ℕ → ℕ) (first stop rest : ℕ) (l : List ℕ) (up : first ≤ stop) (on : stop ≤ rest) (to : rest ≤ length l) (end : length l ≤ keystream_end) where
  abbrev head : List ℕ
  head = take first l

  abbrev front : List ℕ
  front = take (stop - first) (drop first l)

  abbrev gap : List ℕ
  gap = take (rest - stop) (drop stop l)

  abbrev back : List ℕ
  back = drop rest l

  whole : head ++ (front ++ (gap ++ back)) ≡ l
  whole =
      let a : first + (stop - first) ≡ stop = omega arith in
      let b : stop + (rest - stop) ≡ rest = omega arith in
      ap (λ (u : List ℕ). head ++ (front ++ u))
      (ap (λ (u : List ℕ). gap ++ u) (sym (drop-drop (rest - stop) stop l ∙ ap (λ (m : ℕ). drop m l) b))
      ∙ take-append-drop (rest - stop) (drop stop l)
      ∙ sym (drop-drop (stop - first) first l ∙ ap (λ (m : ℕ). drop m l) a))
      ∙ ap (λ (u : List ℕ). head ++ u) (take-append-drop (stop - first) (drop first l))
      ∙ take-append-drop first l

  pub portion-pieces : xor_pad (portion_pad first stop rest stream) l
      ≡ take first l
      ++ ((stretch_by stream 0 (take (stop - first) (drop first l))).bytes ++ (take (rest - stop) (drop stop l) ++ (stretch_by stream (stop - first) (drop rest l)).bytes))
  portion-pieces =
      let f = portion_pad first stop rest stream in
      let nh : length head ≡ first = length-take-le first l (omega arith) in
      let nf : length front ≡ stop - first = part_length first stop l (omega arith) in
      let ng : length gap ≡ rest - stop = part_length stop rest l to in
      let nb : length back ≡ length l - rest = length-drop rest l in
      ap (xor_pad f) (sym whole) ∙ pad-append f head (front ++ (gap ++ back))
      ∙ ap₂ (λ (u v : List ℕ). u ++ v)
      (pad-none f head (λ i b. before-first first stop rest stream i (omega arith)))
      (pad-append (λ i. f (length head + i)) front (gap ++ back)
      ∙ ap₂ (λ (u v : List ℕ). u ++ v)
      (pad-ext (λ i. f (length head + i)) (λ k. stream (0 + k)) front
      (λ i b. in-first first stop rest stream (length head + i) (omega arith) (omega arith) ∙ ap stream (omega arith))
      ∙ sym (served-bytes stream 0 front (omega arith)))
      (pad-append (λ i. f (length head + (length front + i))) gap back
      ∙ ap₂ (λ (u v : List ℕ). u ++ v)
      (pad-none (λ i. f (length head + (length front + i))) gap
      (λ i b. in-gap first stop rest stream (length head + (length front + i)) (omega arith) (omega arith) (omega arith)))
      (pad-ext (λ i. f (length head + (length front + (length gap + i)))) (λ k. stream (stop - first + k)) back
      (λ i b. past-gap first stop rest stream (length head + (length front + (length gap + i))) (omega arith) (omega arith) (omega arith) ∙ ap stream (omega arith))
      ∙ sym (served-bytes stream (stop - first) back (omega arith)))))
