-- The loop over the blocks of a stretch.
use mathlib.Core.Path.{◌≡◌, sym, ap, ap₂, subst, ◌∙◌}
use mathlib.Core.List.{List, ◌++◌}
use Prim.Native.Nat.{ℕ, ◌+◌, ◌-◌, ◌/◌, ◌%◌, ◌≤◌, ◌<◌}
use native.Mathlib.Omega.{arith}
use native.Mathlib.Decide.{dec_lt}
use borrow.Author.Tests.{lt-ltb, le-ltb}
use lib.ListN.{length, get_or, take, drop, length-drop}
use lib.Seq.{length-take-le}
use Rattle.bits.specs.Xor.{xor_pad}
use Rattle.bits.proofs.Xor.{length-pad, pad-ext}
use Rattle.aes_keystream.specs.declared.keystream.Keystream.{Keystream}
use Rattle.aes.specs.Blocks.{block_from, byte_from}
use Rattle.aes.proofs.Borders.{byte-of}
use Rattle.stretches.specs.Stretch.{keystream_end, stretch_by, stretch_pad}
use Rattle.aes_keystream.specs.Steps.{span_of, Span, Holds, Used}
use Rattle.stretches.proofs.Stretches.{at_in, stretch-done, stretch-part, stretch-join}
use Rattle.stretches.proofs.Parts.{served-bytes}

pub spanned : (from left n : ℕ) → from < 16 → n ≡ span_of from left → Span from left n
spanned from left n h e =
    elim (dec_lt left (16 - from)) [
      | yes u ↦ let d : n ≡ left = e ∙ simp (lt-ltb _ _ u) in record { fits = omega arith; within = omega arith; forward = λ p. omega arith; whole = λ p. omega arith }
      | no u ↦ let v : 16 - from ≤ left = omega arith in
          let d : n ≡ 16 - from = e ∙ simp (le-ltb _ _ v) in record { fits = omega arith; within = omega arith; forward = λ p. omega arith; whole = λ p. omega arith }
    ]

module _ (key start : List ℕ) where
  -- within a block, the keystream's bytes are the block's
  pub in_block : (block : List ℕ) (o k : ℕ) → block ≡ block_from key start (o / 16) → o % 16 + k < 16 → get_or block (o % 16 + k) 0 ≡ byte_from key start (o + k)
  in_block block o k e h =
      let q : (o + k) / 16 ≡ o / 16 = omega arith in
      let r : (o + k) % 16 ≡ o % 16 + k = omega arith in
      ap (λ (b : List ℕ). get_or b (o % 16 + k) 0) e
      ∙ sym (byte-of key start (o + k) ∙ ap₂ (λ (m n : ℕ). get_or (block_from key start m) n 0) q r)

  -- the block carried along
  pub holds-next : (block : List ℕ) (o n : ℕ) → block ≡ block_from key start (o / 16) → o % 16 + n ≤ 16 → Holds key start (record { block = block; at = o + n })
  holds-next block o n e h =
      record { block = λ u. let q : o / 16 ≡ (o + n) / 16 = omega arith in e ∙ ap (block_from key start) q }

  -- bytes of the block that is held
  pub held : (l : List ℕ) (s : Keystream) (n : ℕ) (ys : List ℕ) → (s.at % 16 ≡ 0 → ⊥) → Span (s.at % 16) (length l) n
      → ys ≡ xor_pad (λ k. get_or s.block (s.at % 16 + k) 0) (take n l) → Holds key start s
      → Holds key start (record { block = s.block; at = s.at + n })
      × (ys ++ drop n l ≡ xor_pad (stretch_pad 0 (s.at + n - s.at) s.at (byte_from key start)) l)
  held l s n ys u p ey h =
      let o = s.at in
      let stream = byte_from key start in
      let f = p.fits in
      let g = p.within in
      let eb = h.block u in
      let part = take (n - 0) (drop 0 l) in
      let lp : length part ≡ n = length-take-le (n - 0) (drop 0 l) (omega arith) ∙ omega arith in
      let y : n ≡ n - 0 = omega arith in
      let z : n ≡ o + n - o = omega arith in (
        holds-next s.block o n eb f,
        ap (λ (m : ℕ). ys ++ drop m l) y
            ∙ stretch-part 0 n o stream l ys (omega arith) (omega arith)
            (ey ∙ ap (λ (m : ℕ). xor_pad (λ k. get_or s.block (o % 16 + k) 0) (take m l)) y
            ∙ pad-ext (λ k. get_or s.block (o % 16 + k) 0) (λ k. stream (o + k)) part (λ k b. in_block s.block o k eb (omega arith)))
            ∙ ap (λ (m : ℕ). xor_pad (stretch_pad 0 m o stream) l) z,
      )

  -- what the loop keeps
  pub record Walk (a e : ℕ) (l₀ : List ℕ) (t₀ : Keystream) (l : List ℕ) (t : Keystream) (i : ℕ) : Type 0 where
    pub from : a ≤ i
    pub upto : i ≤ e
    pub size : length l ≡ length l₀
    pub at : t.at ≡ t₀.at + (i - a)
    pub next : i < e → t.at % 16 ≡ 0
    pub holds : Holds key start t
    pub left : xor_pad (stretch_pad i e t.at (byte_from key start)) l ≡ xor_pad (stretch_pad a e t₀.at (byte_from key start)) l₀

  pub walked : (a e : ℕ) (l₀ : List ℕ) (t₀ : Keystream) (l : List ℕ) (t : Keystream) (i n : ℕ) (block ys : List ℕ)
      → e ≤ length l₀ → i < e → Walk a e l₀ t₀ l t i → block ≡ block_from key start (t.at / 16) → Span (t.at % 16) (e - i) n
      → ys ≡ xor_pad (λ k. get_or block (t.at % 16 + k) 0) (take (i + n - i) (drop i l))
      → Walk a e l₀ t₀ (take i l ++ (ys ++ drop (i + n - i) (drop i l))) (record { block = block; at = t.at + n }) (i + n)
  walked a e l₀ t₀ l t i n block ys he hi w eb s ey =
      let o = t.at in
      let stream = byte_from key start in
      let part = take (i + n - i) (drop i l) in
      let f = s.fits in
      let g = s.within in
      let sz = w.size in
      let lp : length part ≡ n = length-take-le (i + n - i) (drop i l) (simp length-drop (omega arith)) ∙ omega arith in
      let ez : ys ≡ xor_pad (λ k. stream (o + k)) part =
      ey ∙ pad-ext (λ k. get_or block (o % 16 + k) 0) (λ k. stream (o + k)) part (λ k b. in_block block o k eb (omega arith)) in
      let here : take i l ++ (ys ++ drop (i + n - i) (drop i l)) ≡ xor_pad (stretch_pad i (i + n) o stream) l =
      stretch-part i (i + n) o stream l ys (omega arith) (omega arith) ez in
      record {
        from = omega (arith, w.from);
        upto = omega arith;
        size = ap length here ∙ length-pad (stretch_pad i (i + n) o stream) l ∙ w.size;
        at = omega (arith, w.at, w.from);
        next = λ u. let v = s.whole (omega arith) in omega arith;
        holds = holds-next block o n eb s.fits;
        left = ap (xor_pad (stretch_pad (i + n) e (o + n) stream)) here ∙ stretch-join i (i + n) e o (o + n) stream l (omega arith) (omega arith) (omega arith) ∙ w.left;
      }

-- a block from its first byte on
pub followed : (key start : List ℕ) (e : ℕ) (l₀ : List ℕ) (t₀ : Keystream) (i₀ : ℕ) (l : List ℕ) (t : Keystream) (i n : ℕ) (block ys : List ℕ)
    → e ≤ length l₀ → i < e → Walk key start i₀ e l₀ t₀ l t i → block ≡ block_from key start (t.at / 16) → Span 0 (e - i) n
    → ys ≡ xor_pad (λ k. get_or block (0 + k) 0) (take (i + n - i) (drop i l))
    → Walk key start i₀ e l₀ t₀ (take i l ++ (ys ++ drop (i + n - i) (drop i l))) (record { block = block; at = t.at + n }) (i + n)
followed key start e l₀ t₀ i₀ l t i n block ys he hi w eb s ey =
    let z = w.next hi in
    walked key start i₀ e l₀ t₀ l t i n block ys he hi w eb (subst (λ (f : ℕ). Span f (e - i) n) (sym z) s)
    (ey ∙ ap (λ (f : ℕ). xor_pad (λ k. get_or block (f + k) 0) (take (i + n - i) (drop i l))) (sym z))

-- the whole of a stretch: the block that was held, and then the blocks that the loop made
pub stretched : (key start : List ℕ) (s t₀ t : Keystream) (l l₀ m : List ℕ) (i : ℕ) → length l ≤ i → s.at + length l ≤ keystream_end → Used (length l) s t₀
    → l₀ ≡ xor_pad (stretch_pad 0 (t₀.at - s.at) s.at (byte_from key start)) l → Walk key start (t₀.at - s.at) (length l) l₀ t₀ m t i
    → m ≡ (stretch_by (byte_from key start) s.at l).bytes
stretched key start s t₀ t l l₀ m i g h u el w =
    let stream = byte_from key start in
    let e = length l in
    let i₀ = t₀.at - s.at in
    let f = u.forward in
    let n = u.within in
    sym (stretch-done i e t.at stream m g) ∙ w.left
    ∙ ap (xor_pad (stretch_pad i₀ e t₀.at stream)) el
    ∙ stretch-join 0 i₀ e s.at t₀.at stream l (omega arith) (omega arith) (omega arith)
    ∙ pad-ext (stretch_pad 0 e s.at stream) (λ k. stream (s.at + k)) l (λ k b. at_in 0 e s.at stream k (s.at + k) (omega arith) b (omega arith))
    ∙ sym (served-bytes stream s.at l h)

-- nothing is used of a keystream at the start of a block
pub unused : (key start : List ℕ) (o : ℕ) (l : List ℕ) → l ≡ xor_pad (stretch_pad 0 (o - o) o (byte_from key start)) l
unused key start o l = sym (stretch-done 0 (o - o) o (byte_from key start) l (omega arith))

-- before the first byte of a block
pub fresh : (key start block : List ℕ) (at : ℕ) → at % 16 ≡ 0 → Holds key start (record { block = block; at = at })
fresh key start block at z = record { block = λ u. absurd (u z) }
