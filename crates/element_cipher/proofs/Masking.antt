-- Masking a block in place, an element at a time.
use Rattle.std.specs.Prelude.{IsOk, Option, None, Result, Ok, Err}
use mathlib.Core.Path.{◌≡◌, refl, sym, ap, ap₂, ◌∙◌, fun_ext}
use mathlib.Core.Bool.{Bool, true, false, not, true≢false}
use mathlib.Core.List.{List, ◌++◌, append_assoc}
use Prim.Native.Nat.{ℕ, ◌+◌, ◌-◌, ◌≤◌, ◌<◌}
use native.Mathlib.Omega.{arith}
use lib.Dec.{eqb}
use lib.ListN.{length, get_or, take, drop, length-append, length-drop}
use lib.Seq.{take-add, take_at, drop_at, drop-drop, length-take-le}
use Rattle.bits.specs.Pick.{pick}
use Rattle.bits.specs.Xor.{xor_pad}
use Rattle.bits.proofs.Xor.{length-pad, pad-ext, pad-none}
use Rattle.stretches.specs.Stretch.{keystream_end, stretch_pad}
use Rattle.stretches.proofs.Stretches.{stretch-part}
use Rattle.bits.specs.declared.refusal.Refusal.{Refusal}
use Rattle.rtp_elements.specs.declared.element.Element.{Element}
use Rattle.rtp_elements.specs.Elements.{NextByte, two_byte, start_of, within, whole_from, whole_of}
use Rattle.rtp_elements.specs.Mask.{mask_of, masked_pad, masked_of}
use Rattle.rtp_elements.specs.Next.{next_of}
use Rattle.rtp_elements.proofs.Walks.{masked_from, masked-all, masked-is}
use Rattle.rtp_elements.proofs.Stepping.{to_mask, Stepped, Over, next-absent, next_past}

module _ (listed : ℕ → Bool) (tag : ℕ) (pad : ℕ → ℕ) where
  -- place i is reached: what is still to do, applied to the present block, is the goal
  pub record Masking (block₀ block : List ℕ) (i : ℕ) : Type 0 where
    pub upto : i ≤ length block₀
    pub size : length block ≡ length block₀
    pub whole : whole_from (two_byte tag) (start_of tag) (drop i block) ≡ true
    pub left : to_mask listed tag pad block i ≡ to_mask listed tag pad block₀ 0

  pub masking-start : (block : List ℕ) → whole_of tag block ≡ true → Masking block block 0
  unfolding whole_of
  masking-start block w = record { upto = omega arith; size = refl; whole = w; left = refl }

  to-mask-all : (block : List ℕ) → to_mask listed tag pad block 0 ≡ masked_of listed tag pad block
  to-mask-all block =
      ap (λ (g : ℕ → ℕ). masked_from listed (two_byte tag) (start_of tag) g block) (fun_ext (λ k. ap pad (omega arith))) ∙ sym (masked-all listed tag pad block)

  ended : (block₀ block : List ℕ) (i : ℕ) → Masking block₀ block i → Over tag block i → block ≡ masked_of listed tag pad block₀
  ended block₀ block i m o = sym (o.masked listed pad) ∙ m.left ∙ to-mask-all block₀

  pub masking-end : (block₀ block : List ℕ) (i : ℕ) → Masking block₀ block i → next_of tag block i ≡ Ok None → block ≡ masked_of listed tag pad block₀
  masking-end block₀ block i m q = ended block₀ block i m (next-absent tag block i q)

  -- the next step is no refusal
  pub masking-ok : (block₀ block : List ℕ) (i : ℕ) → Masking block₀ block i → IsOk (next_of tag block i)
  masking-ok block₀ block i m = go (next_of tag block i) refl
    where
      go : (f : Result (Option Element) Refusal) → next_of tag block i ≡ f → IsOk f
      go (Ok a) q = refl
      go (Err r) q = absurd (true≢false (sym m.whole ∙ next_past tag block i r q))

  module _ (block₀ block : List ℕ) (i : ℕ) (e : Element) (m : Masking block₀ block i) (s : Stepped tag block i e) where
    whole-on : whole_from (two_byte tag) (start_of tag) (drop (e.begin + e.length) block) ≡ true
    whole-on = ap (λ (p : NextByte). not (within p)) (sym s.end) ∙ m.whole

    rest : List ℕ
    rest = masked_from listed (two_byte tag) (start_of tag) (λ k. pad (e.begin + e.length + k)) (drop (e.begin + e.length) block)

    -- an element that is not listed stays
    pub masking-over : listed e.id ≡ false → Masking block₀ block (e.begin + e.length)
    unfolding rest
    masking-over l =
        record {
          upto = omega (arith, m.size, s.inside);
          size = m.size;
          whole = whole-on;
          left =
              ap (λ (t : List ℕ). t ++ rest) (take-add e.begin e.length block)
              ∙ append_assoc (take e.begin block) (take e.length (drop e.begin block)) rest
              ∙ ap (λ (t : List ℕ). take e.begin block ++ (t ++ rest))
              (sym (pad-none (λ k. pick (listed e.id) (pad (e.begin + k)) 0) (take e.length (drop e.begin block)) (λ k h. rw l)))
              ∙ sym (s.masked listed pad) ∙ m.left;
        }

    -- one that is listed is done
    module _ (l : listed e.id ≡ true) (done : List ℕ) (d : done ≡ xor_pad (λ k. pad (e.begin + k)) (take e.length (drop e.begin block))) where
      count : length done ≡ e.length
      count =
          let n : length (drop e.begin block) ≡ length block - e.begin = length-drop e.begin block in
          ap length d ∙ length-pad (λ k. pad (e.begin + k)) (take e.length (drop e.begin block))
          ∙ length-take-le e.length (drop e.begin block) (omega (arith, s.inside))

      front : length (take e.begin block ++ done) ≡ e.begin + e.length
      front =
          length-append (take e.begin block) done
          ∙ ap₂ (λ (a b : ℕ). a + b) (length-take-le e.begin block (omega (arith, s.inside))) count

      module _ (block' : List ℕ) (b : block' ≡ (take e.begin block ++ done) ++ drop (e.begin + e.length) block) where
        kept : drop (e.begin + e.length) block' ≡ drop (e.begin + e.length) block
        kept = rw b (drop_at (take e.begin block ++ done) (drop (e.begin + e.length) block) (e.begin + e.length) front)

        changed : take (e.begin + e.length) block' ≡ take e.begin block ++ done
        changed = rw b (take_at (take e.begin block ++ done) (drop (e.begin + e.length) block) (e.begin + e.length) front)

        pub masking-next : Masking block₀ block' (e.begin + e.length)
        unfolding rest
        masking-next =
            let n : length (drop (e.begin + e.length) block) ≡ length block - (e.begin + e.length) = length-drop (e.begin + e.length) block in
            let c : length block' ≡ length (take e.begin block ++ done) + length (drop (e.begin + e.length) block)
            = ap length b ∙ length-append (take e.begin block ++ done) (drop (e.begin + e.length) block) in
            record {
              upto = omega (arith, m.size, s.inside);
              size = omega (arith, front, m.size, s.inside);
              whole = rw kept whole-on;
              left =
                  ap₂ (λ (t r : List ℕ). t ++ masked_from listed (two_byte tag) (start_of tag) (λ k. pad (e.begin + e.length + k)) r) changed kept
                  ∙ append_assoc (take e.begin block) done rest
                  ∙ ap (λ (t : List ℕ). take e.begin block ++ (t ++ rest))
                  (d ∙ pad-ext (λ k. pad (e.begin + k)) (λ k. pick (listed e.id) (pad (e.begin + k)) 0) (take e.length (drop e.begin block)) (λ k h. rw l))
                  ∙ sym (s.masked listed pad) ∙ m.left;
            }

-- what the keystream onto an element's data leaves: byte k of it at place k
pub stretched-element : (pad : ℕ → ℕ) (block : List ℕ) (a n : ℕ) (block' : List ℕ) → a + n ≤ length block → block' ≡ xor_pad (stretch_pad a (a + n) a pad) block
    → block' ≡ (take a block ++ xor_pad (λ k. pad (a + k)) (take n (drop a block))) ++ drop (a + n) block
stretched-element pad block a n block' h d =
    let e : a + n - a ≡ n = omega arith in
    let done = xor_pad (λ k. pad (a + k)) (take n (drop a block)) in
    d
    ∙ sym (stretch-part a (a + n) a pad block done (omega arith) h (ap (λ (m : ℕ). xor_pad (λ k. pad (a + k)) (take m (drop a block))) (sym e)))
    ∙ sym (append_assoc (take a block) done (drop (a + n - a) (drop a block)))
    ∙ ap (λ (r : List ℕ). (take a block ++ done) ++ r) (drop-drop (a + n - a) a block ∙ ap (λ (j : ℕ). drop (a + j) block) e)

-- a block is masked alike by two keystreams that agree on its bytes
pub masked-is-stream : (listed : ℕ → Bool) (tag : ℕ) (made stream : ℕ → ℕ) → ((k : ℕ) → k < keystream_end → made k ≡ stream k) → (block block' : List ℕ) → length block ≤ keystream_end
    → block' ≡ masked_of listed tag made block → block' ≡ masked_of listed tag stream block
masked-is-stream listed tag made stream same block block' hl e =
    let mask = mask_of listed tag block in
    e
    ∙ masked-is listed tag made block
    ∙ pad-ext (masked_pad mask made) (masked_pad mask stream) block
    (λ k h. ap (λ (a : ℕ). pick (eqb (get_or mask k 0x00) 0xFF) a 0) (same k (omega arith)))
    ∙ sym (masked-is listed tag stream block)
