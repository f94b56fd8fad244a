-- Ids and lengths are never masked, so a masked block reads as the plain one. And headers that are the same are read alike.
use mathlib.Core.Path.{◌≡◌, refl, ap, ap₂, ◌∙◌}
use mathlib.Core.Bool.{Bool, true, false, not}
use mathlib.Core.List.{List, [], ◌∷◌, ◌++◌}
use Prim.Native.Nat.{ℕ, suc, ◌+◌, ◌*◌, ◌≤◌, ◌<◌}
use native.Mathlib.Omega.{arith}
use lib.Bits.{xor_zero_r}
use lib.Dec.{eqb}
use lib.ListN.{length}
use Rattle.bits.specs.BigEndian.{from_bytes}
use Rattle.bits.specs.Pick.{pick}
use Rattle.bits.specs.Xor.{◌⊕◌, xor_pad}
use Rattle.bits.proofs.Xor.{length-pad, pad-twice}
use Rattle.rtp_elements.specs.declared.element.Element.{Element}
use Rattle.rtp_claims.specs.Claims.{SameHeader, HeaderAlone, MaskedReadsAlike}
use Rattle.rtp_elements.specs.Elements.{NextByte, Between, Length, Data, Ended, two_byte, start_of, data_of, first_of, step_of, end_of, within, whole_of, begun_of, elements_from, elements_of}
use Rattle.rtp_header.specs.Header.{has_extension, past_contributors, field16, layout_by, layout_of, bounded_of, header_of}
use Rattle.rtp_elements.specs.Mask.{mask_byte, mask_from, mask_of, masked_pad, masked_of}
use Rattle.rtp_elements.proofs.Walks.{masked_from}

-- ---- the mask

module _ (listed : ℕ → Bool) (two : Bool) where
  -- a byte as it is masked at a place
  abbrev masked_byte : NextByte → ℕ → ℕ → ℕ
  masked_byte p x a = x ⊕ pick (eqb (mask_byte listed p) 0xFF) a 0

  step_same : (p : NextByte) (x a : ℕ) → step_of two p (masked_byte p x a) ≡ step_of two p x
  step_same Between x a = ap (first_of two) (xor_zero_r x)
  step_same (Length id) x a = ap (data_of id) (xor_zero_r x)
  step_same (Data id n) x a = refl
  step_same Ended x a = refl

  begun-same : (p : NextByte) (i x a : ℕ) → begun_of two p i (masked_byte p x a) ≡ begun_of two p i x
  begun-same Between i x a = ap (begun_of two Between i) (xor_zero_r x)
  begun-same (Length id) i x a = ap (begun_of two (Length id) i) (xor_zero_r x)
  begun-same (Data id n) i x a = refl
  begun-same Ended i x a = refl

  elements_same : (p : NextByte) (i : ℕ) (pad : ℕ → ℕ) (l : List ℕ) → elements_from two p i (masked_from listed two p pad l) ≡ elements_from two p i l
  elements_same p i pad [] = refl
  elements_same p i pad (x ∷ l) =
      ap₂ (λ (b : List Element) (s : NextByte). b ++ elements_from two s (i + 1) (masked_from listed two (step_of two p x) (λ k. pad (suc k)) l))
      (begun-same p i x (pad 0)) (step_same p x (pad 0))
      ∙ ap (λ (r : List Element). begun_of two p i x ++ r) (elements_same (step_of two p x) (i + 1) (λ k. pad (suc k)) l)

  end_same : (p : NextByte) (pad : ℕ → ℕ) (l : List ℕ) → end_of two p (masked_from listed two p pad l) ≡ end_of two p l
  end_same p pad [] = refl
  end_same p pad (x ∷ l) =
      ap (λ (s : NextByte). end_of two s (masked_from listed two (step_of two p x) (λ k. pad (suc k)) l)) (step_same p x (pad 0))
      ∙ end_same (step_of two p x) (λ k. pad (suc k)) l

  mask-same : (other : ℕ → Bool) (p : NextByte) (pad : ℕ → ℕ) (l : List ℕ) → mask_from other two p (masked_from listed two p pad l) ≡ mask_from other two p l
  mask-same other p pad [] = refl
  mask-same other p pad (x ∷ l) =
      ap (λ (s : NextByte). mask_byte other p ∷ mask_from other two s (masked_from listed two (step_of two p x) (λ k. pad (suc k)) l)) (step_same p x (pad 0))
      ∙ ap (λ (r : List ℕ). mask_byte other p ∷ r) (mask-same other (step_of two p x) (λ k. pad (suc k)) l)

pub masked-reads-alike : MaskedReadsAlike
unfolding whole_of elements_of mask_of masked_of
masked-reads-alike =
    record {
      elements = λ listed tag pad block. elements_same listed (two_byte tag) (start_of tag) 0 pad block;
      whole = λ listed tag pad block. ap (λ (p : NextByte). not (within p)) (end_same listed (two_byte tag) (start_of tag) pad block);
      mask = λ listed other tag pad block. mask-same listed (two_byte tag) other (start_of tag) pad block;
      same_length = λ listed tag pad block. length-pad (masked_pad (mask_from listed (two_byte tag) (start_of tag) block) pad) block;
      undone =
          λ listed tag pad block.
          ap (λ (m : List ℕ). xor_pad (masked_pad m pad) (masked_from listed (two_byte tag) (start_of tag) pad block)) (mask-same listed (two_byte tag) listed (start_of tag) pad block)
          ∙ pad-twice (masked_pad (mask_from listed (two_byte tag) (start_of tag) block) pad) block;
    }

-- ---- the header

module _ (p q : List ℕ) (s : SameHeader p q) where
  past_same : past_contributors q ≡ past_contributors p
  past_same = ap (λ (c : ℕ). 12 + 4 * c) s.cc

  field-same : has_extension p ≡ true → (i : ℕ) → past_contributors p ≤ i → i + 1 < past_contributors p + 4 → field16 q i ≡ field16 p i
  field-same x i a b =
      ap₂ (λ (u v : ℕ). from_bytes (u ∷ v ∷ [])) (s.extension x i a (omega arith)) (s.extension x (i + 1) (omega arith) b)

  layout-by : (t : Bool) → has_extension p ≡ t → layout_by t q ≡ layout_by t p
  layout-by true x =
      let a : field16 q (past_contributors p) ≡ field16 p (past_contributors p) = field-same x (past_contributors p) (omega arith) (omega arith) in
      let b : field16 q (past_contributors p + 2) ≡ field16 p (past_contributors p + 2) = field-same x (past_contributors p + 2) (omega arith) (omega arith) in
      rw (past_same, s.cc, a, b)
  layout-by false x = rw (past_same, s.cc)

  layout-same : layout_of q ≡ layout_of p
  unfolding layout_of
  layout-same = rw s.x (layout-by (has_extension p) refl)

  answer-same : (t : ℕ) → length q ≡ length p → header_of q t ≡ header_of p t
  unfolding header_of bounded_of
  answer-same t n = rw (n, s.version, layout-same)

pub header-alone : HeaderAlone
header-alone = record { layout = layout-same; answer = λ p q t s n. answer-same p q s t n }
