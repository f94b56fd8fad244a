-- Seeking the first element with an id while walking on to the block's end.
use Rattle.std.specs.Prelude.{Option, Some, None, Result, Ok, Err}
use mathlib.Core.Path.{◌≡◌, refl, sym, ap, ap₂, ◌∙◌}
use mathlib.Core.Bool.{Bool, true, false, not, true≢false}
use Rattle.std.specs.Option.{is_some, ok_or}
use mathlib.Core.List.{List, [], ◌∷◌}
use Prim.Native.Nat.{ℕ, ◌+◌, ◌≤◌}
use borrow.Author.Tests.{eq-eqb, ne_eqb}
use lib.ListN.{length, drop}
use Rattle.bits.specs.Pick.{pick}
use Rattle.bits.specs.declared.refusal.Refusal.{Refusal}
use Rattle.bits.specs.declared.refusal.Refusal.TheVariants as refusal
use Rattle.rtp_elements.specs.declared.element.Element.{Element}
use Rattle.rtp_elements.specs.Elements.{NextByte, two_byte, start_of, within, whole_from, whole_of, elements_from, elements_of}
use Rattle.rtp.specs.Finding.{first_with, located_of}
use Rattle.rtp.specs.Steps.{Inside}
use Rattle.rtp_elements.specs.Next.{next_of}
use Rattle.rtp_elements.proofs.Stepping.{Stepped, Over, next_past, next-refusal}

-- what was found, once these elements are looked through too
abbrev onward : Option Element → ℕ → List Element → Result Element Refusal
onward (Some f) id es = Ok f
onward None id es = first_with id es

onward-end : (first : Option Element) (id : ℕ) → onward first id [] ≡ ok_or first refusal.Absent
onward-end (Some f) id = refl
onward-end None id = refl

-- what is kept where one more element is met: the first match stays
pub data Kept (first : Option Element) (e : Element) (id : ℕ) (kept : Option Element) : Type 0 where
  here : is_some first ≡ false → e.id ≡ id → kept ≡ Some e → Kept first e id kept
  other : (e.id ≡ id → ⊥) → kept ≡ first → Kept first e id kept
  there : is_some first ≡ true → kept ≡ first → Kept first e id kept

onward-next : (first kept : Option Element) (e : Element) (id : ℕ) (es : List Element) → Kept first e id kept → onward kept id es ≡ onward first id (e ∷ es)
onward-next (Some f) kept e id es (here n i k) = absurd (true≢false n)
onward-next None kept e id es (here n i k) = rw k (simp (eq-eqb e.id id i))
onward-next (Some f) kept e id es (other n k) = rw k
onward-next None kept e id es (other n k) = rw k (simp (ne_eqb e.id id n))
onward-next (Some f) kept e id es (there n k) = rw k
onward-next None kept e id es (there n k) = absurd (true≢false (sym n))

kept-inside : (size : ℕ) (first kept : Option Element) (e : Element) (id : ℕ) → Kept first e id kept → Inside size (ok_or first refusal.Absent) → e.begin + e.length ≤ size
    → Inside size (ok_or kept refusal.Absent)
kept-inside size first kept e id (here n i k) w h = rw k h
kept-inside size first kept e id (other n k) w h = rw k w
kept-inside size first kept e id (there n k) w h = rw k w

module _ (tag : ℕ) (block : List ℕ) (id : ℕ) where
  -- what the walk will have found, from place i on with `first` so far
  unfoldable pub ahead : Option Element → ℕ → Result Element Refusal
  ahead first i =
      pick (whole_from (two_byte tag) (start_of tag) (drop i block)) (onward first id (elements_from (two_byte tag) (start_of tag) i (drop i block))) (Err refusal.Element)

  -- place i is reached
  pub record Sought (first : Option Element) (i : ℕ) : Type 0 where
    pub inside : Inside (length block) (ok_or first refusal.Absent)
    pub found : ahead first i ≡ located_of tag block id

  pub sought-start : Sought None 0
  unfolding ahead located_of whole_of elements_of
  sought-start = record { inside = tt; found = refl }

  pub sought-next : (first kept : Option Element) (i : ℕ) (e : Element) → Kept first e id kept → Stepped tag block i e → Sought first i → Sought kept (e.begin + e.length)
  unfolding ahead
  sought-next first kept i e k s w =
      record {
        inside = kept-inside (length block) first kept e id k w.inside s.inside;
        found =
            ap₂ (λ (t : Bool) (f : Result Element Refusal). pick t f (Err refusal.Element)) (ap (λ (p : NextByte). not (within p)) (sym s.end))
            (onward-next first kept e id (elements_from (two_byte tag) (start_of tag) (e.begin + e.length) (drop (e.begin + e.length) block)) k
            ∙ ap (onward first id) (sym s.elements))
            ∙ w.found;
      }

  pub sought-end : (first : Option Element) (i : ℕ) → Sought first i → Over tag block i → ok_or first refusal.Absent ≡ located_of tag block id
  unfolding ahead
  sought-end first i w o = sym (onward-end first id) ∙ sym (rw (o.whole, o.elements)) ∙ w.found

  pub sought-past : (first : Option Element) (i : ℕ) (r : Refusal) → Sought first i → next_of tag block i ≡ Err r → Err r ≡ located_of tag block id
  unfolding ahead
  sought-past first i r w q = rw (next-refusal tag block i r q) (sym (rw (next_past tag block i r q)) ∙ w.found)

  -- the first match is the answer, where the rest of the block is whole
  pub sought-match : (e : Element) (i : ℕ) (w : Bool) → Sought (Some e) i → w ≡ whole_from (two_byte tag) (start_of tag) (drop i block)
      → pick w (Ok e) (Err refusal.Element) ≡ located_of tag block id
  unfolding ahead
  sought-match e i w s r = rw r s.found
