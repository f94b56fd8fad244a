-- Ids that no element has.
use Rattle.std.specs.Prelude.{Err}
use Rattle.bits.specs.declared.refusal.Refusal.TheVariants as refusal
use mathlib.Core.Path.{◌≡◌, refl, ◌∙◌}
use mathlib.Core.Bool.{Bool, true, false, ◌||◌}
use mathlib.Core.List.{List, [], ◌∷◌, ◌++◌}
use Prim.Native.Nat.{ℕ, zero, suc, ◌+◌, ◌/◌}
use native.Mathlib.Omega.{arith}
use borrow.Author.Tests.{eqb-false, ne_eqb, not-true}
use lib.Dec.{eqb}
use lib.ListN.{get_or}
use Rattle.rtp_elements.specs.declared.element.Element.{Element}
use Rattle.rtp_claims.specs.Claims.{NeverFound}
use Rattle.rtp_elements.specs.Elements.{NextByte, Between, Length, Data, Ended, two_byte, has_elements, start_of, data_of, opens, first_of, step_of, whole_of, begun_of, elements_from, elements_of}
use Rattle.rtp.specs.Finding.{first_with, located_of}

-- no byte of a block names the id: neither in a one-byte header that opens an element, nor as a two-byte id
pub record Other (two : Bool) (id x : ℕ) : Type 0 where
  pub one : two ≡ false → opens x ≡ true → eqb (x / 16) id ≡ false
  pub both : two ≡ true → eqb x 0 ≡ false → eqb x id ≡ false

-- what has been read of an element does not name it either
abbrev Good : ℕ → NextByte → Type 0
Good id Between = Unit {0}
Good id (Length x) = eqb x id ≡ false
Good id (Data x n) = Unit {0}
Good id Ended = Unit {0}

module _ (two : Bool) (id : ℕ) where
  data-good : (x n : ℕ) → Good id (data_of x n)
  data-good x zero = tt
  data-good x (suc n) = tt

  first_good : (t z o : Bool) (x : ℕ) → two ≡ t → eqb x 0 ≡ z → opens x ≡ o → Other two id x → Good id (first_of two x)
  first_good t true o x et ez eo h = rw ez tt
  first_good true false o x et ez eo h = rw (ez, et) (h.both et ez)
  first_good false false true x et ez eo h = rw (ez, et, eo) tt
  first_good false false false x et ez eo h = rw (ez, et, eo) tt

  step-good : (p : NextByte) (x : ℕ) → Good id p → Other two id x → Good id (step_of two p x)
  step-good Between x g h = first_good two (eqb x 0) (opens x) x refl refl refl h
  step-good (Length y) x g h = data-good y x
  step-good (Data y n) x g h = data-good y n
  step-good Ended x g h = tt

  begun-other : (t o : Bool) (i x : ℕ) (r : List Element) → two ≡ t → opens x ≡ o → Other two id x
      → first_with id (begun_of two Between i x ++ r) ≡ first_with id r
  begun-other true o i x r et eo h = rw et
  begun-other false true i x r et eo h = rw (et, eo) (rw (h.one et eo))
  begun-other false false i x r et eo h = rw (et, eo)

  skip : (p : NextByte) (i x : ℕ) (r : List Element) → Good id p → Other two id x → first_with id (begun_of two p i x ++ r) ≡ first_with id r
  skip Between i x r g h = begun-other two (opens x) i x r refl refl h
  skip (Length y) i x r g h = rw g
  skip (Data y n) i x r g h = refl
  skip Ended i x r g h = refl

  none_named : (p : NextByte) (i : ℕ) (l : List ℕ) → Good id p → ((k : ℕ) → Other two id (get_or l k 0)) → first_with id (elements_from two p i l) ≡ Err refusal.Absent
  none_named p i [] g h = refl
  none_named p i (x ∷ l) g h =
      skip p i x (elements_from two (step_of two p x) (i + 1) l) g (h 0)
      ∙ none_named (step_of two p x) (i + 1) l (step-good p x g (h 0)) (λ k. h (suc k))

start-good : (id tag : ℕ) (t : Bool) → has_elements tag ≡ t → Good id (start_of tag)
start-good id tag true e = rw e tt
start-good id tag false e = rw e tt

pub located : (tag : ℕ) (block : List ℕ) (id : ℕ) → whole_of tag block ≡ true → ((k : ℕ) → Other (two_byte tag) id (get_or block k 0)) → located_of tag block id ≡ Err refusal.Absent
unfolding located_of elements_of
located tag block id w h = rw w (none_named (two_byte tag) id (start_of tag) 0 block (start-good id tag (has_elements tag) refl) h)

-- a header that opens an element has an id from 1 to 14
id_range : (x : ℕ) → opens x ≡ true → ((x / 16 ≡ 0 → ⊥) × (x / 16 ≡ 15 → ⊥))
id_range x o = by (eqb (x / 16) 0) (eqb (x / 16) 15) refl refl (not-true (eqb (x / 16) 0 || eqb (x / 16) 15) o)
  where
    by : (a b : Bool) → eqb (x / 16) 0 ≡ a → eqb (x / 16) 15 ≡ b → (eqb (x / 16) 0 || eqb (x / 16) 15) ≡ false → ((x / 16 ≡ 0 → ⊥) × (x / 16 ≡ 15 → ⊥))
    by true b ea eb n = let z : ◌≡◌ {A = ℕ} 0 1 = cc in absurd (omega arith)
    by false true ea eb n = let z : ◌≡◌ {A = ℕ} 0 1 = cc in absurd (omega arith)
    by false false ea eb n = (eqb-false (x / 16) 0 ea, eqb-false (x / 16) 15 eb)

pub never-found : NeverFound
never-found =
    record {
      zero-id = λ tag block w. located tag block 0 w (λ k. record { one = λ t o. ne_eqb (get_or block k 0 / 16) 0 (id_range (get_or block k 0) o).0; both = λ t z. z });
      high-id =
          λ block id bytes w h.
          located 0xBEDE block id w
          (λ k. record { one = λ t o. ne_eqb (get_or block k 0 / 16) id (λ e. (id_range (get_or block k 0) o).1 (omega (arith, bytes k))); both = λ t z. absurd (two-apart t) });
    }
  where
    two-apart : two_byte 0xBEDE ≡ true → ⊥
    two-apart t = let z : ◌≡◌ {A = ℕ} 0 1 = cc in omega arith
