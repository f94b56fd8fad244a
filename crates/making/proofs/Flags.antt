-- The set of ids as the bits of four words, one id at a time.
use mathlib.Core.Path.{◌≡◌, refl, sym, ap, ◌∙◌}
use mathlib.Core.Bool.{Bool, true, false, not, ◌&&◌, ◌||◌}
use mathlib.Core.List.{List, [], ◌∷◌, ◌++◌}
use Prim.Native.Nat.{ℕ, ◌+◌, ◌*◌, ◌/◌, ◌%◌, ◌^◌, ◌<◌}
use native.Mathlib.Numerals.{add-one}
use native.Mathlib.Omega.{arith}
use borrow.Author.Tests.{eqb-true, eqb-false}
use lib.Bits.{bit_or, or_lt}
use lib.Dec.{eqb}
use lib.ListN.{length, get_or, set, take, replicate, length-set, get_or-replicate}
use lib.Pow.{pow-lt}
use lib.Seq.{take-suc, get_or-set_same, get_or-set_other}
use Rattle.bits.specs.Bits.{is_set, packed}
use Rattle.bits.specs.Pick.{pick}
use Rattle.bits.proofs.Bits.{or_same, or-other, zero_bit, packed-ext, bits-packed}
use Rattle.bits.proofs.Lists.{tabulated, tabulate-ext}
use Rattle.rtp_elements.specs.Mask.{among, listed_in}
use Rattle.session.specs.Making.{counts, ids_of}
use Rattle.making.specs.Steps.{with_id}

-- four words of 64 bits, and the bit of every id below 256 says whether it is in the set
pub record Flagged (ids s : List ℕ) : Type 0 where
  pub size : length s ≡ 4
  pub small : (j : ℕ) → j < 4 → get_or s j 0 < 2 ^ 64
  pub flag : (id : ℕ) → id < 256 → listed_in s id ≡ counts ids id

and_no : (b : Bool) → (b && false) ≡ false
and_no true = refl
and_no false = refl

or_yes : (b : Bool) → (b || true) ≡ true
or_yes true = refl
or_yes false = refl

or_no : (b : Bool) → (b || false) ≡ b
or_no true = refl
or_no false = refl

pub none-flagged : Flagged [] (replicate 4 0)
none-flagged =
    record {
      size = refl;
      small = λ j h. rw (get_or-replicate {A = ℕ} 4 j 0 0 h) (omega arith);
      flag =
          λ id h.
          ap (λ (w : ℕ). is_set w (id % 64)) (get_or-replicate {A = ℕ} 4 (id / 64) 0 0 (omega arith)) ∙ zero_bit (id % 64) ∙ sym (and_no (not (eqb id 0)));
    }

among-more : (l : List ℕ) (x k : ℕ) → among (l ++ (x ∷ [])) k ≡ (among l k || eqb k x)
among-more [] x k = or_no (eqb k x)
among-more (y ∷ l) x k = go (eqb k y) (among-more l x k)
  where
    go : (b : Bool) → among (l ++ (x ∷ [])) k ≡ (among l k || eqb k x) → (b || among (l ++ (x ∷ [])) k) ≡ ((b || among l k) || eqb k x)
    go true e = refl
    go false e = e

-- ---- one id more

with-small : (w x : ℕ) → w < 2 ^ 64 → with_id w x < 2 ^ 64
with-small w x h = go (eqb x 0)
  where
    go : (b : Bool) → pick b w (bit_or w (2 ^ (x % 64))) < 2 ^ 64
    go true = h
    go false = or_lt 64 w (2 ^ (x % 64)) h (pow-lt {j = 64} (omega arith))

with-other : (w x k : ℕ) → (k ≡ x % 64 → ⊥) → is_set (with_id w x) k ≡ is_set w k
with-other w x k h = go (eqb x 0)
  where
    go : (b : Bool) → is_set (pick b w (bit_or w (2 ^ (x % 64)))) k ≡ is_set w k
    go true = refl
    go false = or-other w k (x % 64) h

module _ (l s : List ℕ) (f : Flagged l s) (x : ℕ) (byte : x < 256) where
  abbrev more : List ℕ
  more = set s (x / 64) (with_id (get_or s (x / 64) 0) x)

  here : (j : ℕ) → j ≡ x / 64 → get_or more j 0 ≡ with_id (get_or s (x / 64) 0) x
  here j e = ap (λ (i : ℕ). get_or more i 0) e ∙ get_or-set_same s (x / 64) (with_id (get_or s (x / 64) 0) x) 0 (omega (arith, f.size))

  elsewhere : (j : ℕ) → (j ≡ x / 64 → ⊥) → get_or more j 0 ≡ get_or s j 0
  elsewhere j h = get_or-set_other s (x / 64) j (with_id (get_or s (x / 64) 0) x) 0 h

  more-small : (j : ℕ) → j < 4 → get_or more j 0 < 2 ^ 64
  more-small j h = go (eqb j (x / 64)) refl
    where
      go : (t : Bool) → eqb j (x / 64) ≡ t → get_or more j 0 < 2 ^ 64
      go true e = rw (here j (eqb-true j (x / 64) e)) (with-small (get_or s (x / 64) 0) x (f.small (x / 64) (omega arith)))
      go false e = rw (elsewhere j (eqb-false j (x / 64) e)) (f.small j h)

  other-id : (id : ℕ) → (id ≡ x → ⊥) → listed_in more id ≡ listed_in s id
  other-id id h = go (eqb (id / 64) (x / 64)) refl
    where
      go : (t : Bool) → eqb (id / 64) (x / 64) ≡ t → listed_in more id ≡ listed_in s id
      go true e =
          let q = eqb-true (id / 64) (x / 64) e in
          ap (λ (w : ℕ). is_set w (id % 64)) (here (id / 64) q) ∙ with-other (get_or s (x / 64) 0) x (id % 64) (λ k. h (omega arith))
          ∙ ap (λ (j : ℕ). is_set (get_or s j 0) (id % 64)) (sym q)
      go false e = ap (λ (w : ℕ). is_set w (id % 64)) (elsewhere (id / 64) (eqb-false (id / 64) (x / 64) e))

  same_id : (b : Bool) → eqb x 0 ≡ b → listed_in more x ≡ (not b && (among l x || true))
  same_id true e =
      ap (λ (w : ℕ). is_set w (x % 64)) (here (x / 64) refl ∙ ap (λ (b : Bool). pick b (get_or s (x / 64) 0) (bit_or (get_or s (x / 64) 0) (2 ^ (x % 64)))) e)
      ∙ f.flag x byte ∙ ap (λ (b : Bool). not b && among l x) e
  same_id false e =
      ap (λ (w : ℕ). is_set w (x % 64)) (here (x / 64) refl ∙ ap (λ (b : Bool). pick b (get_or s (x / 64) 0) (bit_or (get_or s (x / 64) 0) (2 ^ (x % 64)))) e)
      ∙ or_same (get_or s (x / 64) 0) (x % 64) ∙ sym (or_yes (among l x))

  more-flag : (id : ℕ) → id < 256 → (b : Bool) → eqb id x ≡ b → listed_in more id ≡ (not (eqb id 0) && (among l id || b))
  more-flag id h true e = rw (eqb-true id x e) (same_id (eqb x 0) refl)
  more-flag id h false e = other-id id (eqb-false id x e) ∙ f.flag id h ∙ sym (ap (λ (b : Bool). not (eqb id 0) && b) (or_no (among l id)))

  one_more : Flagged (l ++ (x ∷ [])) more
  one_more =
      record {
        size = length-set s (x / 64) (with_id (get_or s (x / 64) 0) x) ∙ f.size;
        small = more-small;
        flag = λ id h. more-flag id h (eqb id x) refl ∙ sym (ap (λ (b : Bool). not (eqb id 0) && b) (among-more l x id));
      }

module _ (ids : List ℕ) (i : ℕ) (inside : i < length ids) (byte : get_or ids i 0 < 256) (s : List ℕ) (f : Flagged (take i ids) s) where
  pub next-flagged : Flagged (take (i + 1) ids) (set s (get_or ids i 0 / 64) (with_id (get_or s (get_or ids i 0 / 64) 0) (get_or ids i 0)))
  next-flagged =
      let t : take (i + 1) ids ≡ take i ids ++ (get_or ids i 0 ∷ []) = rw add-one (take-suc ids i 0 inside) in
      rw t (one_more (take i ids) s f (get_or ids i 0) byte)

-- ---- all of them

pub all-flagged : (ids s : List ℕ) → Flagged ids s → s ≡ ids_of ids
unfolding ids_of
all-flagged ids s f =
    sym (tabulated 0 4 s f.size)
    ∙ tabulate-ext 4 (λ j. get_or s j 0) (λ j. packed 64 (λ k. counts ids (64 * j + k)))
    (λ j h. sym (bits-packed 64 (get_or s j 0) (f.small j h)) ∙ packed-ext 64 (is_set (get_or s j 0)) (λ k. counts ids (64 * j + k)) (λ k b. at j k h b))
  where
    at : (j k : ℕ) → j < 4 → k < 64 → is_set (get_or s j 0) k ≡ counts ids (64 * j + k)
    at j k h b =
        let q : (64 * j + k) / 64 ≡ j = omega arith in
        let r : (64 * j + k) % 64 ≡ k = omega arith in
        rw (q, r) at (f.flag (64 * j + k) (omega arith))
