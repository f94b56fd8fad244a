-- Finding any 32-bit id: one above 255 is no element's.
use Rattle.std.specs.Prelude.{Err}
use Rattle.bits.specs.declared.refusal.Refusal.TheVariants as refusal
use mathlib.Core.Path.{◌≡◌, refl, sym, ◌∙◌}
use mathlib.Core.Bool.{Bool, true, false}
use mathlib.Core.List.{List}
use Prim.Native.Nat.{ℕ, ◌+◌, ◌/◌, ◌≤◌, ◌<◌}
use native.Mathlib.Decide.{dec_lt}
use native.Mathlib.Omega.{arith}
use borrow.Author.Tests.{ltb-true, ne_eqb}
use lib.Dec.{ltb}
use lib.ListN.{length, get_or, take, drop, length-take, get_or-eq_default}
use lib.Seq.{get_or-take, get_or-drop}
use Rattle.bits.specs.Pick.{pick}
use Rattle.rtp_elements.specs.Elements.{whole_of}
use Rattle.rtp.specs.Finding.{located_of}
use Rattle.rtp_claims.proofs.Naming.{located, never-found}
use Rattle.srtp.specs.Finding.{asked_id}

module _ (tag : ℕ) (block : List ℕ) (bytes : (i : ℕ) → get_or block i 0 < 256) (id : ℕ) where
  past : (k : ℕ) → whole_of tag block ≡ false → located_of tag block k ≡ Err refusal.Element
  unfolding located_of
  past k e = rw e

  above : 255 < id → (b : Bool) → whole_of tag block ≡ b → located_of tag block 0 ≡ located_of tag block id
  above h true w =
      never-found.zero-id tag block w
      ∙ sym (located tag block id w
      (λ k. record { one = λ t o. ne_eqb (get_or block k 0 / 16) id (λ e. omega (arith, bytes k)); both = λ t o. ne_eqb (get_or block k 0) id (λ e. omega (arith, bytes k)) }))
  above h false w = past 0 w ∙ sym (past id w)

  pub asked : located_of tag block (asked_id id) ≡ located_of tag block id
  asked = go (ltb 255 id) refl
    where
      go : (b : Bool) → ltb 255 id ≡ b → located_of tag block (pick b 0 id) ≡ located_of tag block id
      go true e = above (ltb-true 255 id e) (whole_of tag block) refl
      go false e = refl

-- a part of bytes is bytes
pub part_bytes : (a n : ℕ) (p : List ℕ) → ((i : ℕ) → get_or p i 0 < 256) → (i : ℕ) → get_or (take n (drop a p)) i 0 < 256
part_bytes a n p h i =
    elim (dec_lt i n) [
      | yes b ↦ let e : get_or (take n (drop a p)) i 0 ≡ get_or p (a + i) 0 = get_or-take n (drop a p) i 0 b ∙ get_or-drop a p i 0 in omega (arith, h (a + i))
      | no b ↦
          let l : length (take n (drop a p)) ≤ i = omega (arith, length-take n (drop a p)) in
          let e : get_or (take n (drop a p)) i 0 ≡ 0 = get_or-eq_default (take n (drop a p)) 0 l in
          omega arith
    ]
