-- The keystream part as a call: the cases of its definition.
use mathlib.Core.Path.{◌≡◌, sym, ap₂, ◌∙◌}
use mathlib.Core.List.{List}
use Prim.Native.Nat.{ℕ}
use borrow.Author.Tests.{eq-eqb, ne_eqb}
use lib.ListN.{length}
use Rattle.keystream.specs.Stretch.{stretch_of}
use Rattle.keystream.specs.Call.{stretch_call}

module _ (key salt : List ℕ) (ssrc index start : ℕ) (l : List ℕ) where
  pub wrong-key : (length key ≡ 16 → ⊥) → stretch_call key salt ssrc index start l ≡ record { number = 102; bytes = l }
  unfolding stretch_call
  wrong-key h = simp (ne_eqb (length key) 16 h)

  pub wrong-salt : length key ≡ 16 → (length salt ≡ 14 → ⊥) → stretch_call key salt ssrc index start l ≡ record { number = 102; bytes = l }
  unfolding stretch_call
  wrong-salt k h = simp (eq-eqb (length key) 16 k, ne_eqb (length salt) 14 h)

  pub right-sizes : length key ≡ 16 → length salt ≡ 14 → stretch_call key salt ssrc index start l ≡ stretch_of key salt ssrc index start l
  unfolding stretch_call
  right-sizes k h = simp (eq-eqb (length key) 16 k, eq-eqb (length salt) 14 h)

  -- with the arrays that were made of both
  pub as-arrays : (key' salt' : List ℕ) → length key ≡ 16 → length salt ≡ 14 → key' ≡ key → salt' ≡ salt
      → stretch_of key' salt' ssrc index start l ≡ stretch_call key salt ssrc index start l
  as-arrays key' salt' k h ek es = ap₂ (λ (a b : List ℕ). stretch_of a b ssrc index start l) ek es ∙ sym (right-sizes k h)
