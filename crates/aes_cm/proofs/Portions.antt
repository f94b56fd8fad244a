-- The pad of a portion, place by place.
use mathlib.Core.Path.{◌≡◌}
use Prim.Native.Nat.{ℕ, ◌+◌, ◌-◌, ◌≤◌, ◌<◌}
use borrow.Author.Tests.{lt-ltb, le-ltb}
use Rattle.aes_cm.specs.Portion.{portion_pad}

module _ (first stop rest : ℕ) (stream : ℕ → ℕ) (i : ℕ) where
  pub before-first : i < first → portion_pad first stop rest stream i ≡ 0
  unfolding portion_pad
  before-first h = simp (lt-ltb i first h)

  pub in-first : first ≤ i → i < stop → portion_pad first stop rest stream i ≡ stream (i - first)
  unfolding portion_pad
  in-first g h = simp (le-ltb i first g, lt-ltb i stop h)

  pub in-gap : first ≤ i → stop ≤ i → i < rest → portion_pad first stop rest stream i ≡ 0
  unfolding portion_pad
  in-gap g h l = simp (le-ltb i first g, le-ltb i stop h, lt-ltb i rest l)

  pub past-gap : first ≤ i → stop ≤ i → rest ≤ i → portion_pad first stop rest stream i ≡ stream (stop - first + (i - rest))
  unfolding portion_pad
  past-gap g h l = simp (le-ltb i first g, le-ltb i stop h, le-ltb i rest l)
