-- The four stages of twenty steps, by which f_t and K_t go.
use mathlib.Core.Path.{◌≡◌}
use Prim.Native.Nat.{ℕ, ◌/◌, ◌≤◌, ◌<◌}
use native.Mathlib.Omega.{arith}
use borrow.Author.Tests.{lt-ltb, le-ltb}
use lib.Dec.{ltb}
use Rattle.bits.specs.Pick.{pick}

abbrev pub by_stage : {A : Type 0} → ℕ → A → A → A → A → A
by_stage t a b c d = pick (ltb t 20) a (pick (ltb t 40) b (pick (ltb t 60) c d))

module _ {A : Type 0} (t : ℕ) (a b c d : A) where
  pub stage0 : t / 20 ≡ 0 → by_stage t a b c d ≡ a
  stage0 e = let h : t < 20 = omega arith in simp (lt-ltb _ _ h)

  pub stage1 : t / 20 ≡ 1 → by_stage t a b c d ≡ b
  stage1 e =
      let g : 20 ≤ t = omega arith in
      let h : t < 40 = omega arith in
      simp (le-ltb _ _ g, lt-ltb _ _ h)

  pub stage2 : t / 20 ≡ 2 → by_stage t a b c d ≡ c
  stage2 e =
      let f : 20 ≤ t = omega arith in
      let g : 40 ≤ t = omega arith in
      let h : t < 60 = omega arith in
      simp (le-ltb _ _ f, le-ltb _ _ g, lt-ltb _ _ h)

  pub stage3 : 3 ≤ t / 20 → by_stage t a b c d ≡ d
  stage3 e =
      let f : 20 ≤ t = omega arith in
      let g : 40 ≤ t = omega arith in
      let h : 60 ≤ t = omega arith in
      simp (le-ltb _ _ f, le-ltb _ _ g, le-ltb _ _ h)
