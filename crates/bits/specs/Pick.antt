-- Choice by a test. The toolchain's `◌&&◌`, `◌||◌` and `not` join tests (mathlib.Core.Bool).
use Rattle.std.specs.Prelude.{Bool, true, false}

-- the first where the test holds, else the second
abbrev pub pick : {A : Type 0} → Bool → A → A → A
pick true a b = a
pick false a b = b
