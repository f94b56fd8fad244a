-- Laws of lists that the toolchain's libraries lack.
use mathlib.Core.Path.{◌≡◌, refl, sym, ap, ap₂, ◌∙◌}
use mathlib.Core.List.{List, [], ◌∷◌, map}
use Prim.Native.Nat.{ℕ, zero, suc, ◌-◌, ◌<◌}
use native.Mathlib.Omega.{arith}
use lib.ListN.{length, get_or, drop, replicate, length-map}
use Rattle.bits.specs.Lists.{tabulate}

-- a list of n elements is its elements in order
pub tabulated : {A : Type 0} (d : A) (n : ℕ) (l : List A) → length l ≡ n → tabulate n (λ i. get_or l i d) ≡ l
tabulated d zero [] e = refl
tabulated d zero (x ∷ l) e = absurd (omega arith)
tabulated d (suc n) [] e = absurd (omega arith)
tabulated d (suc n) (x ∷ l) e = ap (λ (r : List _). x ∷ r) (tabulated d n l (omega arith))

pub length-tabulate : {A : Type 0} (n : ℕ) (f : ℕ → A) → length (tabulate n f) ≡ n
length-tabulate zero f = refl
length-tabulate (suc n) f = ap suc (length-tabulate n (λ i. f (suc i)))

-- only the first n elements count
pub tabulate-ext : {A : Type 0} (n : ℕ) (f g : ℕ → A) → ((i : ℕ) → i < n → f i ≡ g i) → tabulate n f ≡ tabulate n g
tabulate-ext zero f g h = refl
tabulate-ext (suc n) f g h =
    ap₂ (λ (x : _) (r : List _). x ∷ r) (h 0 (omega arith)) (tabulate-ext n (λ i. f (suc i)) (λ i. g (suc i)) (λ i b. h (suc i) (omega arith)))

-- the length of an array of structs: what owning it tells is the length of its elements' machine values
pub length-mapped : (X Y : Type 0) (f : X → Y) (l : List X) (n : ℕ) → length (map f l) ≡ n → length l ≡ n
length-mapped X Y f l n e = sym (length-map l f) ∙ e

-- element i is f i
pub tabulate-at : {A : Type 0} (d : A) (n : ℕ) (f : ℕ → A) (i : ℕ) → i < n → get_or (tabulate n f) i d ≡ f i
tabulate-at d zero f i h = absurd (omega arith)
tabulate-at d (suc n) f zero h = refl
tabulate-at d (suc n) f (suc i) h = tabulate-at d n (λ k. f (suc k)) i (omega arith)

pub drop-replicate : (i n z : ℕ) → drop i (replicate n z) ≡ replicate (n - i) z
drop-replicate zero n z = let e : n - 0 ≡ n = omega arith in rw e
drop-replicate (suc i) zero z = let e : 0 - suc i ≡ 0 = omega arith in rw e
drop-replicate (suc i) (suc n) z = let e : suc n - suc i ≡ n - i = omega arith in rw e (drop-replicate i n z)
