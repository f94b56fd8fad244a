-- Laws of exclusive or that the toolchain's library (lib.Bits) lacks: it is associative, undoes itself, has `and` over it, goes byte by byte; and of lists.
use mathlib.Core.Path.{◌≡◌, refl, sym, ap, ap₂, ◌∙◌}
use mathlib.Core.List.{List, [], ◌∷◌, ◌++◌}
use Prim.Native.Nat.{ℕ, zero, suc, ◌+◌, ◌*◌, ◌/◌, ◌%◌, ◌^◌, ◌<◌, min}
use native.Mathlib.Nat.{add-zero, mod-lt, zero-lt-suc, lt_of_le_of_lt, min-le_left, zero-min}
use native.Mathlib.Omega.{arith}
use lib.Arith.{bin_ind}
use lib.Bits.{bit_and, bit_xor, differ, and_step, and_zero_l, and_shr, xor_step, xor_self, xor_zero_r, xor_shr, xor_mod, xor_comm, xor_lt, xor_block}
use lib.Dec.{T}
use lib.ListN.{length, get_or}
use lib.Pow.{are_bytes, pow_pos}
use Rattle.bits.specs.BigEndian.{byte_of, to_bytes}
use Rattle.bits.specs.Xor.{◌⊕◌, xor_pad, xor_list}
use Rattle.bits.proofs.Bytes.{first_byte, other-bytes, cons-bytes}

-- ---- numbers

differ-assoc : (x y z : ℕ) → x < 2 → y < 2 → z < 2 → differ (differ x y) z ≡ differ x (differ y z)
differ-assoc zero y z a b c = refl
differ-assoc (suc zero) zero z a b c = refl
differ-assoc (suc zero) (suc zero) zero a b c = refl
differ-assoc (suc zero) (suc zero) (suc zero) a b c = refl
differ-assoc (suc zero) (suc zero) (suc (suc z)) a b c = absurd (omega arith)
differ-assoc (suc zero) (suc (suc y)) z a b c = absurd (omega arith)
differ-assoc (suc (suc x)) y z a b c = absurd (omega arith)

differ-lt : (x y : ℕ) → x < 2 → y < 2 → differ x y < 2
differ-lt zero y a b = b
differ-lt (suc zero) zero a b = a
differ-lt (suc zero) (suc zero) a b = zero-lt-suc 1
differ-lt (suc zero) (suc (suc y)) a b = absurd (omega arith)
differ-lt (suc (suc x)) y a b = absurd (omega arith)

odd : (a : ℕ) → a % 2 < 2
odd a = mod-lt a (zero-lt-suc 1)

xor-odd : (a b : ℕ) → (a ⊕ b) % 2 ≡ differ (a % 2) (b % 2)
xor-odd a b =
    let h : differ (a % 2) (b % 2) < 2 = differ-lt (a % 2) (b % 2) (odd a) (odd b) in
    ap (λ (n : ℕ). n % 2) (xor_step a b) ∙ omega arith

xor-half : (a b : ℕ) → (a ⊕ b) / 2 ≡ (a / 2) ⊕ (b / 2)
xor-half a b = xor_shr a b 1

pub xor_assoc : (a b c : ℕ) → a ⊕ b ⊕ c ≡ a ⊕ (b ⊕ c)
xor_assoc a =
    bin_ind (λ (n : ℕ). (b c : ℕ) → n ⊕ b ⊕ c ≡ n ⊕ (b ⊕ c)) (λ b c. refl)
    (λ n ih b c.
    xor_step (n ⊕ b) c
    ∙ ap₂ (λ (x y : ℕ). bit_xor x (c / 2) * 2 + differ y (c % 2)) (xor-half n b) (xor-odd n b)
    ∙ ap₂ (λ (x y : ℕ). x * 2 + y) (ih (b / 2) (c / 2)) (differ-assoc (n % 2) (b % 2) (c % 2) (odd n) (odd b) (odd c))
    ∙ sym (ap₂ (λ (x y : ℕ). bit_xor (n / 2) x * 2 + differ (n % 2) y) (xor-half b c) (xor-odd b c))
    ∙ sym (xor_step n (b ⊕ c))) a

-- the same number twice
pub xor-twice : (a b : ℕ) → a ⊕ b ⊕ b ≡ a
xor-twice a b = xor_assoc a b b ∙ ap (bit_xor a) (xor_self b) ∙ xor_zero_r a

-- ---- and, over exclusive or

min-differ : (x y z : ℕ) → x < 2 → y < 2 → z < 2 → min x (differ y z) ≡ differ (min x y) (min x z)
min-differ zero y z a b c = simp zero-min
min-differ (suc zero) zero zero a b c = refl
min-differ (suc zero) zero (suc zero) a b c = refl
min-differ (suc zero) (suc zero) zero a b c = refl
min-differ (suc zero) (suc zero) (suc zero) a b c = refl
min-differ (suc zero) zero (suc (suc z)) a b c = absurd (omega arith)
min-differ (suc zero) (suc zero) (suc (suc z)) a b c = absurd (omega arith)
min-differ (suc zero) (suc (suc y)) z a b c = absurd (omega arith)
min-differ (suc (suc x)) y z a b c = absurd (omega arith)

and-odd : (a b : ℕ) → bit_and a b % 2 ≡ min (a % 2) (b % 2)
and-odd a b =
    let h : min (a % 2) (b % 2) < 2 = lt_of_le_of_lt (min-le_left (a % 2) (b % 2)) (odd a) in
    ap (λ (n : ℕ). n % 2) (and_step a b) ∙ omega arith

pub and_xor : (a b c : ℕ) → bit_and a (b ⊕ c) ≡ bit_and a b ⊕ bit_and a c
and_xor a =
    bin_ind (λ (n : ℕ). (b c : ℕ) → bit_and n (b ⊕ c) ≡ bit_and n b ⊕ bit_and n c) (λ b c. simp and_zero_l)
    (λ n ih b c.
    and_step n (b ⊕ c)
    ∙ ap₂ (λ (x y : ℕ). bit_and (n / 2) x * 2 + min (n % 2) y) (xor-half b c) (xor-odd b c)
    ∙ ap₂ (λ (x y : ℕ). x * 2 + y) (ih (b / 2) (c / 2)) (min-differ (n % 2) (b % 2) (c % 2) (odd n) (odd b) (odd c))
    ∙ sym (ap₂ (λ (x y : ℕ). bit_xor x (bit_and (n / 2) (c / 2)) * 2 + differ y (min (n % 2) (c % 2))) (and_shr n b 1) (and-odd n b))
    ∙ sym (ap₂ (λ (x y : ℕ). bit_xor (bit_and n b / 2) x * 2 + differ (bit_and n b % 2) y) (and_shr n c 1) (and-odd n c))
    ∙ sym (xor_step (bit_and n b) (bit_and n c))) a

-- ---- bytes

-- a byte of a xor
pub xor-byte : (j a b : ℕ) → byte_of j (a ⊕ b) ≡ byte_of j a ⊕ byte_of j b
xor-byte j a b = ap (λ (n : ℕ). n % 2 ^ 8) (xor_shr a b (8 * j)) ∙ xor_mod (a / 2 ^ (8 * j)) (b / 2 ^ (8 * j)) 8

-- moved up together
pub xor-shift : (k a b : ℕ) → (a * 2 ^ k) ⊕ (b * 2 ^ k) ≡ (a ⊕ b) * 2 ^ k
xor-shift k a b =
    ap₂ bit_xor (sym (add-zero (a * 2 ^ k))) (sym (add-zero (b * 2 ^ k))) ∙ xor_block k a b 0 0 (pow_pos k) (pow_pos k) ∙ add-zero ((a ⊕ b) * 2 ^ k)

-- ---- a list with a pad

pub length-pad : (f : ℕ → ℕ) (l : List ℕ) → length (xor_pad f l) ≡ length l
length-pad f [] = refl
length-pad f (x ∷ l) = ap suc (length-pad (λ i. f (suc i)) l)

pub pad-at : (f : ℕ → ℕ) (l : List ℕ) (i : ℕ) → i < length l → get_or (xor_pad f l) i 0 ≡ get_or l i 0 ⊕ f i
pad-at f [] i h = absurd (omega arith)
pad-at f (x ∷ l) zero h = refl
pad-at f (x ∷ l) (suc i) h = pad-at (λ k. f (suc k)) l i (omega arith)

-- a place where the pad is 0 stays
pub pad-stays : (f : ℕ → ℕ) (l : List ℕ) (i : ℕ) → f i ≡ 0 → get_or (xor_pad f l) i 0 ≡ get_or l i 0
pad-stays f [] i h = refl
pad-stays f (x ∷ l) zero h = ap (λ (a : ℕ). x ⊕ a) h ∙ xor_zero_r x
pad-stays f (x ∷ l) (suc i) h = pad-stays (λ k. f (suc k)) l i h

-- only what the pad is below the length counts
pub pad-ext : (f g : ℕ → ℕ) (l : List ℕ) → ((i : ℕ) → i < length l → f i ≡ g i) → xor_pad f l ≡ xor_pad g l
pad-ext f g [] h = refl
pad-ext f g (x ∷ l) h =
    ap₂ (λ (a : ℕ) (r : List ℕ). x ⊕ a ∷ r) (h 0 (omega arith)) (pad-ext (λ i. f (suc i)) (λ i. g (suc i)) l (λ i b. h (suc i) (omega arith)))

-- the parts of a list
pub pad-append : (f : ℕ → ℕ) (a b : List ℕ) → xor_pad f (a ++ b) ≡ xor_pad f a ++ xor_pad (λ i. f (length a + i)) b
pad-append f [] b = pad-ext f (λ i. f (0 + i)) b (λ i h. ap f (omega arith))
pad-append f (x ∷ a) b =
    ap (λ (r : List ℕ). x ⊕ f 0 ∷ r)
    (pad-append (λ i. f (suc i)) a b
    ∙ ap (λ (r : List ℕ). xor_pad (λ i. f (suc i)) a ++ r)
    (pad-ext (λ i. f (suc (length a + i))) (λ i. f (suc (length a) + i)) b (λ i h. ap f (omega arith))))

-- a pad of 0 changes nothing
pub pad-none : (f : ℕ → ℕ) (l : List ℕ) → ((i : ℕ) → i < length l → f i ≡ 0) → xor_pad f l ≡ l
pad-none f [] h = refl
pad-none f (x ∷ l) h =
    ap₂ (λ (a : ℕ) (r : List ℕ). a ∷ r) (ap (λ (a : ℕ). x ⊕ a) (h 0 (omega arith)) ∙ xor_zero_r x) (pad-none (λ i. f (suc i)) l (λ i b. h (suc i) (omega arith)))

-- one pad after another is their xor
pub pad-pad : (f g : ℕ → ℕ) (l : List ℕ) → xor_pad g (xor_pad f l) ≡ xor_pad (λ i. f i ⊕ g i) l
pad-pad f g [] = refl
pad-pad f g (x ∷ l) = ap₂ (λ (a : ℕ) (r : List ℕ). a ∷ r) (xor_assoc x (f 0) (g 0)) (pad-pad (λ i. f (suc i)) (λ i. g (suc i)) l)

-- a pad is undone by itself
pub pad-twice : (f : ℕ → ℕ) (l : List ℕ) → xor_pad f (xor_pad f l) ≡ l
pad-twice f [] = refl
pad-twice f (x ∷ l) = ap₂ (λ (a : ℕ) (r : List ℕ). a ∷ r) (xor-twice x (f 0)) (pad-twice (λ i. f (suc i)) l)

-- bytes stay bytes
pub pad-bytes : (f : ℕ → ℕ) (l : List ℕ) → ((i : ℕ) → f i < 256) → T (are_bytes l) → T (are_bytes (xor_pad f l))
pad-bytes f [] h t = tt
pad-bytes f (x ∷ l) h t =
    cons-bytes (x ⊕ f 0) (xor_pad (λ i. f (suc i)) l) (xor_lt 8 x (f 0) (first_byte x l t) (h 0))
    (pad-bytes (λ i. f (suc i)) l (λ i. h (suc i)) (other-bytes x l t))

-- ---- two lists

pub xor-lists-comm : (a b : List ℕ) → length a ≡ length b → xor_list a b ≡ xor_list b a
xor-lists-comm [] [] e = refl
xor-lists-comm [] (y ∷ b) e = absurd (omega arith)
xor-lists-comm (x ∷ a) [] e = absurd (omega arith)
xor-lists-comm (x ∷ a) (y ∷ b) e = ap₂ (λ (z : ℕ) (r : List ℕ). z ∷ r) (xor_comm x y) (xor-lists-comm a b (omega arith))

pub xor-lists-assoc : (a b c : List ℕ) → length a ≡ length b → xor_list (xor_list a b) c ≡ xor_list a (xor_list b c)
xor-lists-assoc a b c e =
    pad-pad (λ i. get_or b i 0) (λ i. get_or c i 0) a
    ∙ pad-ext (λ i. get_or b i 0 ⊕ get_or c i 0) (λ i. get_or (xor_list b c) i 0) a (λ i h. sym (pad-at (λ k. get_or c k 0) b i (omega arith)))

-- the bytes of a xor
pub to-xor : (n a b : ℕ) → to_bytes n (a ⊕ b) ≡ xor_list (to_bytes n a) (to_bytes n b)
to-xor zero a b = refl
to-xor (suc n) a b = ap₂ (λ (x : ℕ) (r : List ℕ). x ∷ r) (xor-byte n a b) (to-xor n a b)
