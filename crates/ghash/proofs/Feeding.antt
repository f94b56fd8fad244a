-- Bytes fed one after another: parts, whole blocks, zeros; and what GHASH makes of whole blocks.
use mathlib.Core.Path.{◌≡◌, refl, sym, ap, ap₂, subst, ◌∙◌}
use mathlib.Core.Bool.{Bool}
use mathlib.Core.List.{List, [], ◌∷◌, ◌++◌, append-nil}
use Prim.Native.Nat.{ℕ, zero, suc, ◌+◌, ◌-◌, ◌*◌, ◌/◌, ◌%◌, ◌^◌, ◌≤◌, ◌<◌}
use native.Mathlib.Nat.{add-zero, zero-add, zero-mul, mod-eq_of_lt}
use native.Mathlib.Omega.{arith}
use borrow.Author.Tests.{ne_eqb}
use lib.Bits.{bit_xor, xor_shifted, xor_zero_r}
use lib.Dec.{T, eqb, lit<}
use lib.ListN.{length, get_or, take, drop, replicate, length-append, length-replicate, length-drop, take-append-drop, drop_of_length-le}
use lib.Pow.{are_bytes}
use lib.Seq.{drop-drop, take-add, take_all, length-take-le}
use Rattle.std.specs.Simd.{first_chunks}
use Rattle.bits.specs.BigEndian.{from_bytes, to_bytes}
use Rattle.bits.specs.Pick.{pick}
use Rattle.bits.specs.Xor.{◌⊕◌}
use Rattle.bits.proofs.BigEndian.{from-append, from-to, from-lt, to-are-bytes}
use Rattle.bits.proofs.Bytes.{first_byte, other-bytes, cons-bytes}
use Rattle.bits.proofs.Xor.{xor_assoc}
use Rattle.gf128.specs.declared.block.Block.{Block}
use Rattle.ghash.specs.declared.state.Hash.{Hash}
use Rattle.gf128.specs.Product.{◌•◌}
use Rattle.ghash.specs.Ghash.{block_of, value_after, ghash_of, zeros_of, padded_of, lengths_of}
use Rattle.gf128.specs.Steps.{value_of}
use Rattle.ghash.specs.Steps.{placed_of, add_of, feed_of, Fed}

-- ---- lists of bytes

pub append-bytes : (a b : List ℕ) → T (are_bytes a) → T (are_bytes b) → T (are_bytes (a ++ b))
append-bytes [] b s t = t
append-bytes (x ∷ a) b s t = cons-bytes x (a ++ b) (first_byte x a s) (append-bytes a b (other-bytes x a s) t)

pub take-bytes : (n : ℕ) (l : List ℕ) → T (are_bytes l) → T (are_bytes (take n l))
take-bytes zero l t = tt
take-bytes (suc n) [] t = tt
take-bytes (suc n) (x ∷ l) t = cons-bytes x (take n l) (first_byte x l t) (take-bytes n l (other-bytes x l t))

pub drop-bytes : (n : ℕ) (l : List ℕ) → T (are_bytes l) → T (are_bytes (drop n l))
drop-bytes zero l t = t
drop-bytes (suc n) [] t = tt
drop-bytes (suc n) (x ∷ l) t = drop-bytes n l (other-bytes x l t)

zero-bytes : (n : ℕ) → T (are_bytes (replicate n 0))
zero-bytes zero = tt
zero-bytes (suc n) = cons-bytes 0 (replicate n 0) (lit< tt) (zero-bytes n)

zeros-are-zero : (n : ℕ) → from_bytes (replicate n 0) ≡ 0
zeros-are-zero zero = refl
zeros-are-zero (suc n) = simp (zero-mul, zero-add, zeros-are-zero n)

-- ---- one part after another

pub feed-append : (h y p : ℕ) (a b : List ℕ) → feed_of h y p (a ++ b) ≡ feed_of h (feed_of h y p a) (p + length a) b
unfolding feed_of
feed-append h y p [] b = ap (λ (k : ℕ). feed_of h y k b) (sym (add-zero p))
feed-append h y p (x ∷ a) b =
    let z = add_of h y p x in
    let e : suc p + length a ≡ p + length (x ∷ a) = omega arith in
    feed-append h z (suc p) a b ∙ ap (λ (k : ℕ). feed_of h (feed_of h z (suc p) a) k b) e

-- the bytes up to the end of a block
feed-cons : (h y p b : ℕ) (l : List ℕ) → T (are_bytes (b ∷ l)) → p % 16 + suc (length l) ≡ 16 → feed_of h y p (b ∷ l) ≡ (y ⊕ from_bytes (b ∷ l)) • h
unfolding feed_of add_of
feed-cons h y p b [] t e =
    let q : p % 16 ≡ 15 = omega arith in
    ap (λ (k : ℕ). pick (eqb k 15) ((y ⊕ (b * 2 ^ (8 * (15 - k)))) • h) (y ⊕ (b * 2 ^ (8 * (15 - k))))) q
    ∙ ap (λ (k : ℕ). (y ⊕ k) • h) (sym (add-zero (b * 2 ^ 0)))
feed-cons h y p b (c ∷ l) t e =
    let w = placed_of p b in
    let x = from_bytes (c ∷ l) in
    let u = other-bytes b (c ∷ l) t in
    let n : 15 - p % 16 ≡ length (c ∷ l) = omega arith in
    ap (λ (k : Bool). feed_of h (pick k ((y ⊕ w) • h) (y ⊕ w)) (suc p) (c ∷ l)) (ne_eqb (p % 16) 15 (λ z. omega arith))
    ∙ feed-cons h (y ⊕ w) (suc p) c l u (omega arith)
    ∙ ap (λ (k : ℕ). k • h)
    (xor_assoc y w x
    ∙ ap (bit_xor y) (ap (λ (k : ℕ). (b * 2 ^ (8 * k)) ⊕ x) n ∙ xor_shifted b (8 * length (c ∷ l)) x (from-lt (c ∷ l) u)))

pub feed-block : (h y p : ℕ) (l : List ℕ) → T (are_bytes l) → p % 16 + length l ≡ 16 → feed_of h y p l ≡ (y ⊕ from_bytes l) • h
feed-block h y p [] t e = absurd (omega arith)
feed-block h y p (b ∷ l) t e = feed-cons h y p b l t (omega arith)

feed-whole : (h y p : ℕ) (l : List ℕ) → T (are_bytes l) → p % 16 ≡ 0 → length l ≡ 16 → feed_of h y p l ≡ (y ⊕ from_bytes l) • h
feed-whole h y p l t e n = feed-block h y p l t (omega arith)

pub feed-zeros : (h y p n : ℕ) → p % 16 + suc n ≡ 16 → feed_of h y p (replicate (suc n) 0) ≡ y • h
feed-zeros h y p n e =
    feed-cons h y p 0 (replicate n 0) (zero-bytes (suc n)) (rw length-replicate e)
    ∙ ap (λ (k : ℕ). (y ⊕ k) • h) (zeros-are-zero (suc n))
    ∙ ap (λ (k : ℕ). k • h) (xor_zero_r y)

-- ---- the loop: what is still to feed, from the present value, is the goal

pub block-next : (h at i v u : ℕ) (l : List ℕ) → i + 16 ≤ length l → T (are_bytes l) → (at + i) % 16 ≡ 0 → u ≡ (v ⊕ from_bytes (take 16 (drop i l))) • h
    → feed_of h u (at + (i + 16)) (drop (i + 16) l) ≡ feed_of h v (at + i) (drop i l)
block-next h at i v u l b t z e =
    let d = drop i l in
    let n : length (take 16 d) ≡ 16 = length-take-le 16 d (simp length-drop (omega arith)) in
    let p : at + (i + 16) ≡ at + i + length (take 16 d) = omega arith in
    ap₂ (λ (k : ℕ) (r : List ℕ). feed_of h u k r) p (sym (drop-drop 16 i l))
    ∙ ap (λ (x : ℕ). feed_of h x (at + i + length (take 16 d)) (drop 16 d)) (e ∙ sym (feed-whole h v (at + i) (take 16 d) (take-bytes 16 d (drop-bytes i l t)) z n))
    ∙ sym (feed-append h v (at + i) (take 16 d) (drop 16 d))
    ∙ ap (feed_of h v (at + i)) (take-append-drop 16 d)

-- block i of those that a part is cut into
pub chunk-at : (k i : ℕ) (l : List ℕ) → i < k → get_or (first_chunks 16 k l) i [] ≡ take 16 (drop (16 * i) l)
chunk-at zero i l h = absurd (omega arith)
chunk-at (suc k) zero l h = refl
chunk-at (suc k) (suc i) l h =
    let e : 16 + 16 * i ≡ 16 * suc i = omega arith in
    chunk-at k i (drop 16 l) (omega arith) ∙ ap (take 16) (drop-drop (16 * i) 16 l ∙ ap (λ (n : ℕ). drop n l) e)

pub feed-end : (h at i v : ℕ) (l : List ℕ) → length l ≤ i → feed_of h v (at + i) (drop i l) ≡ v
unfolding feed_of
feed-end h at i v l b = ap (feed_of h v (at + i)) (drop_of_length-le l b)

-- ---- what a hash has had

-- where a byte comes counts only within a block
feed-mod : (h y p q : ℕ) (l : List ℕ) → p % 16 ≡ q % 16 → feed_of h y p l ≡ feed_of h y q l
unfolding feed_of add_of
feed-mod h y p q [] e = refl
feed-mod h y p q (b ∷ l) e =
    let s : suc p % 16 ≡ suc q % 16 = omega arith in
    ap (λ (k : ℕ). feed_of h (pick (eqb k 15) ((y ⊕ (b * 2 ^ (8 * (15 - k)))) • h) (y ⊕ (b * 2 ^ (8 * (15 - k))))) (suc p) l) e
    ∙ feed-mod h (add_of h y q b) (suc p) (suc q) l s

pub fed-more : (h : ℕ) (l part : List ℕ) (s r : Hash) → Fed h l s → T (are_bytes part) → r.begun ≡ (s.begun + length part) % 16
    → value_of r.value ≡ feed_of h (value_of s.value) s.begun part → Fed h (l ++ part) r
fed-more h l part s r f t n e =
    let c : length (l ++ part) ≡ length l + length part = length-append l part in
    let q : s.begun % 16 ≡ (0 + length l) % 16 = omega (arith, f.begun) in
    record {
      value = e ∙ ap (λ (y : ℕ). feed_of h y s.begun part) f.value ∙ feed-mod h (feed_of h 0 0 l) s.begun (0 + length l) part q ∙ sym (feed-append h 0 0 l part);
      begun = omega (arith, n, f.begun, c);
      bytes = append-bytes l part f.bytes t;
    }

-- parts of a list
pub part_length : (l : List ℕ) (n m : ℕ) → n ≤ m → m ≤ length l → length (take (m - n) (drop n l)) ≡ m - n
part_length l n m h k = length-take-le (m - n) (drop n l) (simp length-drop (omega arith))

pub three-parts : (l : List ℕ) (n m : ℕ) → n ≤ m → m ≤ length l → take n l ++ (take (m - n) (drop n l) ++ take (length l - m) (drop m l)) ≡ l
three-parts l n m h k =
    let e : n + (m - n) ≡ m = omega arith in
    ap (λ (r : List ℕ). take n l ++ (take (m - n) (drop n l) ++ r))
    (take_all (length l - m) (drop m l) (simp length-drop (omega arith)) ∙ sym (drop-drop (m - n) n l ∙ ap (λ (j : ℕ). drop j l) e))
    ∙ ap (λ (r : List ℕ). take n l ++ r) (take-append-drop (m - n) (drop n l))
    ∙ take-append-drop n l

pub fed-parts : (h y p : ℕ) (a b c l : List ℕ) (u v w i j : ℕ) → a ++ (b ++ c) ≡ l → i % 16 ≡ (p + length a) % 16 → j % 16 ≡ (i + length b) % 16
    → u ≡ feed_of h y p a → v ≡ feed_of h u i b → w ≡ feed_of h v j c → w ≡ feed_of h y p l
fed-parts h y p a b c l u v w i j e ei ej eu ev ew =
    ew
    ∙ feed-mod h v j (i + length b) c ej
    ∙ ap (λ (x : ℕ). feed_of h x (i + length b) c) ev
    ∙ sym (feed-append h u i b c)
    ∙ feed-mod h u i (p + length a) (b ++ c) ei
    ∙ ap (λ (x : ℕ). feed_of h x (p + length a) (b ++ c)) eu
    ∙ sym (feed-append h y p a (b ++ c))
    ∙ ap (feed_of h y p) e

-- padding: no zeros, or those that the block lacks
pub no-zeros : (h : ℕ) (l : List ℕ) (s : Hash) → s.begun ≡ 0 → Fed h l s → Fed h (padded_of l) s
no-zeros h l s z f =
    let e : zeros_of (length l) ≡ 0 = omega (arith, z, f.begun) in
    subst (λ (k : List ℕ). Fed h k s) (sym (ap (λ (n : ℕ). l ++ replicate n 0) e ∙ append-nil l)) f

pub with-zeros : (h : ℕ) (l : List ℕ) (s r : Hash) → (s.begun ≡ 0 → ⊥) → r.begun ≡ 0 → value_of r.value ≡ value_of s.value • h
    → Fed h l s → Fed h (padded_of l) r
with-zeros h l s r z n e f =
    let m = 15 - s.begun in
    let k : zeros_of (length l) ≡ suc m = omega (arith, f.begun) in
    let zeros : List ℕ = replicate (suc m) 0 in
    let c : length zeros ≡ suc m = length-replicate (suc m) 0 in
    subst (λ (j : ℕ). Fed h (l ++ replicate j 0) r) (sym k)
    (fed-more h l zeros s r f (zero-bytes (suc m)) (omega (arith, n, c, f.begun))
    (e ∙ sym (feed-zeros h (value_of s.value) s.begun m (omega (arith, f.begun)))))

-- GHASH of what a hash has had, where that is whole blocks
feed-values : (h : ℕ) (l : List ℕ) (m : ℕ) → T (are_bytes l) → 16 * m ≤ length l → feed_of h 0 0 (take (16 * m) l) ≡ value_after h l m
unfolding feed_of value_after
feed-values h l zero t b = refl
feed-values h l (suc m) t b =
    let a = take (16 * m) l in
    let d = drop (16 * m) l in
    let e : 16 * suc m ≡ 16 * m + 16 = omega arith in
    let n : length a ≡ 16 * m = length-take-le (16 * m) l (omega arith) in
    let k : length (take 16 d) ≡ 16 = length-take-le 16 d (simp length-drop (omega arith)) in
    ap (λ (j : ℕ). feed_of h 0 0 (take j l)) e
    ∙ ap (feed_of h 0 0) (take-add (16 * m) 16 l)
    ∙ feed-append h 0 0 a (take 16 d)
    ∙ feed-whole h (feed_of h 0 0 a) (0 + length a) (take 16 d) (take-bytes 16 d (drop-bytes (16 * m) l t)) (omega arith) k
    ∙ ap (λ (v : ℕ). (v ⊕ block_of l m) • h) (feed-values h l m t (omega arith))

pub fed-ghash : (h : ℕ) (l : List ℕ) (s : Hash) → Fed h l s → length l % 16 ≡ 0 → to_bytes 16 (value_of s.value) ≡ ghash_of h l
unfolding ghash_of
fed-ghash h l s f z =
    let m = length l / 16 in
    let e : 16 * m ≡ length l = omega arith in
    ap (to_bytes 16)
    (f.value
    ∙ ap (feed_of h 0 0) (sym (take_all (16 * m) l (omega arith)))
    ∙ feed-values h l m f.bytes (omega arith))

-- the last block: two lengths
lengths-value : (a c : ℕ) → a < 2 ^ 60 → c < 2 ^ 60 → from_bytes (lengths_of a c) ≡ 8 * a * 2 ^ 64 + 8 * c
lengths-value a c ha hc =
    from-append (to_bytes 8 (8 * a)) (to_bytes 8 (8 * c))
    ∙ ap₂ (λ (x y : ℕ). x * 2 ^ 64 + y) (from-to 8 (8 * a) ∙ mod-eq_of_lt (omega arith)) (from-to 8 (8 * c) ∙ mod-eq_of_lt (omega arith))

pub finished : (h : ℕ) (l : List ℕ) (s : Hash) (u : Block) (a c : ℕ) → a < 2 ^ 60 → c < 2 ^ 60 → Fed h l s → length l % 16 ≡ 0
    → value_of u ≡ (value_of s.value ⊕ (8 * a * 2 ^ 64 + 8 * c)) • h → to_bytes 16 (value_of u) ≡ ghash_of h (l ++ lengths_of a c)
finished h l s u a c ha hc f z e =
    let last = lengths_of a c in
    let t : T (are_bytes last) = append-bytes (to_bytes 8 (8 * a)) (to_bytes 8 (8 * c)) (to-are-bytes 8 (8 * a)) (to-are-bytes 8 (8 * c)) in
    let n : s.begun ≡ 0 = omega (arith, f.begun) in
    let size : length last ≡ 16 = refl in
    let r : Hash = record { value = u; begun = 0; in_block = lit< tt } in
    let m : length (l ++ last) % 16 ≡ 0 = rw length-append (omega arith) in
    fed-ghash h (l ++ last) r
    (fed-more h l last s r f t (omega (arith, n, size))
    (e ∙ ap (λ (x : ℕ). (value_of s.value ⊕ x) • h) (sym (lengths-value a c ha hc)) ∙ sym (feed-whole h (value_of s.value) s.begun last t (omega (arith, n)) refl)))
    m
