-- The end of a message: the buffer with its last bytes and the padding.
use Rattle.std.proofs.Common.{◌≡◌, ℕ, suc, ◌+◌, ◌-◌, ◌*◌, ◌/◌, ◌%◌, ◌<◌, ◌≤◌, List, [], ◌∷◌, ◌++◌, length, take, drop, set, replicate, sym, refl, ap, ◌∙◌, ap₂, append_assoc, append-nil, zero-add, arith, length-append, length-drop, take-append-drop, length-take-le, take_all, drop-drop, take_at, drop_at}
use lib.ListN.{length-replicate, replicate-append-replicate}
use lib.Seq.{paste, set_at, drop-length, take-nil}
use Rattle.bits.specs.BigEndian.{to_bytes}
use Rattle.bits.proofs.BigEndian.{length_to}
use Rattle.bits.proofs.Lists.{drop-replicate}
use Rattle.sha1_compress.specs.Message.{zeros_of, padding_of, pad_of}
use Rattle.sha1_compress.specs.Hash.{blocks_of, start_of, digest_of, sha1_of}
use Rattle.sha1_compress.specs.Steps.{closed_of, hash_from}
use Rattle.sha1_compress.proofs.Blocks.{blocks-front, blocks-add}

-- the buffer
-- what pasting s over the zeros after p gives
pub filled_more : (n : ℕ) (p s y : List ℕ) (k m : ℕ) → length p ≡ k → length s ≡ m → k + m ≤ n
    → y ≡ paste (p ++ replicate (n - k) 0) k s m → y ≡ (p ++ s) ++ replicate (n - (k + m)) 0
filled_more n p s y k m lp ls b e =
    let z : List ℕ = replicate (n - k) 0 in
    let en : n - k - m ≡ n - (k + m) = omega arith in
    e
    ∙ ap₂ (λ (u v : List ℕ). u ++ v)
    (ap₂ (λ (u v : List ℕ). u ++ v) (take_at p z k lp) (take_all m s (omega arith)))
    (sym (drop-drop m k (p ++ z)) ∙ ap (drop m) (drop_at p z k lp) ∙ drop-replicate m (n - k) 0 ∙ ap (λ (j : ℕ). replicate j 0) en)

-- how many zeros the padding has where the end is in one block or in two, and that whole blocks before do not change it
pub one_block : (m : ℕ) → m < 56 → 64 * 1 ≡ m + 9 + zeros_of m
one_block m h = omega arith

pub two_blocks : (m : ℕ) → 56 ≤ m → m < 120 → 64 * 2 ≡ m + 9 + zeros_of m
two_blocks m h b = omega arith

zeros-same : (k n b t : ℕ) → k % 64 ≡ 0 → 64 * n ≤ b → zeros_of (k + (b + t)) ≡ zeros_of (b - 64 * n + t)
zeros-same k n b t h g = omega arith

pub closed-length : (p : List ℕ) (x : ℕ) → length (closed_of p x) ≡ length p + 9 + zeros_of (length p)
unfolding closed_of
closed-length p x = simp (length-append, length-replicate) (omega arith)

-- the end of a message in the buffer, with the byte 0x80 behind it and the number of bits before byte e
module _ (p : List ℕ) (x e : ℕ) (h : e ≡ length p + 9 + zeros_of (length p)) (b : e ≤ 128) where
  front : List ℕ
  front = p ++ 0x80 ∷ replicate (zeros_of (length p)) 0

  front_length : length front ≡ e - 8
  unfolding front
  front_length = simp (length-append, length-replicate) (omega arith)

  marked : set (p ++ replicate (128 - length p) 0) (length p) 0x80 ≡ front ++ replicate (128 - (e - 8)) 0
  unfolding front
  marked =
      let z = zeros_of (length p) in
      let e1 : 128 - length p ≡ suc (127 - length p) = omega arith in
      let e2 : 127 - length p ≡ z + (128 - (e - 8)) = omega arith in
      ap (λ (k : ℕ). set (p ++ replicate k 0) (length p) 0x80) e1
      ∙ set_at p 0 (replicate (127 - length p) 0) 0x80 (length p) refl
      ∙ ap (λ (r : List ℕ). p ++ 0x80 ∷ r) (ap (λ (k : ℕ). replicate k 0) e2 ∙ sym (replicate-append-replicate z (128 - (e - 8)) 0))
      ∙ sym (append_assoc p (0x80 ∷ replicate z 0) (replicate (128 - (e - 8)) 0))

  closed_is : (y : List ℕ) → y ≡ paste (set (p ++ replicate (128 - length p) 0) (length p) 0x80) (e - 8) (to_bytes 8 x) 8 → y ≡ closed_of p x ++ replicate (128 - e) 0
  unfolding closed_of front
  closed_is y ey =
      let e3 : 128 - (e - 8 + 8) ≡ 128 - e = omega arith in
      filled_more 128 front (to_bytes 8 x) y (e - 8) 8 front_length (length_to 8 x) (omega arith) (ey ∙ ap (λ (u : List ℕ). paste u (e - 8) (to_bytes 8 x) 8) marked)
      ∙ ap₂ (λ (u : List ℕ) (k : ℕ). u ++ replicate k 0) (append_assoc p (0x80 ∷ replicate (zeros_of (length p)) 0) (to_bytes 8 x)) e3

-- the buffer of zeros after each store: two parts, the byte 0x80, and the number of bits
pub closed : (l t d y y1 y2 y3 : List ℕ) (n x : ℕ) → 64 * n ≡ length l + length t + 9 + zeros_of (length l + length t) → 64 * n ≤ 128
    → y ≡ replicate 128 0
    → y1 ≡ paste y 0 l (length l)
    → y2 ≡ paste y1 (length l) t (length t)
    → d ≡ to_bytes 8 x
    → y3 ≡ paste (set y2 (length l + length t) 0x80) (64 * n - 8) d (length d)
    → y3 ≡ closed_of (l ++ t) x ++ replicate (128 - 64 * n) 0
closed l t d y y1 y2 y3 n x h b e e1 e2 ed e3 =
    let lp : length (l ++ t) ≡ length l + length t = length-append l t in
    let h1 : 64 * n ≡ length (l ++ t) + 9 + zeros_of (length (l ++ t)) = h ∙ ap (λ (i : ℕ). i + 9 + zeros_of i) (sym lp) in
    let q1 : y1 ≡ l ++ replicate (128 - length l) 0 =
    filled_more 128 [] l y1 0 (length l) refl refl (omega arith) (e1 ∙ ap (λ (u : List ℕ). paste u 0 l (length l)) e) ∙ ap (λ (i : ℕ). l ++ replicate (128 - i) 0) (zero-add (length l)) in
    let q2 : y2 ≡ (l ++ t) ++ replicate (128 - length (l ++ t)) 0 =
    filled_more 128 l t y2 (length l) (length t) refl refl (omega arith) (e2 ∙ ap (λ (u : List ℕ). paste u (length l) t (length t)) q1)
    ∙ ap (λ (i : ℕ). (l ++ t) ++ replicate (128 - i) 0) (sym lp) in
    closed_is (l ++ t) x (64 * n) h1 b y3
    (e3 ∙ ap (λ (u : List ℕ). paste (set y2 (length l + length t) 0x80) (64 * n - 8) u (length u)) ed
    ∙ ap₂ (λ (u : List ℕ) (i : ℕ). paste (set u i 0x80) (64 * n - 8) (to_bytes 8 x) 8) q2 (sym lp))

-- they have room in the buffer
pub closed-room : (p y : List ℕ) (n x : ℕ) → length y ≡ 128 → 64 * n ≡ length (closed_of p x) → y ≡ closed_of p x ++ replicate (128 - 64 * n) 0 → 64 * n ≤ 128
closed-room p y n x l h e =
    let k : length y ≡ length (closed_of p x) + (128 - 64 * n) =
    ap length e ∙ length-append (closed_of p x) (replicate (128 - 64 * n) 0) ∙ ap (λ (i : ℕ). length (closed_of p x) + i) (length-replicate (128 - 64 * n) 0) in
    omega arith

whole-blocks : (n j a b : ℕ) → a ≡ 64 * n → b ≡ 64 * j → (a + b) / 64 ≡ n + j
whole-blocks n j a b h g = omega arith

-- The whole: the state after the full blocks of b, and then the j blocks of the buffer with b's rest, t and the padding.
module _ (k : ℕ) (h b t : List ℕ) (n : ℕ) (k64 : k % 64 ≡ 0) (nb : 64 * n ≤ length b) where
  -- the padded message is the full blocks and the closed end
  padded : (x : ℕ) → x ≡ (k + length b + length t) * 8 → (b ++ t) ++ padding_of (k + length (b ++ t)) ≡ take (64 * n) b ++ closed_of (drop (64 * n) b ++ t) x
  unfolding padding_of closed_of
  padded x ex =
      let f = take (64 * n) b in
      let g = drop (64 * n) b in
      let lp : length (g ++ t) ≡ length b - 64 * n + length t = simp (length-append, length-drop) in
      let lm : k + length (b ++ t) ≡ k + (length b + length t) = ap (λ (i : ℕ). k + i) (length-append b t) in
      let ez : zeros_of (k + length (b ++ t)) ≡ zeros_of (length (g ++ t)) = ap zeros_of lm ∙ zeros-same k n (length b) (length t) k64 nb ∙ ap zeros_of (sym lp) in
      let eb : (k + length (b ++ t)) * 8 ≡ x = omega arith in
      let q : List ℕ = 0x80 ∷ (replicate (zeros_of (length (g ++ t))) 0 ++ to_bytes 8 x) in
      ap₂ (λ (i w : ℕ). (b ++ t) ++ 0x80 ∷ (replicate i 0 ++ to_bytes 8 w)) ez eb
      ∙ ap (λ (u : List ℕ). (u ++ t) ++ q) (sym (take-append-drop (64 * n) b))
      ∙ ap (λ (u : List ℕ). u ++ q) (append_assoc f g t)
      ∙ append_assoc f (g ++ t) q

  -- g is b's rest, as it is lent
  pub finished : (j x : ℕ) (g s y r : List ℕ) → x ≡ (k + length b + length t) * 8 → g ≡ take (length b - 64 * n) (drop (64 * n) b) → s ≡ blocks_of n h b
      → 64 * j ≡ length (closed_of (g ++ t) x)
      → y ≡ closed_of (g ++ t) x ++ replicate (128 - 64 * j) 0
      → r ≡ blocks_of j s y
      → r ≡ hash_from k h (b ++ t)
  unfolding hash_from
  finished j x g s y r ex eg es ej ey er =
      let f = take (64 * n) b in
      let q = closed_of (g ++ t) x in
      let lf : length f ≡ 64 * n = length-take-le (64 * n) b nb in
      let gd : g ≡ drop (64 * n) b = eg ∙ take_all (length b - 64 * n) (drop (64 * n) b) (simp length-drop (omega arith)) in
      let r1 : r ≡ blocks_of j s q = er ∙ ap (blocks_of j s) ey ∙ blocks-front j s q (replicate (128 - 64 * j) 0) (omega arith) in
      let s1 : s ≡ blocks_of n h f = es ∙ ap (blocks_of n h) (sym (take-append-drop (64 * n) b)) ∙ blocks-front n h f (drop (64 * n) b) (omega arith) in
      let nj : length (f ++ q) / 64 ≡ n + j = rw length-append (whole-blocks n j (length f) (length q) lf (sym ej)) in
      let pq : (b ++ t) ++ padding_of (k + length (b ++ t)) ≡ f ++ q = padded x ex ∙ ap (λ (u : List ℕ). f ++ closed_of (u ++ t) x) (sym gd) in
      r1
      ∙ ap (λ (u : List ℕ). blocks_of j u q) s1
      ∙ sym (blocks-add n j h f q lf)
      ∙ ap (λ (i : ℕ). blocks_of i h (f ++ q)) (sym nj)
      ∙ ap (λ (u : List ℕ). blocks_of (length u / 64) h u) (sym pq)

-- an empty part after the message
pub tail_none : (b : List ℕ) → b ++ take (length b - length b) (drop (length b) b) ≡ b
tail_none b = ap (λ (u : List ℕ). b ++ take (length b - length b) u) (drop-length b) ∙ ap (λ (u : List ℕ). b ++ u) (take-nil (length b - length b)) ∙ append-nil b

-- from the start, with nothing hashed before
pub sha1-is : (m h : List ℕ) → h ≡ hash_from 0 start_of m → digest_of h ≡ sha1_of m
unfolding hash_from sha1_of pad_of
sha1-is m h e =
    ap digest_of (e ∙ ap (λ (n : ℕ). blocks_of (length (m ++ padding_of n) / 64) start_of (m ++ padding_of n)) (zero-add (length m)))
