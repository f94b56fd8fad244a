-- Reading blocks out of a list, and blocks of a list's front.
use Rattle.std.proofs.Common.{◌≡◌, ℕ, zero, suc, ◌+◌, ◌-◌, ◌*◌, ◌<◌, ◌≤◌, List, [], ◌∷◌, ◌++◌, length, get_or, drop, set, replicate, sym, refl, ap, ◌∙◌, ap₂, append_assoc, append-nil, add-zero, add_assoc, add-suc, add-one, arith, length-append, length-drop, get_or-drop}
use lib.ListN.{get_or-append}
use lib.Seq.{drop-append-le, drop-append-add, set_at}
use Rattle.sha1_compress.specs.Hash.{compress_of, blocks_of}
use Rattle.sha1_compress.specs.Message.{word_at, words_in}

-- a list with one more of its places filled
pub put : (p : List ℕ) (n i z x : ℕ) → length p ≡ i → i < n → set (p ++ replicate (n - i) z) i x ≡ (p ++ (x ∷ [])) ++ replicate (n - (i + 1)) z
put p n i z x l h =
    let e : n - i ≡ suc (n - (i + 1)) = omega arith in
    ap (λ (k : ℕ). set (p ++ replicate k z) i x) e
    ∙ set_at p z (replicate (n - (i + 1)) z) x i l
    ∙ sym (append_assoc p (x ∷ []) (replicate (n - (i + 1)) z))

pub words-in-length : (n : ℕ) (l : List ℕ) → length (words_in n l) ≡ n
unfolding words_in
words-in-length zero l = refl
words-in-length (suc n) l = simp length-append (omega (arith, words-in-length n l))

pub word-drop : (l : List ℕ) (a i : ℕ) → word_at (drop a l) i ≡ word_at l (a + i)
word-drop l a i =
    let g : (j : ℕ) → get_or (drop a l) (i + j) 0 ≡ get_or l (a + i + j) 0 =
    λ j. get_or-drop a l (i + j) 0 ∙ ap (λ (k : ℕ). get_or l k 0) (sym (add_assoc a i j)) in
    cc (get_or-drop a l i 0, g 1, g 2, g 3)

-- the loop that reads a block, before its first turn
pub words-none : (b : List ℕ) (at : ℕ) → replicate 16 0 ≡ words_in 0 (drop at b) ++ replicate (16 - 0) 0
unfolding words_in
words-none b at = refl

-- a turn of it
pub word_more : (w b : List ℕ) (at i x : ℕ) → i < 16 → w ≡ words_in i (drop at b) ++ replicate (16 - i) 0 → x ≡ word_at b (at + 4 * i)
    → set w i x ≡ words_in (i + 1) (drop at b) ++ replicate (16 - (i + 1)) 0
unfolding words_in
word_more w b at i x h ew ex =
    let p = words_in i (drop at b) in
    ap (λ (l : List ℕ). set l i x) ew
    ∙ put p 16 i 0 x (words-in-length i (drop at b)) h
    ∙ ap (λ (y : ℕ). (p ++ (y ∷ [])) ++ replicate (16 - (i + 1)) 0) (ex ∙ sym (word-drop b at (4 * i)))
    ∙ ap (λ (k : ℕ). words_in k (drop at b) ++ replicate (16 - (i + 1)) 0) (sym (add-one i))

pub words-all : (w b : List ℕ) (at i : ℕ) → i ≡ 16 → w ≡ words_in i (drop at b) ++ replicate (16 - i) 0 → w ≡ words_in 16 (drop at b)
words-all w b at i e h =
    h ∙ ap (λ (k : ℕ). words_in k (drop at b) ++ replicate (16 - k) 0) e ∙ append-nil (words_in 16 (drop at b))

-- the loop over blocks, before its first turn, and a turn of it
pub blocks-none : (h b : List ℕ) → h ≡ blocks_of 0 h b
unfolding blocks_of
blocks-none h b = refl

pub block_more : (h b s m u : List ℕ) (i : ℕ) → s ≡ blocks_of i h b → m ≡ words_in 16 (drop (64 * i) b) → u ≡ compress_of s m → u ≡ blocks_of (i + 1) h b
unfolding blocks_of
block_more h b s m u i es em eu = eu ∙ ap₂ compress_of es em ∙ ap (λ (k : ℕ). blocks_of k h b) (sym (add-one i))

-- words and blocks of the front
pub word-front : (p q : List ℕ) (i : ℕ) → i + 4 ≤ length p → word_at (p ++ q) i ≡ word_at p i
word-front p q i h =
    let g : (j : ℕ) → j < length p → get_or (p ++ q) j 0 ≡ get_or p j 0 = λ j b. get_or-append p q 0 j b in
    cc (g i (omega arith), g (i + 1) (omega arith), g (i + 2) (omega arith), g (i + 3) (omega arith))

pub words-front : (n : ℕ) (p q : List ℕ) → 4 * n ≤ length p → words_in n (p ++ q) ≡ words_in n p
unfolding words_in
words-front zero p q h = refl
words-front (suc n) p q h =
    ap₂ (λ (l : List ℕ) (x : ℕ). l ++ (x ∷ [])) (words-front n p q (omega arith)) (word-front p q (4 * n) (omega arith))

pub blocks-front : (n : ℕ) (h p q : List ℕ) → 64 * n ≤ length p → blocks_of n h (p ++ q) ≡ blocks_of n h p
unfolding blocks_of
blocks-front zero h p q b = refl
blocks-front (suc n) h p q b =
    ap₂ compress_of (blocks-front n h p q (omega arith))
    (ap (words_in 16) (drop-append-le (64 * n) p q (omega arith))
    ∙ words-front 16 (drop (64 * n) p) q (simp length-drop (omega arith)))

pub blocks-add : (n j : ℕ) (h p q : List ℕ) → length p ≡ 64 * n → blocks_of (n + j) h (p ++ q) ≡ blocks_of j (blocks_of n h p) q
unfolding blocks_of
blocks-add n zero h p q l = ap (λ (k : ℕ). blocks_of k h (p ++ q)) (add-zero n) ∙ blocks-front n h p q (omega arith)
blocks-add n (suc j) h p q l =
    let e : 64 * (n + j) ≡ length p + 64 * j = omega arith in
    ap (λ (k : ℕ). blocks_of k h (p ++ q)) (add-suc n j)
    ∙ ap₂ compress_of (blocks-add n j h p q l)
    (ap (words_in 16) (ap (λ (k : ℕ). drop k (p ++ q)) e ∙ drop-append-add p q (64 * j)))
