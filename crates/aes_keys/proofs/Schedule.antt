-- The key schedule: FIPS 197's words, one at a time, are the code's round keys, four words at a time.
use mathlib.Core.Path.{◌≡◌, refl, sym, ap, ap₂, ◌∙◌}
use mathlib.Core.Logic.{⊎_elim}
use mathlib.Core.Bool.{Bool}
use mathlib.Core.List.{List, [], ◌∷◌}
use Prim.Native.Nat.{ℕ, zero, suc, ◌+◌, ◌-◌, ◌*◌, ◌/◌, ◌%◌, ◌≤◌, ◌<◌}
use native.Mathlib.Nat.{eq-or-lt_of_le}
use native.Mathlib.Omega.{arith}
use borrow.Author.Tests.{eq-eqb, ne_eqb}
use lib.ListN.{length, get_or, length-append, get_or-append}
use lib.Seq.{get_or_at}
use Rattle.bits.specs.Lists.{tabulate}
use Rattle.bits.specs.Pick.{pick}
use Rattle.bits.specs.Xor.{xor_list}
use Rattle.bits.proofs.Lists.{tabulated}
use Rattle.aes_tables.specs.Keys.{sub_word, rot_word, pow_x, rcon, temp_of, word_of, words_of, round_key_of}
use Rattle.aes_keys.specs.NextKey.{next_key_of}
use Rattle.aes_tables.proofs.Rounds.{words-none, words-next, powers}
use Rattle.aes_tables.proofs.Words.{cons4}

pub cons : {A : Type 0} {x y : A} {l m : List A} → x ≡ y → l ≡ m → x ∷ l ≡ y ∷ m
cons e f = cc

-- the code's numbers are the powers of x
pub power : (j : ℕ) → get_or (0x01 ∷ 0x02 ∷ 0x04 ∷ 0x08 ∷ 0x10 ∷ 0x20 ∷ 0x40 ∷ 0x80 ∷ 0x1b ∷ 0x36 ∷ []) j 0 ≡ get_or (tabulate 10 pow_x) j 0
power j = ap (λ (l : List ℕ). get_or l j 0) (sym powers)

-- the code's words are those of the next round key
pub next-key : (k : List (List ℕ)) (x : ℕ) (s t a b c d : List ℕ) → s ≡ sub_word (rot_word (get_or k 3 [])) → t ≡ xor_list s (x ∷ 0 ∷ 0 ∷ 0 ∷ [])
    → a ≡ xor_list (get_or k 0 []) t → b ≡ xor_list (get_or k 1 []) a → c ≡ xor_list (get_or k 2 []) b → d ≡ xor_list (get_or k 3 []) c
    → a ∷ b ∷ c ∷ d ∷ [] ≡ next_key_of k x
unfolding next_key_of
next-key k x s t a b c d es et ea eb ec ed =
    let fa = ea ∙ ap (xor_list (get_or k 0 [])) (et ∙ ap (λ (l : List ℕ). xor_list l (x ∷ 0 ∷ 0 ∷ 0 ∷ [])) es) in
    let fb = eb ∙ ap (xor_list (get_or k 1 [])) fa in
    let fc = ec ∙ ap (xor_list (get_or k 2 [])) fb in
    let fd = ed ∙ ap (xor_list (get_or k 3 [])) fc in
    cons4 fa fb fc fd

module _ (key : List (List ℕ)) (four : length key ≡ 4) where
  length-words : (n : ℕ) → length (words_of key n) ≡ n + 4
  length-words zero = ap length (words-none key) ∙ four
  length-words (suc n) =
      ap length (words-next key n)
      ∙ length-append (words_of key n) (word_of (words_of key n) (n + 4) ∷ []) ∙ (let e = length-words n in omega arith)

  -- a further word leaves those before it
  kept : (n i : ℕ) → i < n + 4 → get_or (words_of key (suc n)) i [] ≡ get_or (words_of key n) i []
  kept n i h =
      ap (λ (l : List (List ℕ)). get_or l i []) (words-next key n)
      ∙ get_or-append (words_of key n) (word_of (words_of key n) (n + 4) ∷ []) [] i (let e = length-words n in omega arith)

  first : (n i : ℕ) → i < 4 → get_or (words_of key n) i [] ≡ get_or key i []
  first zero i h = ap (λ (l : List (List ℕ)). get_or l i []) (words-none key)
  first (suc n) i h = kept n i (omega arith) ∙ first n i h

  new : (n : ℕ) → get_or (words_of key (suc n)) (n + 4) [] ≡ word_of (words_of key n) (n + 4)
  new n =
      ap (λ (l : List (List ℕ)). get_or l (n + 4) []) (words-next key n)
      ∙ get_or_at (words_of key n) (word_of (words_of key n) (n + 4)) [] [] (n + 4) (length-words n)

  -- the words that word i is made of are there already
  grown : (n i : ℕ) → 4 ≤ i → i < suc n + 4 → word_of (words_of key n) i ≡ word_of (words_of key (suc n)) i
  grown n i h l =
      ap₂ (λ (a b : List ℕ). xor_list a (temp_of b i)) (sym (kept n (i - 4) (omega arith))) (sym (kept n (i - 1) (omega arith)))

  -- figure 11: each word past the key is made of those before it
  figure11 : (n i : ℕ) → 4 ≤ i → i < n + 4 → get_or (words_of key n) i [] ≡ word_of (words_of key n) i
  figure11 zero i h l = absurd (omega arith)
  figure11 (suc n) i h l =
      ⊎_elim
      (λ (e : i ≡ n + 4). ap (λ (j : ℕ). get_or (words_of key (suc n)) j []) e ∙ new n ∙ ap (word_of (words_of key n)) (sym e) ∙ grown n i h l)
      (λ (g : i < n + 4). kept n i g ∙ figure11 n i h g ∙ grown n i h l)
      (eq-or-lt_of_le {n = i} {m = n + 4} (omega arith))

  abbrev w : ℕ → List ℕ
  w i = get_or (words_of key 40) i []

  -- the first word of a round key: temp is turned, substituted and has the round constant
  first_word : (j : ℕ) → j < 10
      → w (4 * suc j + 0) ≡ xor_list (w (4 * j + 0)) (xor_list (sub_word (rot_word (w (4 * j + 3)))) (pow_x j ∷ 0 ∷ 0 ∷ 0 ∷ []))
  first_word j h =
      let i = 4 * suc j + 0 in
      let e4 : i - 4 ≡ 4 * j + 0 = omega arith in
      let e1 : i - 1 ≡ 4 * j + 3 = omega arith in
      let ed : i / 4 - 1 ≡ j = omega arith in
      let em : i % 4 ≡ 0 = omega arith in
      figure11 40 i (omega arith) (omega arith)
      ∙ ap (λ (t : Bool). xor_list (w (i - 4)) (pick t (xor_list (sub_word (rot_word (w (i - 1)))) (rcon (i / 4))) (w (i - 1)))) (eq-eqb (i % 4) 0 em)
      ∙ ap (λ (m : ℕ). xor_list (w m) (xor_list (sub_word (rot_word (w (i - 1)))) (rcon (i / 4)))) e4
      ∙ ap (λ (m : ℕ). xor_list (w (4 * j + 0)) (xor_list (sub_word (rot_word (w m))) (rcon (i / 4)))) e1
      ∙ ap (λ (m : ℕ). xor_list (w (4 * j + 0)) (xor_list (sub_word (rot_word (w (4 * j + 3)))) (pow_x m ∷ 0 ∷ 0 ∷ 0 ∷ []))) ed

  -- the others: temp is the word before
  other_word : (j c : ℕ) → j < 10 → 0 < c → c < 4 → w (4 * suc j + c) ≡ xor_list (w (4 * j + c)) (w (4 * suc j + (c - 1)))
  other_word j c h p l =
      let i = 4 * suc j + c in
      let e4 : i - 4 ≡ 4 * j + c = omega arith in
      let e1 : i - 1 ≡ 4 * suc j + (c - 1) = omega arith in
      figure11 40 i (omega arith) (omega arith)
      ∙ ap (λ (t : Bool). xor_list (w (i - 4)) (pick t (xor_list (sub_word (rot_word (w (i - 1)))) (rcon (i / 4))) (w (i - 1)))) (ne_eqb (i % 4) 0 (λ e. omega arith))
      ∙ ap₂ (λ (a b : ℕ). xor_list (w a) (w b)) e4 e1

  -- a round key is made of the one before it
  pub next-round : (j x : ℕ) (k r : List (List ℕ)) → j < 10 → x ≡ pow_x j → k ≡ round_key_of (words_of key 40) j → r ≡ next_key_of k x
      → r ≡ round_key_of (words_of key 40) (suc j)
  next-round j x k r h ex ek er =
      er ∙ ap₂ next_key_of ek ex
      ∙ sym (next-key (round_key_of (words_of key 40) j) (pow_x j) _ _ _ _ _ _ refl refl (first_word j h) (other_word j 1 h (omega arith) (omega arith)) (other_word j 2 h (omega arith) (omega arith)) (other_word j 3 h (omega arith) (omega arith)))

  -- round key 0 is the key
  pub round-zero : key ≡ round_key_of (words_of key 40) 0
  round-zero =
      sym (cons4 (first 40 0 (omega arith)) (first 40 1 (omega arith)) (first 40 2 (omega arith)) (first 40 3 (omega arith)) ∙ tabulated [] 4 key four)
