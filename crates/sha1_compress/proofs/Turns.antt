-- The code's steps are FIPS 180-4's.
use Rattle.std.proofs.Common.{◌≡◌, ℕ, suc, ◌+◌, ◌-◌, ◌<◌, List, length, get_or, sym, ap, ◌∙◌, ap₂, add-one, arith}
use Rattle.sha1_compress.specs.declared.compress.Working.{Working}
use Rattle.sha1_words.specs.Words.{f_of, k_of}
use Rattle.sha1_compress.specs.Hash.{step_with, step_of, steps_of, schedule_of, sum_of, compress_of}
use Rattle.sha1_compress.specs.Steps.{kept_at, made_of, working_at}
use Rattle.sha1_compress.proofs.Schedule.{kept-own, kept_word, kept_next}

-- the code's f and k are those of step t
pub stepped : (s u : List ℕ) (t w f k : ℕ) → f ≡ f_of t (get_or s 1 0) (get_or s 2 0) (get_or s 3 0) → k ≡ k_of t → u ≡ step_with f k s w → u ≡ step_of s t w
unfolding step_of
stepped s u t w f k ef ek eu = eu ∙ ap₂ (λ (g l : ℕ). step_with g l s w) ef ek

-- before the first step
pub begun : (h m : List ℕ) → length m ≡ 16 → ◌≡◌ {A = Working} (record { state = h; words = m }) (working_at h m 0)
unfolding working_at steps_of
begun h m l = ap (λ (w : List ℕ). record { state = h; words = w }) (sym (kept-own m l))

-- what is held at t is held at the same t, written otherwise
pub held : (h m : List ℕ) (t u : ℕ) (r : Working) → t ≡ u → r ≡ working_at h m t → r ≡ working_at h m u
held h m t u r e er = er ∙ ap (working_at h m) e

module _ (h m : List ℕ) (l : length m ≡ 16) (t : ℕ) (r : Working) (er : r ≡ working_at h m t) where
  words_of : r.words ≡ kept_at m (t + 15)
  unfolding working_at
  words_of = ap (λ (x : Working). x.words) er

  state-of : r.state ≡ steps_of (schedule_of m 64) h t
  unfolding working_at
  state-of = ap (λ (x : Working). x.state) er

  -- word t + i stands in place i
  word_of : (i j : ℕ) → i < 16 → t + i ≡ j → get_or r.words i 0 ≡ get_or (schedule_of m 64) j 0
  word_of i j b e =
      let k : t + 15 - 15 + i ≡ j = omega arith in
      ap (λ (w : List ℕ). get_or w i 0) words_of ∙ kept_word m (t + 15) i b ∙ ap (λ (n : ℕ). get_or (schedule_of m 64) n 0) k

  -- step t taken, and word t + 16 made
  pub turned : (u v : List ℕ) → t < 64 → u ≡ step_of r.state t (get_or r.words 0 0) → v ≡ made_of r.words
      → ◌≡◌ {A = Working} (record { state = u; words = v }) (working_at h m (t + 1))
  unfolding working_at steps_of
  turned u v b eu ev =
      let e : kept_at m (t + 15) ≡ kept_at m (t + 16 - 1) = ap (kept_at m) (omega arith) in
      let f : t + 16 ≡ t + 1 + 15 = omega arith in
      ap₂ (λ (x y : List ℕ). record { state = x; words = y })
      (eu ∙ ap₂ (λ (s : List ℕ) (x : ℕ). step_of s t x) state-of (word_of 0 t (omega arith) (omega arith)) ∙ ap (steps_of (schedule_of m 64) h) (sym (add-one t)))
      (ev ∙ kept_next m (t + 16) l (omega arith) (omega arith) r.words (words_of ∙ e) ∙ ap (kept_at m) f)

-- the last steps, whose words stand in the sixteen places: before the first of them, one of them, and after the last
module _ (h m : List ℕ) (l : length m ≡ 16) (r : Working) (er : r ≡ working_at h m 64) where
  pub last_none : r.state ≡ steps_of (schedule_of m 64) h (64 + 0)
  last_none = state-of h m l 64 r er

  pub last_more : (s u : List ℕ) (i : ℕ) → i < 16 → s ≡ steps_of (schedule_of m 64) h (64 + i) → u ≡ step_of s (64 + i) (get_or r.words i 0)
      → u ≡ steps_of (schedule_of m 64) h (64 + (i + 1))
  unfolding steps_of
  last_more s u i b es eu =
      let e : suc (64 + i) ≡ 64 + (i + 1) = omega arith in
      eu ∙ ap₂ (λ (a : List ℕ) (x : ℕ). step_of a (64 + i) x) es (word_of h m l 64 r er i (64 + i) b (omega arith)) ∙ ap (steps_of (schedule_of m 64) h) e

pub compressed : (h m r d : List ℕ) → d ≡ steps_of (schedule_of m 64) h 80 → r ≡ sum_of d h → r ≡ compress_of h m
unfolding compress_of
compressed h m r d ed er = er ∙ ap (λ (x : List ℕ). sum_of x h) ed
