-- A block of a ring that lies in memory, and a ring with one index more.
use mathlib.Core.Path.{◌≡◌, sym, ap, ap₂, ◌∙◌}
use mathlib.Core.List.{List, ◌++◌}
use Prim.Native.Nat.{ℕ, ◌+◌, ◌/◌, ◌%◌, ◌^◌, ◌≤◌, ◌<◌}
use native.Mathlib.Nat.{mod-lt}
use native.Mathlib.Omega.{arith}
use borrow.Author.Tests.{eq-eqb, ne_eqb}
use lib.Bits.{bit_or}
use lib.ListN.{length, get_or, set, take, drop, take-append-drop}
use lib.Seq.{get_or-take, get_or-drop, take-set-lt, drop-set-add, take-set-le, drop-set-lt}
use Rattle.replay.specs.Window.{block_of, mark_of}
use Rattle.replay.specs.Track.{blocks_in, window_in, window_words}

-- two stores, one in each half
pub both-set : (b p : ℕ) (l : List ℕ) (x y : ℕ) → p < b → set (set l p x) (b + p) y ≡ set (take b l) p x ++ set (drop b l) p y
both-set b p l x y h =
    let m = set (set l p x) (b + p) y in
    sym (take-append-drop b m)
    ∙ ap₂ (λ (u v : List ℕ). u ++ v)
    (take-set-le b (set l p x) (b + p) y (omega arith) ∙ take-set-lt b l p x h)
    (drop-set-add b (set l p x) p y ∙ ap (λ (u : List ℕ). set u p y) (drop-set-lt b l p x h))

module _ (l : List ℕ) (some : 2 ≤ length l) (n : ℕ) where
  pub place-below : n % blocks_in l < blocks_in l
  place-below = mod-lt n (omega arith)

  pub stamp-at : get_or (window_in l).stamps (n % blocks_in l) 0 ≡ get_or l (n % blocks_in l) 0
  unfolding window_in
  stamp-at = get_or-take (blocks_in l) l (n % blocks_in l) 0 place-below

  pub bits_at : get_or (window_in l).bits (n % blocks_in l) 0 ≡ get_or l (blocks_in l + n % blocks_in l) 0
  unfolding window_in
  bits_at = get_or-drop (blocks_in l) l (n % blocks_in l) 0

  module _ (p : ℕ) (is_place : p ≡ n % blocks_in l) where
    pub block_here : get_or l p 0 ≡ n → get_or l (blocks_in l + p) 0 ≡ block_of (blocks_in l) (window_in l) n
    block_here e = rw (stamp-at, bits_at, ← is_place, eq-eqb (get_or l p 0) n e)

    pub block-away : (get_or l p 0 ≡ n → ⊥) → 0 ≡ block_of (blocks_in l) (window_in l) n
    block-away e = rw (stamp-at, ← is_place, ne_eqb (get_or l p 0) n e)

pub marked : (l : List ℕ) → 2 ≤ length l → (i p x : ℕ) → p ≡ i / 64 % blocks_in l → x ≡ bit_or (block_of (blocks_in l) (window_in l) (i / 64)) (2 ^ (i % 64))
    → set (set l p (i / 64)) (blocks_in l + p) x ≡ window_words (mark_of (blocks_in l) (window_in l) i)
unfolding window_in mark_of
marked l some i p x is_place e = rw (is_place, e) (both-set (blocks_in l) (i / 64 % blocks_in l) l (i / 64) _ (place-below l some (i / 64)))
