-- What the code reads off a track's words, and what it writes there.
use Rattle.std.specs.Prelude.{Ok}
use mathlib.Core.Path.{◌≡◌, refl}
use mathlib.Core.List.{List, [], ◌∷◌, ◌++◌, append-nil}
use Prim.Native.Nat.{ℕ, ◌+◌, ◌-◌, ◌*◌, ◌^◌, ◌≤◌, ◌<◌, max}
use native.Mathlib.Omega.{arith}
use borrow.Author.Tests.{eq-eqb, ne_eqb}
use lib.Dec.{eqb}
use lib.IntN.{ℤ, pos}
use lib.ListN.{length, get_or, set, take, drop, take-append-drop, drop_of_length-le, length-drop}
use lib.Seq.{take_all}
use Rattle.bits.specs.Pick.{pick}
use Rattle.replay.specs.Guess.{guess_of, distance_of}
use Rattle.replay.specs.Window.{mark_of}
use Rattle.replay.specs.State.{accept_of}
use Rattle.replay.specs.Receive.{judge_index}
use Rattle.replay.specs.Send.{step_of, stepped_of, sent_of, send_of}
use Rattle.replay.specs.Steps.{arrival_of}
use Rattle.replay.specs.Track.{blocks_in, window_in, window_words, started_in, state_in, state_words}
use Rattle.replay.proofs.Judging.{first-received, later-received, first-sent, later-sent}

-- ---- answers

module _ (l : List ℕ) (W rollover seq : ℕ) where
  abbrev b : ℕ
  b = blocks_in (drop 2 l)

  pub first-arrival : (get_or l 0 0 ≡ 1 → ⊥) → rollover * 65536 + seq < 2 ^ 48
      → arrival_of b W (state_in l) rollover seq ≡ record { judged = Ok (rollover * 65536 + seq); distance = pos 0 }
  unfolding state_in
  first-arrival e h = rw (first-received b W (state_in l) rollover seq (ne_eqb (get_or l 0 0) 1 e) h)

  pub later-arrival : (z d : ℤ) → get_or l 0 0 ≡ 1 → guess_of (get_or l 1 0) seq ≡ z → distance_of (get_or l 1 0) seq ≡ d
      → arrival_of b W (state_in l) rollover seq ≡ record { judged = judge_index b W (started_in (get_or l 1 0) (drop 2 l)) z; distance = d }
  unfolding state_in
  later-arrival z d e g k =
      rw (later-received b W (state_in l) rollover seq z d (eq-eqb (get_or l 0 0) 1 e) g k, eq-eqb (get_or l 0 0) 1 e)

module _ (l : List ℕ) (rollover seq : ℕ) where
  pub first-send : (get_or l 0 0 ≡ 1 → ⊥) → (send_of (state_in l) rollover seq).judged ≡ Ok (rollover * 65536 + seq)
  unfolding state_in send_of
  first-send e = first-sent (state_in l) rollover seq (ne_eqb (get_or l 0 0) 1 e)

  pub later-send : get_or l 0 0 ≡ 1 → (send_of (state_in l) rollover seq).judged ≡ stepped_of (get_or l 1 0) (step_of (get_or l 1 0) seq)
  unfolding state_in send_of
  later-send e = later-sent (state_in l) rollover seq (eq-eqb (get_or l 0 0) 1 e)

-- ---- words written

-- all of a list from a place on
pub rest : (a : ℕ) (l : List ℕ) → take (length l - a) (drop a l) ≡ drop a l
rest a l = take_all (length l - a) (drop a l) (omega (arith, length-drop a l))

-- the rest of a list after its first two, lent and come back changed
after_two : (l m : List ℕ) → 2 ≤ length l → take 2 l ++ (m ++ drop (length l - 2) (drop 2 l)) ≡ get_or l 0 0 ∷ get_or l 1 0 ∷ m
after_two [] m h = absurd (omega arith)
after_two (x ∷ []) m h = absurd (omega arith)
after_two (x ∷ y ∷ l) m h =
    let e : length l ≤ length (x ∷ y ∷ l) - 2 = omega arith in
    rw (drop_of_length-le l e, append-nil m)

pub accepted : (l : List ℕ) → 4 ≤ length l → (i : ℕ) (m : List ℕ) → m ≡ window_words (mark_of (blocks_in (drop 2 l)) (window_in (drop 2 l)) i)
    → (top : ℕ) → top ≡ pick (eqb (get_or l 0 0) 1) (max (get_or l 1 0) i) i
    → set (set (take 2 l ++ (m ++ drop (length l - 2) (drop 2 l))) 0 1) 1 top ≡ state_words (accept_of (blocks_in (drop 2 l)) (state_in l) i)
unfolding accept_of state_in state_words
accepted l some i m e top f = rw (after_two l m (omega arith), e, f)

set-two : (l : List ℕ) (x y : ℕ) → 2 ≤ length l → set (set l 0 x) 1 y ≡ x ∷ y ∷ drop 2 l
set-two [] x y h = absurd (omega arith)
set-two (k ∷ []) x y h = absurd (omega arith)
set-two (k ∷ m ∷ l) x y h = refl

pub sent-words : (l : List ℕ) → 2 ≤ length l → (i : ℕ) → set (set l 0 1) 1 i ≡ state_words (sent_of (state_in l) (Ok i))
unfolding state_in state_words window_in
sent-words l some i = rw (take-append-drop (blocks_in (drop 2 l)) (drop 2 l)) (set-two l 1 i some)
