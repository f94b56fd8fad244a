-- Tracks and states, for what is built on top: a state in words and back, how many words there are, and what a step leaves.
use Rattle.std.specs.Prelude.{Result, Ok, Err}
use mathlib.Core.Path.{◌≡◌, refl, ap, ap₂, ◌∙◌}
use mathlib.Core.Bool.{Bool, true, false}
use mathlib.Core.List.{List, ◌++◌}
use Prim.Native.Nat.{ℕ, suc, ◌+◌, ◌-◌, ◌/◌}
use native.Mathlib.Omega.{arith}
use lib.Dec.{eqb}
use lib.ListN.{length, drop, replicate, length-append, length-set, length-drop, length-replicate, replicate-append-replicate}
use lib.Seq.{length-take-le, take_at, drop_at}
use Rattle.bits.specs.Pick.{pick}
use Rattle.bits.specs.declared.refusal.Refusal.{Refusal}
use Rattle.replay.specs.Window.{Window, mark_of}
use Rattle.replay.specs.State.{ReplayState, fresh_of, accept_of, after_of}
use Rattle.replay.specs.Receive.{index_for, judge_index, receive_of}
use Rattle.replay.specs.Send.{next_of, sent_of, send_of}
use Rattle.replay.specs.Track.{blocks_in, window_in, window_words, state_in, state_words, Blocks}

-- ---- the state that a step leaves

-- an index is accepted, a refusal leaves the state
module _ (b W : ℕ) (s : ReplayState) (rollover seq : ℕ) where
  pub received-state : (i : ℕ) → (receive_of b W s rollover seq).judged ≡ Ok i → (receive_of b W s rollover seq).state ≡ accept_of b s i
  unfolding receive_of
  received-state i e = ap (after_of b s) e

module _ (s : ReplayState) (rollover seq : ℕ) where
  pub sent-state : (i : ℕ) → (send_of s rollover seq).judged ≡ Ok i → (send_of s rollover seq).state ≡ sent_of s (Ok i)
  unfolding send_of
  sent-state i e = ap (sent_of s) e

-- ---- a ring of b blocks

pub fresh-blocks : (b : ℕ) → Blocks b (fresh_of b)
fresh-blocks b = record { stamps = length-replicate b 0; bits = length-replicate b 0 }

-- every step keeps it
module _ (b : ℕ) (s : ReplayState) (whole : Blocks b s) where
  pub accept-blocks : (i : ℕ) → Blocks b (accept_of b s i)
  unfolding accept_of mark_of
  accept-blocks i = record { stamps = simp length-set whole.stamps; bits = simp length-set whole.bits }

  pub after-blocks : (j : Result ℕ Refusal) → Blocks b (after_of b s j)
  after-blocks (Ok i) = accept-blocks i
  after-blocks (Err r) = whole

  pub sent-blocks : (j : Result ℕ Refusal) → Blocks b (sent_of s j)
  sent-blocks (Ok i) = record { stamps = whole.stamps; bits = whole.bits }
  sent-blocks (Err r) = whole

  pub send-blocks : (rollover seq : ℕ) → Blocks b (send_of s rollover seq).state
  unfolding send_of
  send-blocks rollover seq = sent-blocks (next_of s rollover seq)

  pub receive-blocks : (W rollover seq : ℕ) → Blocks b (receive_of b W s rollover seq).state
  unfolding receive_of
  receive-blocks W rollover seq = after-blocks (judge_index b W s (index_for s rollover seq))

-- a track of 2 + 2b words has one
module _ (b : ℕ) (l : List ℕ) (size : length l ≡ 2 + (b + b)) where
  pub blocks-are : blocks_in (drop 2 l) ≡ b
  blocks-are = omega (arith, length-drop 2 l)

  pub blocks-in : Blocks b (state_in l)
  unfolding state_in window_in
  blocks-in =
      let r = drop 2 l in
      let d : length r ≡ b + b = omega (arith, length-drop 2 l) in
      record {
        stamps = length-take-le (blocks_in r) r (omega arith) ∙ blocks-are;
        bits = let e : length r - blocks_in r ≡ b = omega arith in length-drop (blocks_in r) r ∙ e;
      }

-- ---- a state in words and back

-- a window whose halves are as long as its words tell
window-kept : (w : Window) → length w.stamps ≡ length (w.stamps ++ w.bits) / 2 → window_in (window_words w) ≡ w
unfolding window_in
window-kept w h =
    ap₂ (λ (u v : List ℕ). record { stamps = u; bits = v })
    (take_at w.stamps w.bits (length (w.stamps ++ w.bits) / 2) h) (drop_at w.stamps w.bits (length (w.stamps ++ w.bits) / 2) h)

flag-kept : (t : Bool) → eqb (pick t 1 0) 1 ≡ t
flag-kept true = refl
flag-kept false = refl

module _ (b : ℕ) (s : ReplayState) (whole : Blocks b s) where
  pub state-length : length (state_words s) ≡ 2 + (b + b)
  unfolding state_words
  state-length = rw (length-append, whole.stamps, whole.bits) (omega arith)

  pub state-kept : state_in (state_words s) ≡ s
  unfolding state_in state_words
  state-kept =
      ap₂ (λ (t : Bool) (w : Window). record { started = t; highest = s.highest; window = w }) (flag-kept s.started)
      (window-kept s.window (simp length-append (omega (arith, whole.stamps, whole.bits))))

-- before the first packet every word is 0
pub fresh-words : (b : ℕ) → state_words (fresh_of b) ≡ replicate (2 + (b + b)) 0
unfolding state_words
fresh-words b =
    let e : 2 + (b + b) ≡ suc (suc (b + b)) = omega arith in
    rw (e, replicate-append-replicate {A = ℕ} b b 0)
