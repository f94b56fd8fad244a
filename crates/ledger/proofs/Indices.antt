-- What holds of every index that a step gives.
use Rattle.std.specs.Prelude.{Result, Ok, Err}
use mathlib.Core.Path.{◌≡◌, refl, ap, subst}
use mathlib.Core.Bool.{Bool, true, false, not, ◌&&◌}
use Prim.Native.Nat.{ℕ, ◌+◌, ◌*◌, ◌^◌, ◌<◌, ◌≤◌}
use native.Mathlib.Omega.{arith}
use borrow.Author.Tests.{leb-true, leb-false, not-false}
use lib.Dec.{leb}
use lib.IntN.{ℤ, pos, negsuc}
use Rattle.bits.specs.Pick.{pick}
use Rattle.bits.specs.declared.refusal.Refusal.{Refusal}
use Rattle.bits.specs.declared.refusal.Refusal.TheVariants as refusal
use Rattle.replay.specs.Receive.{Received, index_for, judge_index, receive_of}
use Rattle.replay.specs.State.{ReplayState, judge_of, after_of}
use Rattle.replay.specs.Guess.{low_of}
use Rattle.replay.specs.Window.{seen_in}
use Rattle.replay.specs.Send.{step_of, next_of, sent_of, send_of}
use Rattle.ledger.specs.Claims.{Gives, Receiving, Sending}
use Rattle.ledger.proofs.Guesses.{guess-low}
use Rattle.replay.proofs.Judging.{first-received, first-sent}

picked : {A : Type 0} (P : A → Type 0) (t : Bool) (x y : A) → (t ≡ true → P x) → (t ≡ false → P y) → P (pick t x y)
picked P true x y f g = f refl
picked P false x y f g = g refl

-- a test that may refuse
unless : (P : ℕ → Type 0) (t : Bool) (r : Refusal) (j : Result ℕ Refusal) → (t ≡ false → Gives P j) → Gives P (pick t (Err r) j)
unless P true r j f = tt
unless P false r j f = f refl

-- an index that was given
pub gives_at : (P : ℕ → Type 0) (j : Result ℕ Refusal) (i : ℕ) → j ≡ Ok i → Gives P j → P i
gives_at P (Ok k) i e g = let z : k ≡ i = cc in subst P z g
gives_at P (Err r) i e g = let z : ◌≡◌ {A = ℕ} 0 1 = cc in absurd (omega arith)

first-of : (x y : Bool) → x && y ≡ true → x ≡ true
first-of true y e = refl
first-of false y e = e

-- ---- receiving

module _ (b W : ℕ) (s : ReplayState) (P : ℕ → Type 0) where
  judge-gives : (i : ℕ) → P i → Gives P (judge_of b W s i)
  unfolding judge_of
  judge-gives i p =
      let new = pick (seen_in b s.window i) (Err refusal.Repeat) (Ok i) in
      picked (Gives P) s.started (pick (leb (i + W) s.highest) (Err refusal.Old) new) (Ok i)
      (λ e. unless P (leb (i + W) s.highest) refusal.Old new (λ o. unless P (seen_in b s.window i) refusal.Repeat (Ok i) (λ r. p)))
      (λ e. p)

  index_gives : (z : ℤ) → ((i : ℕ) → z ≡ pos i → i < 2 ^ 48 → P i) → Gives P (judge_index b W s z)
  index_gives (pos i) f = unless P (leb (2 ^ 48) i) refusal.Worn (judge_of b W s i) (λ w. judge-gives i (f i refl (leb-false (2 ^ 48) i w)))
  index_gives (negsuc n) f = tt

index-low : (s : ReplayState) (rollover seq : ℕ) → seq < 65536 → (i : ℕ) → index_for s rollover seq ≡ pos i → low_of i ≡ seq
index-low s rollover seq small i =
    picked (λ (z : ℤ). z ≡ pos i → low_of i ≡ seq) s.started _ _
    (λ t e. guess-low s.highest seq i small e)
    (λ t e. let f : rollover * 65536 + seq ≡ i = cc in omega arith)

pub receiving : (b W : ℕ) (s : ReplayState) (rollover seq : ℕ) → rollover < 2 ^ 32 → seq < 65536 → Receiving b W s rollover seq
unfolding receive_of
receiving b W s rollover seq large small =
    let z = index_for s rollover seq in
    record {
      small = index_gives b W s (λ i. i < 2 ^ 48) z (λ i e h. h);
      low = index_gives b W s (λ i. low_of i ≡ seq) z (λ i e h. index-low s rollover seq small i e);
      first = λ e. ap (λ (r : Received). r.judged) (first-received b W s rollover seq e (omega arith));
      stays = λ r e. ap (after_of b s) e;
    }

-- ---- sending

module _ (s : ReplayState) (rollover seq : ℕ) (P : ℕ → Type 0) where
  pub next-gives : (s.started ≡ false → P (rollover * 65536 + seq))
      → (s.started ≡ true → 1 ≤ step_of s.highest seq → s.highest + step_of s.highest seq < 2 ^ 48 → P (s.highest + step_of s.highest seq))
      → Gives P (next_of s rollover seq)
  unfolding next_of
  next-gives f g =
      let t = step_of s.highest seq in
      let ordered = leb 1 t && leb t 32767 in
      let new = pick (leb (2 ^ 48) (s.highest + t)) (Err refusal.Worn) (Ok (s.highest + t)) in
      picked (Gives P) s.started (pick (not ordered) (Err refusal.Order) new) (Ok (rollover * 65536 + seq))
      (λ e. unless P (not ordered) refusal.Order new
      (λ o. unless P (leb (2 ^ 48) (s.highest + t)) refusal.Worn (Ok (s.highest + t))
      (λ w. g e (leb-true 1 t (first-of (leb 1 t) (leb t 32767) (not-false ordered o))) (leb-false (2 ^ 48) (s.highest + t) w))))
      (λ e. f e)

pub sending : (s : ReplayState) (rollover seq : ℕ) → rollover < 2 ^ 32 → seq < 65536 → Sending s rollover seq
unfolding send_of step_of
sending s rollover seq large small =
    record {
      small = next-gives s rollover seq (λ i. i < 2 ^ 48) (λ e. omega arith) (λ e o h. h);
      low = next-gives s rollover seq (λ i. low_of i ≡ seq) (λ e. omega arith) (λ e o h. omega arith);
      first = first-sent s rollover seq;
      stays = λ r e. ap (sent_of s) e;
      forward = λ t. next-gives s rollover seq (λ i. s.highest < i) (λ e. let z : ◌≡◌ {A = ℕ} 0 1 = cc in absurd (omega arith)) (λ e o h. omega arith);
    }
