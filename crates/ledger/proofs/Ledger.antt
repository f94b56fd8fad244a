-- A state remembers what the ledger holds, as far as the width goes, as long as both are fed the same arrivals.
use Rattle.bits.specs.declared.refusal.Refusal.{Refusal}
use Rattle.std.specs.Prelude.{Result, Ok, Err}
use mathlib.Core.Path.{◌≡◌, refl, sym, ap, ap₂, ◌∙◌}
use mathlib.Core.Bool.{Bool, true, false}
use mathlib.Core.List.{List, [], ◌∷◌}
use mathlib.Core.Logic.{⊎_elim}
use Prim.Native.Nat.{ℕ, ◌+◌, ◌*◌, ◌/◌, ◌%◌, ◌^◌, ◌<◌, ◌≤◌, max}
use native.Mathlib.Nat.{mod-lt}
use native.Mathlib.Omega.{arith}
use borrow.Author.Tests.{eq-eqb, ne_eqb, leb-false}
use lib.Dec.{eqb, leb}
use lib.IntN.{pos}
use lib.ListN.{get_or, replicate, length-replicate, get_or-replicate}
use Rattle.bits.specs.Pick.{pick}
use Rattle.bits.specs.declared.refusal.Refusal.TheVariants as refusal
use Rattle.bits.proofs.Bits.{no-bit}
use Rattle.replay.specs.declared.answer.Told.{Told}
use Rattle.replay.specs.State.{ReplayState, fresh_of, judge_of, accept_of, after_of}
use Rattle.replay.specs.Answers.{told_of}
use Rattle.replay.specs.Guess.{low_of}
use Rattle.replay.specs.Window.{block_of, seen_in}
use Rattle.replay.specs.Receive.{index_for, judge_index, receive_of}
use Rattle.ledger.specs.Ledger.{highest_of, holds, Entry, given, refused, enter, by_ledger, by_memory, by_receiver, state_after, held_after, guess_beside, GuessedRight, Near}
use Rattle.ledger.proofs.Guesses.{near}
use Rattle.replay.proofs.Judging.{first_taken, old, repeated, taken, unworn}
use Rattle.bits.proofs.Tests.{same?}
use Rattle.ledger.proofs.Ring.{Whole, mark-whole, seen_same, seen-near, seen-only}

-- ---- the ledger

holds-first : (k i : ℕ) (l : List ℕ) → k ≡ i → holds (k ∷ l) i ≡ true
holds-first k i l e = simp (eq-eqb k i e)

holds_later : (k i : ℕ) (l : List ℕ) → (k ≡ i → ⊥) → holds (k ∷ l) i ≡ holds l i
holds_later k i l e = simp (ne_eqb k i e)

holds_more : (k i : ℕ) (l : List ℕ) → holds l i ≡ true → holds (k ∷ l) i ≡ true
holds_more k i l h = ⊎_elim (λ e. holds-first k i l e) (λ e. holds_later k i l e ∙ h) (same? k i)

holds-le : (l : List ℕ) (i : ℕ) → holds l i ≡ true → i ≤ highest_of l
holds-le [] i h = let z : ◌≡◌ {A = ℕ} 0 1 = cc in absurd (omega arith)
holds-le (k ∷ l) i h =
    ⊎_elim (λ e. omega arith)
    (λ e. let r : i ≤ highest_of l = holds-le l i (sym (holds_later k i l e) ∙ h) in omega arith)
    (same? k i)

-- something is held
abbrev pub any : List ℕ → Bool
any [] = false
any (k ∷ l) = true

-- ---- what is remembered

pub record Remembers (b W : ℕ) (s : ReplayState) (l : List ℕ) : Type 0 where
  pub whole : Whole b s.window
  pub started : s.started ≡ any l
  pub highest : s.highest ≡ highest_of l
  -- what is seen was given back
  pub sound : (j : ℕ) → seen_in b s.window j ≡ true → holds l j ≡ true
  -- what was given back, less than W behind the highest, is seen
  pub complete : (j : ℕ) → holds l j ≡ true → highest_of l < j + W → seen_in b s.window j ≡ true

either_way : (t : Bool) (n : ℕ) → pick t n n ≡ n
either_way true n = refl
either_way false n = refl

blank-block : (b : ℕ) → 0 < b → (n : ℕ) → block_of b (fresh_of b).window n ≡ 0
blank-block b some n =
    ap (λ (x : ℕ). pick (eqb (get_or (replicate b 0) (n % b) 0) n) x 0) (get_or-replicate b (n % b) 0 0 (mod-lt n some))
    ∙ either_way (eqb (get_or (replicate b 0) (n % b) 0) n) 0

pub fresh-remembers : (b W : ℕ) → 0 < b → Remembers b W (fresh_of b) []
unfolding seen_in
fresh-remembers b W some =
    record {
      whole = record { stamps = length-replicate b 0; bits = length-replicate b 0 };
      started = refl;
      highest = refl;
      sound = λ j s. absurd (no-bit (j % 64) (rw (blank-block b some (j / 64)) at s));
      complete = λ j h b. let z : ◌≡◌ {A = ℕ} 0 1 = cc in absurd (omega arith);
    }

highest-after : (b : ℕ) (s : ReplayState) (l : List ℕ) (i : ℕ) → s.started ≡ any l → s.highest ≡ highest_of l → (accept_of b s i).highest ≡ max i (highest_of l)
unfolding accept_of
highest-after b s [] i e h = rw e (omega arith)
highest-after b s (k ∷ l) i e h = rw e (omega arith)

iff : (x y : Bool) → (x ≡ true → y ≡ true) → (y ≡ true → x ≡ true) → x ≡ y
iff true y f g = sym (f refl)
iff false true f g = g refl
iff false false f g = refl

-- ---- one arrival

-- an answer, and the state after it, are as the ledger says
pub record Agrees (b W : ℕ) (j : Result ℕ Refusal) (s : ReplayState) (e : Entry) : Type 0 where
  pub told : told_of j ≡ e.told
  pub remembers : Remembers b W s e.held

module _ (b W : ℕ) (room : W + 64 ≤ 64 * b) (s : ReplayState) where
  accepted : (l : List ℕ) (i : ℕ) → Remembers b W s l → ((j : ℕ) → holds l j ≡ true → highest_of l < i + W) → Remembers b W (accept_of b s i) (i ∷ l)
  unfolding accept_of
  accepted l i m new =
      let some : 0 < b = omega arith in
      record {
        whole = mark-whole b s.window i m.whole;
        started = refl;
        highest = highest-after b s l i m.started m.highest;
        sound = λ j x. ⊎_elim (λ e. holds-first i j l (sym e)) (λ e. holds_more i j l (m.sound j (seen-only b some s.window m.whole i j e x))) (same? j i);
        complete = λ j h x. ⊎_elim
            (λ e. rw e (seen_same b some s.window m.whole i))
            (λ e.
            let g : holds l j ≡ true = sym (holds_later i j l (λ q. e (sym q))) ∙ h in
            let u : j ≤ highest_of l = holds-le l j g in
            let n : highest_of l < i + W = new j g in
            seen-near b some s.window m.whole i W room j e (omega arith) (omega arith) ∙ m.complete j g (omega arith))
            (same? j i);
      }

  seen-held : (l : List ℕ) (i : ℕ) → Remembers b W s l → highest_of l < i + W → seen_in b s.window i ≡ holds l i
  seen-held l i m new = iff _ _ (m.sound i) (λ h. m.complete i h new)

  as-given : (l : List ℕ) (i : ℕ) → judge_of b W s i ≡ Ok i → enter W l i ≡ given l i → Remembers b W (accept_of b s i) (i ∷ l)
      → Agrees b W (judge_of b W s i) (after_of b s (judge_of b W s i)) (enter W l i)
  as-given l i e f m = rw (e, f) (record { told = refl; remembers = m })

  later : (k : ℕ) (l : List ℕ) (i : ℕ) → Remembers b W s (k ∷ l) → (x y : Bool) → leb (i + W) (highest_of (k ∷ l)) ≡ x → holds (k ∷ l) i ≡ y
      → Agrees b W (judge_of b W s i) (after_of b s (judge_of b W s i)) (enter W (k ∷ l) i)
  later k l i m true y ex ey =
      let e : judge_of b W s i ≡ Err refusal.Old = old b W s i m.started (rw m.highest ex) in
      let f : enter W (k ∷ l) i ≡ refused (k ∷ l) 12 = simp ex in
      rw (e, f) (record { told = refl; remembers = m })
  later k l i m false true ex ey =
      let v : seen_in b s.window i ≡ true = seen-held (k ∷ l) i m (leb-false _ _ ex) ∙ ey in
      let e : judge_of b W s i ≡ Err refusal.Repeat = repeated b W s i m.started (rw m.highest ex) v in
      let f : enter W (k ∷ l) i ≡ refused (k ∷ l) 13 = simp (ex, ey) in
      rw (e, f) (record { told = refl; remembers = m })
  later k l i m false false ex ey =
      let n : highest_of (k ∷ l) < i + W = leb-false _ _ ex in
      let v : seen_in b s.window i ≡ false = seen-held (k ∷ l) i m n ∙ ey in
      as-given (k ∷ l) i (taken b W s i m.started (rw m.highest ex) v) (simp (ex, ey)) (accepted (k ∷ l) i m (λ j h. n))

  -- an index is judged as the ledger says
  pub judged-by-ledger : (l : List ℕ) (i : ℕ) → Remembers b W s l → Agrees b W (judge_of b W s i) (after_of b s (judge_of b W s i)) (enter W l i)
  judged-by-ledger [] i m =
      as-given [] i (first_taken b W s i m.started) refl (accepted [] i m (λ j h. let z : ◌≡◌ {A = ℕ} 0 1 = cc in absurd (omega arith)))
  judged-by-ledger (k ∷ l) i m = later k l i m _ _ refl refl

  index-beside : (rollover : ℕ) (l : List ℕ) (seq : ℕ) → Remembers b W s l → index_for s rollover seq ≡ guess_beside rollover l seq
  index-beside rollover [] seq m = simp m.started
  index-beside rollover (k ∷ l) seq m = simp (m.started, m.highest)

  -- and so is a sequence number whose guess is right
  pub received-by-ledger : (rollover : ℕ) (l : List ℕ) (i : ℕ) → Remembers b W s l → i < 2 ^ 48 → guess_beside rollover l (low_of i) ≡ pos i
      → Agrees b W (receive_of b W s rollover (low_of i)).judged (receive_of b W s rollover (low_of i)).state (enter W l i)
  unfolding receive_of
  received-by-ledger rollover l i m h g =
      let e : judge_index b W s (index_for s rollover (low_of i)) ≡ judge_of b W s i =
      ap (judge_index b W s) (index-beside rollover l (low_of i) m ∙ g) ∙ unworn b W s i h in
      rw e (judged-by-ledger l i m)

-- a near arrival is guessed right
pub near-right : (rollover : ℕ) (l : List ℕ) (i : ℕ) → Near rollover l i → guess_beside rollover l (low_of i) ≡ pos i
near-right rollover [] i e = let f : rollover * 65536 + low_of i ≡ i = omega arith in ap pos f
near-right rollover (k ∷ l) i (p, q) = near (highest_of (k ∷ l)) i p q

-- ---- any list of arrivals

pub memory : (b W : ℕ) → W + 64 ≤ 64 * b → (s : ReplayState) (l is : List ℕ) → Remembers b W s l → by_memory b W s is ≡ by_ledger W l is
memory b W room s l [] m = refl
memory b W room s l (i ∷ is) m =
    let a = judged-by-ledger b W room s l i m in
    ap₂ (λ (t : Told) (ts : List Told). t ∷ ts) a.told (memory b W room (after_of b s (judge_of b W s i)) (enter W l i).held is a.remembers)

module _ (b W rollover : ℕ) (room : W + 64 ≤ 64 * b) where
  pub receiver : (s : ReplayState) (l is : List ℕ) → Remembers b W s l → GuessedRight W rollover l is → by_receiver b W rollover s is ≡ by_ledger W l is
  receiver s l [] m g = refl
  receiver s l (i ∷ is) m (h, (r, g)) =
      let a = received-by-ledger b W room s rollover l i m h r in
      ap₂ (λ (t : Told) (ts : List Told). t ∷ ts) a.told (receiver (receive_of b W s rollover (low_of i)).state (enter W l i).held is a.remembers g)

  pub remembered : (s : ReplayState) (l is : List ℕ) → Remembers b W s l → GuessedRight W rollover l is
      → Remembers b W (state_after b W rollover s is) (held_after W l is)
  remembered s l [] m g = m
  remembered s l (i ∷ is) m (h, (r, g)) =
      let a = received-by-ledger b W room s rollover l i m h r in
      remembered (receive_of b W s rollover (low_of i)).state (enter W l i).held is a.remembers g
