-- Document 01, "Lists of calls in demand 3": the ledger, and a receiver's answers beside it over any list of arrivals. "Ledger" is that paper's word.
use Rattle.std.specs.Prelude.{◌≡◌, Bool, false, ◌||◌, List, [], ◌∷◌, ℕ, ◌+◌, ◌*◌, ◌^◌, ◌<◌, ◌≤◌, max, eqb, leb, ℤ, pos}
use Rattle.bits.specs.Pick.{pick}
use Rattle.replay.specs.declared.answer.Told.{Told}
use Rattle.replay.specs.State.{ReplayState, fresh_of, judge_of, after_of}
use Rattle.replay.specs.Answers.{told_of}
use Rattle.replay.specs.Guess.{low_of, rollover_of, guess_of}
use Rattle.replay.specs.Receive.{receive_of}
use Rattle.replay.specs.Window.{blocks, width}

-- A ledger is the list of the indices given back, none at first. It forgets none. The highest of them:
abbrev pub highest_of : List ℕ → ℕ
highest_of [] = 0
highest_of (k ∷ l) = max k (highest_of l)

-- index i is held
abbrev pub holds : List ℕ → ℕ → Bool
holds [] i = false
holds (k ∷ l) i = eqb k i || holds l i

-- what the ledger says of an arrival, and the indices held afterwards
pub record Entry : Type 0 where
  pub told : Told
  pub held : List ℕ

abbrev pub given : List ℕ → ℕ → Entry
given l i = record { told = record { number = 0; index = i }; held = i ∷ l }

abbrev pub refused : List ℕ → ℕ → Entry
refused l n = record { told = record { number = n; index = 0 }; held = l }

-- The arrival of index i. Nothing held yet: given back and added. W or more below the highest: refused with 12. Otherwise, held already:
-- refused with 13. Otherwise: given back and added.
abbrev pub enter : ℕ → List ℕ → ℕ → Entry
enter W [] i = given [] i
enter W (k ∷ l) i =
    pick (leb (i + W) (highest_of (k ∷ l))) (refused (k ∷ l) 12)
    (pick (holds (k ∷ l) i) (refused (k ∷ l) 13)
    (given (k ∷ l) i))

-- the ledger's answers to a list of arrivals
abbrev pub by_ledger : ℕ → List ℕ → List ℕ → List Told
by_ledger W l [] = []
by_ledger W l (i ∷ is) = (enter W l i).told ∷ by_ledger W (enter W l i).held is

-- the memory's answers to the same arrivals, where each packet carries its whole index
abbrev pub by_memory : ℕ → ℕ → ReplayState → List ℕ → List Told
by_memory b W s [] = []
by_memory b W s (i ∷ is) = told_of (judge_of b W s i) ∷ by_memory b W (after_of b s (judge_of b W s i)) is

-- a receiver's answers to the same arrivals, where each packet carries the low 16 bits of its index
abbrev pub by_receiver : ℕ → ℕ → ℕ → ReplayState → List ℕ → List Told
by_receiver b W rollover s [] = []
by_receiver b W rollover s (i ∷ is) =
    told_of (receive_of b W s rollover (low_of i)).judged ∷ by_receiver b W rollover (receive_of b W s rollover (low_of i)).state is

-- the receiver's state, and the indices held, after the arrivals
abbrev pub state_after : ℕ → ℕ → ℕ → ReplayState → List ℕ → ReplayState
state_after b W rollover s [] = s
state_after b W rollover s (i ∷ is) = state_after b W rollover (receive_of b W s rollover (low_of i)).state is

abbrev pub held_after : ℕ → List ℕ → List ℕ → List ℕ
held_after W l [] = l
held_after W l (i ∷ is) = held_after W (enter W l i).held is

-- the index that a receiver takes SEQ for, beside the ledger
abbrev pub guess_beside : ℕ → List ℕ → ℕ → ℤ
guess_beside rollover [] seq = pos (rollover * 65536 + seq)
guess_beside rollover (k ∷ l) seq = guess_of (highest_of (k ∷ l)) seq

-- each arrival has an index of 48 bits, and its guess is right
abbrev pub GuessedRight : ℕ → ℕ → List ℕ → List ℕ → Type 0
GuessedRight W rollover l [] = Unit {0}
GuessedRight W rollover l (i ∷ is) =
    (i < 2 ^ 48) × ((guess_beside rollover l (low_of i) ≡ pos i) × GuessedRight W rollover (enter W l i).held is)

-- Demand 3's premise: the first to arrive carries the starting rollover, each later one is under 32,768 away from the ledger's highest.
abbrev pub Near : ℕ → List ℕ → ℕ → Type 0
Near rollover [] i = rollover_of i ≡ rollover
Near rollover (k ∷ l) i = (i < highest_of (k ∷ l) + 32768) × (highest_of (k ∷ l) < i + 32768)

-- An example: index 65,536 ends in the same 16 bits as index 0 and is not taken for it; then a repeat, 64 behind, and 63 behind.
abbrev pub arrivals : List ℕ
arrivals = 0 ∷ 30000 ∷ 60000 ∷ 65536 ∷ 65536 ∷ 65472 ∷ 65473 ∷ []

abbrev pub answers : List Told
answers =
    record { number = 0; index = 0 } ∷ record { number = 0; index = 30000 } ∷ record { number = 0; index = 60000 }
    ∷ record { number = 0; index = 65536 } ∷ record { number = 13; index = 0 } ∷ record { number = 12; index = 0 }
    ∷ record { number = 0; index = 65473 } ∷ []

pub record FollowsTheLedger : Type 0 where
  -- Over any list of arrivals, for any number of blocks b and any width W up to 64 * (b - 1): the memory answers as the ledger does,
  pub memory : (b W : ℕ) → W + 64 ≤ 64 * b → (is : List ℕ) → by_memory b W (fresh_of b) is ≡ by_ledger W [] is
  -- and where the guesses are right, so does the receiver, and its highest index is the ledger's
  pub receiver : (b W rollover : ℕ) → W + 64 ≤ 64 * b → (is : List ℕ) → GuessedRight W rollover [] is
      → by_receiver b W rollover (fresh_of b) is ≡ by_ledger W [] is
  pub highest : (b W rollover : ℕ) → W + 64 ≤ 64 * b → (is : List ℕ) → GuessedRight W rollover [] is
      → (state_after b W rollover (fresh_of b) is).highest ≡ highest_of (held_after W [] is)
  -- a near arrival is guessed right
  pub near : (rollover : ℕ) (l : List ℕ) (i : ℕ) → Near rollover l i → guess_beside rollover l (low_of i) ≡ pos i
  -- this library's ring is long enough for its width
  pub enough : width + 64 ≤ 64 * blocks
  -- the example's guesses are right
  pub met : GuessedRight width 0 [] arrivals
  pub example : by_ledger width [] arrivals ≡ answers
