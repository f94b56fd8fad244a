-- What is claimed of the guess, and of every index that a step gives.
use Rattle.std.specs.Prelude.{◌≡◌, true, false, ℕ, ◌+◌, ◌*◌, ◌^◌, ◌<◌, ◌≤◌, pos, negsuc, nat_abs, ◌+ℤ◌, Result, Ok, Err}
use Rattle.bits.specs.declared.refusal.Refusal.{Refusal}
use Rattle.replay.specs.State.{ReplayState}
use Rattle.replay.specs.Guess.{low_of, guess_of, distance_of}
use Rattle.replay.specs.Receive.{receive_of}
use Rattle.replay.specs.Send.{send_of}

pub record GuessIsRight : Type 0 where
  -- the highest accepted index and the distance make the guessed index
  pub reaches : (h seq : ℕ) → pos h +ℤ distance_of h seq ≡ guess_of h seq
  -- the distance is from -32,768 to 32,768; it is 0 at the highest index itself, and both ends occur
  pub range : (h seq : ℕ) → seq < 65536 → nat_abs (distance_of h seq) ≤ 32768
  pub zero : (h : ℕ) → distance_of h (low_of h) ≡ pos 0
  pub top : distance_of 0 32768 ≡ pos 32768
  pub bottom : distance_of 32768 0 ≡ negsuc 32767
  -- where the packet's index i is under 32,768 away, the guess is i
  pub near : (h i : ℕ) → i < h + 32768 → h < i + 32768 → guess_of h (low_of i) ≡ pos i

-- P holds of the index, where the answer is one; of a refusal nothing is said
abbrev pub Gives : (ℕ → Type 0) → Result ℕ Refusal → Type 0
Gives P (Ok i) = P i
Gives P (Err r) = Unit {0}

-- of a receiver's step with b blocks and width W, and of a sender's, from any state
pub record Receiving (b W : ℕ) (s : ReplayState) (rollover seq : ℕ) : Type 0 where
  -- the index has 48 bits and ends in the sequence number
  pub small : Gives (λ i. i < 2 ^ 48) (receive_of b W s rollover seq).judged
  pub low : Gives (λ i. low_of i ≡ seq) (receive_of b W s rollover seq).judged
  -- a first packet is neither old nor repeated
  pub first : s.started ≡ false → (receive_of b W s rollover seq).judged ≡ Ok (rollover * 65536 + seq)
  -- a refusal leaves the state
  pub stays : (r : Refusal) → (receive_of b W s rollover seq).judged ≡ Err r → (receive_of b W s rollover seq).state ≡ s

pub record Sending (s : ReplayState) (rollover seq : ℕ) : Type 0 where
  pub small : Gives (λ i. i < 2 ^ 48) (send_of s rollover seq).judged
  pub low : Gives (λ i. low_of i ≡ seq) (send_of s rollover seq).judged
  pub first : s.started ≡ false → (send_of s rollover seq).judged ≡ Ok (rollover * 65536 + seq)
  pub stays : (r : Refusal) → (send_of s rollover seq).judged ≡ Err r → (send_of s rollover seq).state ≡ s
  -- a later index is above the last, so that no index is sent twice
  pub forward : s.started ≡ true → Gives (λ i. s.highest < i) (send_of s rollover seq).judged

pub record StepsAreSound : Type 0 where
  pub receiving : (b W : ℕ) (s : ReplayState) (rollover seq : ℕ) → rollover < 2 ^ 32 → seq < 65536 → Receiving b W s rollover seq
  pub sending : (s : ReplayState) (rollover seq : ℕ) → rollover < 2 ^ 32 → seq < 65536 → Sending s rollover seq
