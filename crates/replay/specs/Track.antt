-- A track: what a stream remembers, as it lies in memory that the caller lends. Its words are: whether a packet was (1, or any other word where none
-- was), the highest index, and the ring: b stamps, then b words of bits. b is read off the number of words, so a track has 2 + 2b.
use Rattle.std.specs.Prelude.{◌≡◌, true, List, ◌∷◌, ◌++◌, ℕ, ◌/◌, eqb, length, get_or, take, drop}
use Rattle.bits.specs.Pick.{pick}
use Rattle.replay.specs.Window.{Window}
use Rattle.replay.specs.State.{ReplayState}

-- ---- the ring

-- how many blocks a ring has
abbrev pub blocks_in : List ℕ → ℕ
blocks_in ring = length ring / 2

-- the window that a ring's words are, and the words of a window
unfoldable pub window_in : List ℕ → Window
window_in ring = record { stamps = take (blocks_in ring) ring; bits = drop (blocks_in ring) ring }

abbrev pub window_words : Window → List ℕ
window_words w = w.stamps ++ w.bits

-- ---- the track

-- the state that a track's words are, and the words of a state
unfoldable pub state_in : List ℕ → ReplayState
state_in track = record { started = eqb (get_or track 0 0) 1; highest = get_or track 1 0; window = window_in (drop 2 track) }

unfoldable pub state_words : ReplayState → List ℕ
state_words s = pick s.started 1 0 ∷ s.highest ∷ window_words s.window

-- the state of a stream that had a packet, by its highest index and its ring
abbrev pub started_in : ℕ → List ℕ → ReplayState
started_in highest ring = record { started = true; highest = highest; window = window_in ring }

-- a state whose ring has b blocks
pub record Blocks (b : ℕ) (s : ReplayState) : Type 0 where
  pub stamps : length s.window.stamps ≡ b
  pub bits : length s.window.bits ≡ b
