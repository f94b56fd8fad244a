-- What the code holds on its way, in the terms of FIPS 180-4's message schedule and steps; and a message hashed from a state on.
use Rattle.std.specs.Prelude.{◌≡◌, ℕ, zero, suc, ◌+◌, ◌-◌, ◌/◌, ◌<◌, ◌≤◌, List, [], ◌∷◌, ◌++◌, length, take, drop, replicate, slice_index_or}
use Rattle.bits.specs.BigEndian.{to_bytes}
use Rattle.bits.specs.Xor.{◌⊕◌}
use Rattle.sha1_words.specs.Words.{rotl}
use Rattle.sha1_compress.specs.declared.compress.Working.{Working}
use Rattle.sha1_compress.specs.Message.{zeros_of, padding_of}
use Rattle.sha1_compress.specs.Hash.{schedule_of, steps_of, blocks_of}

-- words t - 15 to t of the message schedule of a block m, t from 15 to 79: what is kept once word t is made
unfoldable pub kept_at : List ℕ → ℕ → List ℕ
kept_at m t = take 16 (drop (t - 15) (schedule_of m 64))

-- 6.1.2, step 1, on the sixteen words kept: the next word is made and put behind the others, and the first is let go (6.1.3 keeps the same words in a ring)
abbrev pub made_of : List ℕ → List ℕ
made_of w = drop 1 w ++ (rotl 1 (slice_index_or w 13 0 ⊕ slice_index_or w 8 0 ⊕ slice_index_or w 2 0 ⊕ slice_index_or w 0 0) ∷ [])

-- the words kept after n words were made, from a block m on
unfoldable pub kept_after : List ℕ → ℕ → List ℕ
kept_after m zero = m
kept_after m (suc n) = made_of (kept_after m n)

-- Sixteen words are enough: once word t is made, those kept are exactly words t - 15 to t of the schedule.
pub record Kept : Type 0 where
  pub kept : (m : List ℕ) (t : ℕ) → length m ≡ 16 → 15 ≤ t → t < 80 → kept_after m (t - 15) ≡ kept_at m t

-- 6.1.2, step 3: what the code holds before step t, t up to 64: the working variables after the steps before it, from h, and words t to t + 15
unfoldable pub working_at : List ℕ → List ℕ → ℕ → Working
working_at h m t = record { state = steps_of (schedule_of m 64) h t; words = kept_at m (t + 15) }

-- 5.1.1: the last bytes p of a message of x bits, and its padding; what comes before p is whole blocks
unfoldable pub closed_of : List ℕ → ℕ → List ℕ
closed_of p x = p ++ 0x80 ∷ (replicate (zeros_of (length p)) 0 ++ to_bytes 8 x)

-- the hash value of a message whose first k bytes, a multiple of 64, are in h already, and whose rest is m
unfoldable pub hash_from : ℕ → List ℕ → List ℕ → List ℕ
hash_from k h m = blocks_of (length (m ++ padding_of (k + length m)) / 64) h (m ++ padding_of (k + length m))
