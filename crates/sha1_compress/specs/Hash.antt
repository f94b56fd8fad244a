-- FIPS 180-4, sections 5.3.1 and 6.1: SHA-1.
use Rattle.std.specs.Prelude.{ℕ, zero, suc, ◌+◌, ◌-◌, ◌*◌, ◌/◌, List, [], ◌∷◌, ◌++◌, length, drop, slice_index, slice_index_or}
use Rattle.bits.specs.BigEndian.{to_bytes}
use Rattle.bits.specs.Xor.{◌⊕◌}
use Rattle.sha1_words.specs.Words.{◌⊞◌, rotl, f_of, k_of}
use Rattle.sha1_compress.specs.Message.{pad_of, words_in}

-- 5.3.1: the initial hash value
abbrev pub start_of : List ℕ
start_of = 0x67452301 ∷ 0xefcdab89 ∷ 0x98badcfe ∷ 0x10325476 ∷ 0xc3d2e1f0 ∷ []

-- 6.1.2, step 1: W_t of the words before it, for t from 16
abbrev pub next_word : List ℕ → ℕ → ℕ
next_word w t = rotl 1 (slice_index_or w (t - 3) 0 ⊕ slice_index_or w (t - 8) 0 ⊕ slice_index_or w (t - 14) 0 ⊕ slice_index_or w (t - 16) 0)

-- 6.1.2, step 1: the first 16 + n words of the message schedule, for a block m of sixteen words
unfoldable pub schedule_of : List ℕ → ℕ → List ℕ
schedule_of m zero = m
schedule_of m (suc n) = schedule_of m n ++ (next_word (schedule_of m n) (n + 16) ∷ [])

-- 6.1.2, step 3, on the working variables s = a, b, c, d, e, where f is the value f_t(b, c, d), k is K_t and w is W_t: T, a, ROTL^30(b), c, d
abbrev pub step_with : ℕ → ℕ → List ℕ → ℕ → List ℕ
step_with f k s w =
    rotl 5 (slice_index s 0) ⊞ f ⊞ slice_index_or s 4 0 ⊞ k ⊞ w
    ∷ slice_index s 0
    ∷ rotl 30 (slice_index s 1)
    ∷ slice_index s 2
    ∷ slice_index s 3
    ∷ []

-- 6.1.2, step 3 at t
unfoldable pub step_of : List ℕ → ℕ → ℕ → List ℕ
step_of s t w = step_with (f_of t (slice_index s 1) (slice_index s 2) (slice_index s 3)) (k_of t) s w

-- 6.1.2, step 3 for t from 0 to n - 1, with the schedule w
unfoldable pub steps_of : List ℕ → List ℕ → ℕ → List ℕ
steps_of w s zero = s
steps_of w s (suc n) = step_of (steps_of w s n) n (slice_index w n)

-- 6.1.2, step 4
abbrev pub sum_of : List ℕ → List ℕ → List ℕ
sum_of s h =
    slice_index_or s 0 0 ⊞ slice_index_or h 0 0
    ∷ slice_index_or s 1 0 ⊞ slice_index_or h 1 0
    ∷ slice_index_or s 2 0 ⊞ slice_index_or h 2 0
    ∷ slice_index_or s 3 0 ⊞ slice_index_or h 3 0
    ∷ slice_index_or s 4 0 ⊞ slice_index_or h 4 0
    ∷ []

-- 6.1.2, steps 1 to 4: the hash value after the block m, from h, which the working variables start from (step 2)
unfoldable pub compress_of : List ℕ → List ℕ → List ℕ
compress_of h m = sum_of (steps_of (schedule_of m 64) h 80) h

-- 6.1.2: the hash value after the first n blocks of l, which has at least 64 n bytes, from h
unfoldable pub blocks_of : ℕ → List ℕ → List ℕ → List ℕ
blocks_of zero h l = h
blocks_of (suc n) h l = compress_of (blocks_of n h l) (words_in 16 (drop (64 * n) l))

-- 6.1.2, at its end: the hash value as twenty bytes
abbrev pub digest_of : List ℕ → List ℕ
digest_of h = to_bytes 4 (slice_index h 0) ++ to_bytes 4 (slice_index h 1) ++ to_bytes 4 (slice_index h 2) ++ to_bytes 4 (slice_index h 3) ++ to_bytes 4 (slice_index h 4)

-- 6.1.1 and 6.1.2: SHA-1 of a message
unfoldable pub sha1_of : List ℕ → List ℕ
sha1_of m = digest_of (blocks_of (length (pad_of m) / 64) start_of (pad_of m))
