-- RFC 3711, section 4.1: keystream and bytes are XORed. Document 02, CR 6: from any byte of the keystream on, for any length.
use Rattle.std.specs.Prelude.{Bool, List, ℕ, ◌+◌, ◌-◌, ◌^◌, ltb, length}
use Rattle.bits.specs.declared.refusal.Refusal.TheVariants.{Large}
use Rattle.bits.specs.Pick.{pick}
use Rattle.bits.specs.Refusals.{number_of}
use Rattle.bits.specs.Xor.{xor_pad}

-- RFC 3711, 4.1.1: at most 2^16 blocks of keystream for one packet index. So its bytes are those from 0 up to but not including this one.
abbrev pub keystream_end : ℕ
keystream_end = 2 ^ 20

-- document 02, CR 6, LARGE: the end of a stretch of n bytes from byte `start` on passes the keystream's
abbrev pub is_large : ℕ → ℕ → Bool
is_large start n = ltb keystream_end (start + n)

-- what is given back: 0 or the number of the refusal, and the bytes
pub record Stretched : Type 0 where
  pub number : ℕ
  pub bytes : List ℕ

-- The keystream from byte `start` on, over a list of bytes. Refused, they stay as they are.
unfoldable pub stretch_by : (ℕ → ℕ) → ℕ → List ℕ → Stretched
stretch_by stream start l =
    pick (is_large start (length l))
    (record { number = number_of Large; bytes = l })
    (record { number = 0; bytes = xor_pad (λ k. stream (start + k)) l })

-- What a stretch XORs onto place i of a longer buffer: the places from a up to but not including e take the keystream from byte o on, and the others 0. LARGE is not
-- asked here.
unfoldable pub stretch_pad : ℕ → ℕ → ℕ → (ℕ → ℕ) → ℕ → ℕ
stretch_pad a e o stream i = pick (ltb i a) 0 (pick (ltb i e) (stream (o + (i - a))) 0)
