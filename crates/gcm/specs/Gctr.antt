-- NIST SP 800-38D, sections 6.2 and 6.5: counter blocks, and GCTR with AES-128. A key and a block have sixteen bytes each.
use Rattle.std.specs.Prelude.{List, ◌++◌, ℕ, zero, suc, ◌+◌, ◌/◌, ◌%◌, get_or, take, drop}
use Rattle.bits.specs.BigEndian.{from_bytes, to_bytes}
use Rattle.bits.specs.Xor.{xor_pad}
use Rattle.aes_tables.specs.Cipher.{state_of, bytes_of}
use Rattle.aes_tables.specs.Keys.{aes128_of}

-- section 5.1: CIPH_K, the block cipher under a key
unfoldable pub ciph_of : List ℕ → List ℕ → List ℕ
ciph_of key block = bytes_of (aes128_of (state_of key) (state_of block))

-- 6.2: inc_32, one more in the last four bytes, modulo 2^32
abbrev pub inc32 : List ℕ → List ℕ
inc32 block = take 12 block ++ to_bytes 4 (from_bytes (drop 12 block) + 1)

-- 6.5, algorithm 3, steps 4 and 5: CB_(i+1), from the initial counter block
unfoldable pub counter_of : List ℕ → ℕ → List ℕ
counter_of icb zero = icb
counter_of icb (suc i) = inc32 (counter_of icb i)

-- 6.5, algorithm 3, steps 6 to 8: byte k of what the text is XORed with, and the text so XORed
unfoldable pub gctr_stream : List ℕ → List ℕ → ℕ → ℕ
gctr_stream key icb k = get_or (ciph_of key (counter_of icb (k / 16))) (k % 16) 0

abbrev pub gctr_of : List ℕ → List ℕ → List ℕ → List ℕ
gctr_of key icb x = xor_pad (gctr_stream key icb) x
