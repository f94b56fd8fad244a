-- RFC 3711, section 4.1.1: the keystream of AES in counter mode. Keys, salts and blocks are lists of bytes.
use Rattle.std.specs.Prelude.{List, ℕ, ◌+◌, ◌*◌, ◌/◌, ◌%◌, ◌^◌, get_or}
use Rattle.bits.specs.BigEndian.{from_bytes, to_bytes}
use Rattle.bits.specs.Xor.{◌⊕◌}
use Rattle.aes_tables.specs.Cipher.{state_of, bytes_of}
use Rattle.aes_tables.specs.Keys.{aes128_of}

-- IV = (k_s * 2^16) XOR (SSRC * 2^64) XOR (i * 2^16), with the salt k_s of 14 bytes and the SSRC below 2^32. The index i of a packet is below 2^48.
-- The equation has a value for every other number too: a 64-bit one from 2^48 on reaches into the SSRC, and its value is that of another SSRC's packet.
unfoldable pub iv_of : List ℕ → ℕ → ℕ → ℕ
iv_of salt ssrc i = (from_bytes salt * 2 ^ 16) ⊕ (ssrc * 2 ^ 64) ⊕ (i * 2 ^ 16)

-- The input of block j is IV + j modulo 2^128. The low 16 bits of IV are 0, so below block 2^16 nothing is carried out of them.
-- From block 2^16 on a carry would change the bits above, which hold salt and index: RFC 3711 allows at most 2^16 blocks for one IV.
unfoldable pub counter_of : List ℕ → ℕ → ℕ → ℕ → List ℕ
counter_of salt ssrc i j = to_bytes 16 (iv_of salt ssrc i + j)

unfoldable pub block_of : List ℕ → List ℕ → ℕ → ℕ → ℕ → List ℕ
block_of key salt ssrc i j = bytes_of (aes128_of (state_of key) (state_of (counter_of salt ssrc i j)))

-- byte k of the keystream
unfoldable pub keystream_of : List ℕ → List ℕ → ℕ → ℕ → ℕ → ℕ
keystream_of key salt ssrc i k = get_or (block_of key salt ssrc i (k / 16)) (k % 16) 0
