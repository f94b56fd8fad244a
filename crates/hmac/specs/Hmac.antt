-- RFC 2104, section 2: HMAC with SHA-1, whose blocks are 64 bytes (B) and whose digests 20 (L).
use Rattle.std.specs.Prelude.{List, ◌++◌, ℕ, ◌-◌, leb, length, replicate}
use Rattle.bits.specs.Pick.{pick}
use Rattle.bits.specs.Xor.{xor_pad}
use Rattle.sha1_compress.specs.Hash.{sha1_of}

-- (1): zeros are appended, up to 64 bytes
abbrev pub filled_of : List ℕ → List ℕ
filled_of k = k ++ replicate (64 - length k) 0

-- the 64-byte string of (1), from the key, or from its SHA-1 where the key has more than 64 bytes
unfoldable pub key_block_of : List ℕ → List ℕ
key_block_of k = filled_of (pick (leb (length k) 64) k (sha1_of k))

-- the byte that ipad, and the byte that opad, repeats 64 times
abbrev pub ipad : ℕ
ipad = 0x36

abbrev pub opad : ℕ
opad = 0x5c

-- (2) to (7): H(K XOR opad, H(K XOR ipad, text))
unfoldable pub hmac_of : List ℕ → List ℕ → List ℕ
hmac_of k text = sha1_of (xor_pad (λ i. opad) (key_block_of k) ++ sha1_of (xor_pad (λ i. ipad) (key_block_of k) ++ text))
