-- The border of the cipher: what a key and a starting block give, block by block. Counter mode needs no more of AES-128.
use Rattle.std.specs.Prelude.{List, [], ◌++◌, ℕ, ◌/◌, ◌%◌, get_or}
use Rattle.bits.specs.BigEndian.{to_bytes}
use Rattle.bits.specs.Lists.{tabulate}
use Rattle.aes_tables.specs.Cipher.{state_of, bytes_of, add_round_key}
use Rattle.aes_tables.specs.Keys.{round_keys_of, aes128_of}
use Rattle.aes_begin.specs.Steps.{Begins}
use Rattle.aes_begin.specs.declared.begin.Begun.{Begun}

-- a starting block with the number j, below 2^16, in its last two bytes
abbrev pub numbered_of : List ℕ → ℕ → List ℕ
numbered_of start j = tabulate 14 (λ k. get_or start k 0) ++ to_bytes 2 j

-- block number j under a key: AES-128 of the starting block with that number
unfoldable pub block_from : List ℕ → List ℕ → ℕ → List ℕ
block_from key start j = bytes_of (aes128_of (state_of key) (state_of (numbered_of start j)))

-- byte k of the blocks in a row, from number 0 on, k below 2^20
unfoldable pub byte_from : List ℕ → List ℕ → ℕ → ℕ
byte_from key start k = get_or (block_from key start (k / 16)) (k % 16) 0

-- ---- for the code: what stands behind the border

-- what was begun is of this key and this starting block
abbrev pub Started : List ℕ → List ℕ → Begun → Type 0
Started key block begun =
    let keys = round_keys_of (state_of key) in
    Begins (add_round_key (state_of block) (get_or keys 0 [])) (get_or keys 1 []) (get_or keys 2 []) begun
