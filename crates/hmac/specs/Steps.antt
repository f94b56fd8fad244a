-- What the code's own steps mean: the hash values after a key's two blocks, made once (RFC 2104, section 4), and the MAC made from them.
-- The law `KeyStatesGiveTheMac` ties them to HMAC.
use Rattle.std.specs.Prelude.{◌≡◌, List, ℕ}
use Rattle.bits.specs.Xor.{xor_pad}
use Rattle.sha1_compress.specs.Hash.{start_of, blocks_of, digest_of}
use Rattle.sha1_compress.specs.Steps.{hash_from}
use Rattle.hmac.specs.declared.key.KeyStates.{KeyStates}
use Rattle.hmac.specs.Hmac.{key_block_of, ipad, opad, hmac_of}

-- the hash value after a block of 64 bytes, each XORed with x
unfoldable pub state_of : ℕ → List ℕ → List ℕ
state_of x block = blocks_of 1 start_of (xor_pad (λ i. x) block)

-- the inner and the outer state of a block of 64 bytes
abbrev pub states_of : List ℕ → KeyStates
states_of block = record { inner = state_of ipad block; outer = state_of opad block }

-- the states of a key
abbrev pub key_states_of : List ℕ → KeyStates
key_states_of k = states_of (key_block_of k)

-- the MAC, from any two states
unfoldable pub mac_of : KeyStates → List ℕ → List ℕ
mac_of states text = digest_of (hash_from 64 states.outer (digest_of (hash_from 64 states.inner text)))

-- from the states of a key it is HMAC under that key
pub record KeyStatesGiveTheMac : Type 0 where
  pub same : (k text : List ℕ) → mac_of (key_states_of k) text ≡ hmac_of k text
