-- RFC 7714, section 8.1: the IV of an SRTP packet.
use Rattle.std.specs.Prelude.{List, ◌∷◌, ◌++◌, ℕ}
use Rattle.bits.specs.BigEndian.{to_bytes}
use Rattle.bits.specs.Xor.{xor_list}

-- The salt of twelve bytes XOR: two zero bytes, the SSRC, and the rollover counter and the sequence number, which are the packet index, below 2^48. Another index has
-- the IV of its low 48 bits, which is another packet's: who calls `gcm_iv::iv::iv` keeps it away, as the packet calls do.
abbrev pub iv_of : List ℕ → ℕ → ℕ → List ℕ
iv_of salt ssrc index = xor_list salt (0 ∷ 0 ∷ (to_bytes 4 ssrc ++ to_bytes 6 index))
