-- What is claimed of the definitions themselves.
use Rattle.std.specs.Prelude.{◌≡◌, List, ℕ, ◌+◌, ◌≤◌, ◌<◌, length}
use Rattle.aes.specs.Blocks.{byte_from}
use Rattle.stretches.specs.Stretch.{keystream_end}
use Rattle.gcm_hash.specs.Portion.{outside_of, inside_of}
use Rattle.gcm.specs.Gctr.{inc32, gctr_stream}
use Rattle.gcm.specs.Gcm.{j0_of, crypt_of}
use Rattle.gcm.specs.Steps.{base_of, sealed_of}

-- In place is algorithm 4: the cipher text is that of the portion's bytes, the associated data stays, and the same again gives the buffer back.
pub record InPlace : Type 0 where
  pub inside : (key iv l : List ℕ) (first stop rest : ℕ) → first ≤ stop → stop ≤ rest → rest ≤ length l
      → inside_of first stop rest (sealed_of key iv first stop rest l) ≡ crypt_of key iv (inside_of first stop rest l)
  pub outside : (key iv l : List ℕ) (first stop rest : ℕ) → first ≤ stop → stop ≤ rest → rest ≤ length l
      → outside_of first stop rest (sealed_of key iv first stop rest l) ≡ outside_of first stop rest l
  pub undone : (key iv l : List ℕ) (first stop rest : ℕ) → sealed_of key iv first stop rest (sealed_of key iv first stop rest l) ≡ l

-- Within a packet only the last two bytes of the counter change. So the blocks that AES in counter mode is made of serve GCM as they are: from IV || 0^32 on, number 1
-- hides the hash, and the text begins at number 2.
pub record OneStart : Type 0 where
  pub hash : (key iv : List ℕ) (k : ℕ) → length iv ≡ 12 → k < 16 → gctr_stream key (j0_of iv) k ≡ byte_from key (base_of iv) (16 + k)
  pub text : (key iv : List ℕ) (k : ℕ) → length iv ≡ 12 → 32 + k < keystream_end → gctr_stream key (inc32 (j0_of iv)) k ≡ byte_from key (base_of iv) (32 + k)
