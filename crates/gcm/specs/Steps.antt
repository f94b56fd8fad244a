-- What the code's own steps mean. Nothing here is the standard's.
use Rattle.std.specs.Prelude.{List, [], ◌∷◌, ◌++◌, ℕ}
use Rattle.bits.specs.Xor.{xor_pad}
use Rattle.aes_cm.specs.Portion.{portion_pad}
use Rattle.gcm.specs.Gctr.{inc32, gctr_stream}
use Rattle.gcm.specs.Gcm.{j0_of}

-- the block that all counter blocks of an IV are numbered from: IV || 0^32
abbrev pub base_of : List ℕ → List ℕ
base_of iv = iv ++ (0 ∷ 0 ∷ 0 ∷ 0 ∷ [])

-- a buffer with its portion encrypted in place
abbrev pub sealed_of : List ℕ → List ℕ → ℕ → ℕ → ℕ → List ℕ → List ℕ
sealed_of key iv first stop rest l = xor_pad (portion_pad first stop rest (gctr_stream key (inc32 (j0_of iv)))) l
