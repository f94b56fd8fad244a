-- NIST SP 800-38D, section 7: GCM with AES-128, an IV of 96 bits and a tag of 128.
use Rattle.std.specs.Prelude.{List, [], ◌∷◌, ◌++◌, ℕ, replicate}
use Rattle.bits.specs.BigEndian.{from_bytes}
use Rattle.gcm_hash.specs.Hash.{hash_of}
use Rattle.gcm.specs.Gctr.{ciph_of, inc32, gctr_of}

-- 7.1, algorithm 4, step 1: the hash subkey H, as sixteen bytes
unfoldable pub subkey_of : List ℕ → List ℕ
subkey_of key = ciph_of key (replicate 16 0)

-- step 2: J_0
abbrev pub j0_of : List ℕ → List ℕ
j0_of iv = iv ++ (0 ∷ 0 ∷ 0 ∷ 1 ∷ [])

-- step 3, and algorithm 5, step 4: the cipher text of a plain text, and back
abbrev pub crypt_of : List ℕ → List ℕ → List ℕ → List ℕ
crypt_of key iv p = gctr_of key (inc32 (j0_of iv)) p

-- steps 4 and 5 are `hash_of`, of gcm_hash

-- steps 4 to 6, and algorithm 5, steps 5 to 7: the tag, with the bytes h for the hash subkey, which is made once for a session and kept beside the key
unfoldable pub tag_by : List ℕ → List ℕ → List ℕ → List ℕ → List ℕ → List ℕ
tag_by key h iv a c = gctr_of key (j0_of iv) (hash_of (from_bytes h) a c)

-- the same with the standard's hash subkey
unfoldable pub tag_of : List ℕ → List ℕ → List ℕ → List ℕ → List ℕ
tag_of key iv a c = tag_by key (subkey_of key) iv a c
