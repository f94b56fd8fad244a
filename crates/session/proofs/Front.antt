-- The fields before the records, read word by word.
use mathlib.Core.Path.{◌≡◌, refl, sym, ap, ap₂, ◌∙◌}
use mathlib.Core.List.{List, []}
use Prim.Native.Nat.{ℕ, ◌+◌, ◌<◌}
use native.Mathlib.Omega.{arith}
use lib.ListN.{length, get_or}
use Rattle.memory.specs.Parts.{part_at, place_in, cut}
use Rattle.memory.specs.Words.{word, bytes_in, five}
use Rattle.memory.proofs.Parts.{field-word, field-read}
use Rattle.packet_cipher.specs.declared.keys.Keys.{Keys}
use Rattle.session.specs.Memory.{setup_layout, the_ids, the_cipher, the_own_salt, the_header_cipher, the_header_salt, the_inner, the_outer, the_hash, setup_at}

keys-cong : {a b c d e f g a' b' c' d' e' f' g' : List ℕ} → a ≡ a' → b ≡ b' → c ≡ c' → d ≡ d' → e ≡ e' → f ≡ f' → g ≡ g'
    → ◌≡◌ {A = Keys} (record { cipher = a; salt = b; header_cipher = c; header_salt = d; auth = record { inner = e; outer = f }; hash = g })
    (record { cipher = a'; salt = b'; header_cipher = c'; header_salt = d'; auth = record { inner = e'; outer = f' }; hash = g' })
keys-cong p q r t u v w = cc

module _ (words : List ℕ) where
  -- the two words of field k
  two-words : (k : ℕ) → k < length setup_layout → get_or setup_layout k 0 ≡ 2 → (f : ℕ → ℕ → List ℕ)
      → f (word words (place_in setup_layout k + 0)) (word words (place_in setup_layout k + 1)) ≡ f (word (get_or (cut setup_layout words) k []) 0) (word (get_or (cut setup_layout words) k []) 1)
  two-words k h e f =
      sym (ap₂ f (field-word setup_layout k 0 words h (omega (arith, e))) (field-word setup_layout k 1 words h (omega (arith, e))))

  pub keys-read : {a b c d e f g : List ℕ}
      → a ≡ bytes_in 16 (word words (place_in setup_layout the_cipher + 0)) (word words (place_in setup_layout the_cipher + 1))
      → b ≡ bytes_in 14 (word words (place_in setup_layout the_own_salt + 0)) (word words (place_in setup_layout the_own_salt + 1))
      → c ≡ bytes_in 16 (word words (place_in setup_layout the_header_cipher + 0)) (word words (place_in setup_layout the_header_cipher + 1))
      → d ≡ bytes_in 14 (word words (place_in setup_layout the_header_salt + 0)) (word words (place_in setup_layout the_header_salt + 1))
      → e ≡ five (part_at (place_in setup_layout the_inner) 5 words)
      → f ≡ five (part_at (place_in setup_layout the_outer) 5 words)
      → g ≡ bytes_in 16 (word words (place_in setup_layout the_hash + 0)) (word words (place_in setup_layout the_hash + 1))
      → ◌≡◌ {A = Keys} (record { cipher = a; salt = b; header_cipher = c; header_salt = d; auth = record { inner = e; outer = f }; hash = g }) (setup_at words).keys
  unfolding setup_at
  keys-read p q r t u v w =
      keys-cong (p ∙ two-words the_cipher (omega arith) refl (bytes_in 16)) (q ∙ two-words the_own_salt (omega arith) refl (bytes_in 14))
      (r ∙ two-words the_header_cipher (omega arith) refl (bytes_in 16)) (t ∙ two-words the_header_salt (omega arith) refl (bytes_in 14))
      (u ∙ ap five (sym (field-read setup_layout the_inner words (omega arith)))) (v ∙ ap five (sym (field-read setup_layout the_outer words (omega arith)))) (w ∙ two-words the_hash (omega arith) refl (bytes_in 16))

  pub ids-read : part_at (place_in setup_layout the_ids) (get_or setup_layout the_ids 0) words ≡ (setup_at words).ids
  unfolding setup_at
  ids-read = sym (field-read setup_layout the_ids words (omega arith))
