-- The counter block, byte by byte, and the keystream from the first one.
use mathlib.Core.Path.{◌≡◌, sym, ap, ap₂, ◌∙◌}
use mathlib.Core.List.{List, [], ◌∷◌, ◌++◌}
use Prim.Native.Nat.{ℕ, ◌+◌, ◌*◌, ◌/◌, ◌%◌, ◌^◌, ◌<◌}
use native.Mathlib.Nat.{zero-mul, zero-add}
use native.Mathlib.Omega.{arith}
use lib.Bits.{xor_zero_r}
use lib.Dec.{T}
use lib.ListN.{length, get_or}
use lib.Pow.{are_bytes}
use Rattle.bits.specs.BigEndian.{byte_of, from_bytes, to_bytes}
use Rattle.bits.specs.Lists.{tabulate}
use Rattle.bits.specs.Xor.{◌⊕◌, xor_list}
use Rattle.bits.proofs.BigEndian.{to-append, to-from}
use Rattle.bits.proofs.Lists.{tabulated}
use Rattle.bits.proofs.Xor.{xor-shift, to-xor}
use Rattle.stretches.specs.Stretch.{keystream_end}
use Rattle.aes.specs.Blocks.{numbered_of, block_from, byte_from}
use Rattle.aes.proofs.Borders.{block-of, byte-of}
use Rattle.aes_counter.specs.Keystream.{iv_of, counter_of, block_of, keystream_of}

-- a number with zero bytes above it
low-bytes : (m n y : ℕ) → y < 2 ^ (8 * n) → to_bytes (m + n) y ≡ to_bytes m 0 ++ to_bytes n y
low-bytes m n y h = ap (to_bytes (m + n)) (sym (ap (λ (z : ℕ). z + y) (zero-mul (2 ^ (8 * n))) ∙ zero-add y)) ∙ to-append m n 0 y h

ssrc-bytes : (q : ℕ) → q < 2 ^ 32 → to_bytes 14 (q * 2 ^ 48) ≡ 0 ∷ 0 ∷ 0 ∷ 0 ∷ (to_bytes 4 q ++ (0 ∷ 0 ∷ 0 ∷ 0 ∷ 0 ∷ 0 ∷ []))
ssrc-bytes q h =
    let e : q * 2 ^ 48 ≡ q * 2 ^ 48 + 0 = omega arith in
    ap (to_bytes 14) e ∙ to-append 8 6 q 0 (omega arith) ∙ ap (λ (l : List ℕ). l ++ to_bytes 6 0) (low-bytes 4 4 q h)

module _ (salt : List ℕ) (ssrc i j : ℕ) (n : length salt ≡ 14) (b : T (are_bytes salt)) (hq : ssrc < 2 ^ 32) (hi : i < 2 ^ 64) (hj : j < 2 ^ 16) where
  packed : iv_of salt ssrc i + j ≡ (from_bytes salt ⊕ (ssrc * 2 ^ 48) ⊕ i) * 2 ^ 16 + j
  unfolding iv_of
  packed =
      let e : ssrc * 2 ^ 64 ≡ ssrc * 2 ^ 48 * 2 ^ 16 = omega arith in
      ap (λ (v : ℕ). v + j)
      (ap (λ (v : ℕ). (from_bytes salt * 2 ^ 16) ⊕ v ⊕ (i * 2 ^ 16)) e
      ∙ ap (λ (v : ℕ). v ⊕ (i * 2 ^ 16)) (xor-shift 16 (from_bytes salt) (ssrc * 2 ^ 48))
      ∙ xor-shift 16 (from_bytes salt ⊕ (ssrc * 2 ^ 48)) i)

  salted : to_bytes 14 (from_bytes salt) ≡ tabulate 14 (λ k. get_or salt k 0)
  salted = ap (λ (k : ℕ). to_bytes k (from_bytes salt)) (sym n) ∙ to-from salt b ∙ sym (tabulated 0 14 salt n)

  pub counter-is : counter_of salt ssrc i j
      ≡ get_or salt 0 0 ∷ get_or salt 1 0 ∷ get_or salt 2 0 ∷ get_or salt 3 0
      ∷ get_or salt 4 0 ⊕ byte_of 3 ssrc ∷ get_or salt 5 0 ⊕ byte_of 2 ssrc ∷ get_or salt 6 0 ⊕ byte_of 1 ssrc ⊕ byte_of 7 i ∷ get_or salt 7 0 ⊕ byte_of 0 ssrc ⊕ byte_of 6 i
      ∷ get_or salt 8 0 ⊕ byte_of 5 i ∷ get_or salt 9 0 ⊕ byte_of 4 i ∷ get_or salt 10 0 ⊕ byte_of 3 i ∷ get_or salt 11 0 ⊕ byte_of 2 i
      ∷ get_or salt 12 0 ⊕ byte_of 1 i ∷ get_or salt 13 0 ⊕ byte_of 0 i ∷ byte_of 1 j ∷ byte_of 0 j ∷ []
  unfolding counter_of
  counter-is =
      ap (to_bytes 16) packed
      ∙ to-append 14 2 (from_bytes salt ⊕ (ssrc * 2 ^ 48) ⊕ i) j hj
      ∙ ap (λ (l : List ℕ). l ++ to_bytes 2 j)
      (to-xor 14 (from_bytes salt ⊕ (ssrc * 2 ^ 48)) i
      ∙ ap (λ (l : List ℕ). xor_list l (to_bytes 14 i)) (to-xor 14 (from_bytes salt) (ssrc * 2 ^ 48) ∙ ap₂ xor_list salted (ssrc-bytes ssrc hq))
      ∙ ap (λ (u : List ℕ). xor_list (xor_list (tabulate 14 (λ k. get_or salt k 0)) (0 ∷ 0 ∷ 0 ∷ 0 ∷ (to_bytes 4 ssrc ++ (0 ∷ 0 ∷ 0 ∷ 0 ∷ 0 ∷ 0 ∷ [])))) u) (low-bytes 6 8 i hi))
      ∙ simp xor_zero_r

-- as the code makes the first one
pub iv-is : (salt q i8 : List ℕ) (ssrc i : ℕ) → length salt ≡ 14 → T (are_bytes salt) → ssrc < 2 ^ 32 → i < 2 ^ 64 → q ≡ to_bytes 4 ssrc → i8 ≡ to_bytes 8 i
    → get_or salt 0 0 ∷ get_or salt 1 0 ∷ get_or salt 2 0 ∷ get_or salt 3 0
    ∷ get_or salt 4 0 ⊕ get_or q 0 0 ∷ get_or salt 5 0 ⊕ get_or q 1 0 ∷ get_or salt 6 0 ⊕ get_or q 2 0 ⊕ get_or i8 0 0 ∷ get_or salt 7 0 ⊕ get_or q 3 0 ⊕ get_or i8 1 0
    ∷ get_or salt 8 0 ⊕ get_or i8 2 0 ∷ get_or salt 9 0 ⊕ get_or i8 3 0 ∷ get_or salt 10 0 ⊕ get_or i8 4 0 ∷ get_or salt 11 0 ⊕ get_or i8 5 0
    ∷ get_or salt 12 0 ⊕ get_or i8 6 0 ∷ get_or salt 13 0 ⊕ get_or i8 7 0 ∷ 0 ∷ 0 ∷ []
    ≡ counter_of salt ssrc i 0
iv-is salt q i8 ssrc i n b hq hi eq ei = rw (eq, ei) (sym (counter-is salt ssrc i 0 n b hq hi (omega arith)))

-- ---- the keystream, by the cipher's blocks from the first counter block

module _ (key salt : List ℕ) (ssrc i : ℕ) (n : length salt ≡ 14) (b : T (are_bytes salt)) (hq : ssrc < 2 ^ 32) (hi : i < 2 ^ 64) where
  -- block j's counter differs from the first in the last two bytes, which are its number
  numbered : (j : ℕ) → j < 2 ^ 16 → numbered_of (counter_of salt ssrc i 0) j ≡ counter_of salt ssrc i j
  numbered j hj =
      ap (λ (l : List ℕ). numbered_of l j) (counter-is salt ssrc i 0 n b hq hi (omega arith))
      ∙ sym (counter-is salt ssrc i j n b hq hi hj)

  block-is : (j : ℕ) → j < 2 ^ 16 → block_from key (counter_of salt ssrc i 0) j ≡ block_of key salt ssrc i j
  unfolding block_of
  block-is j h = block-of key (counter_of salt ssrc i 0) (counter_of salt ssrc i j) j (numbered j h)

  pub byte-is : (k : ℕ) → k < keystream_end → byte_from key (counter_of salt ssrc i 0) k ≡ keystream_of key salt ssrc i k
  unfolding keystream_of
  byte-is k h = byte-of key (counter_of salt ssrc i 0) k ∙ ap (λ (l : List ℕ). get_or l (k % 16) 0) (block-is (k / 16) (omega arith))
