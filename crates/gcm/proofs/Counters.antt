-- The counter blocks of an IV: one more in each, which is what the cipher's border puts into the last two bytes.
use mathlib.Core.Path.{◌≡◌, refl, sym, ap, ap₂, ◌∙◌}
use mathlib.Core.List.{List, [], ◌∷◌, ◌++◌}
use Prim.Native.Nat.{ℕ, zero, suc, ◌+◌, ◌-◌, ◌*◌, ◌/◌, ◌%◌, ◌^◌, ◌≤◌, ◌<◌}
use native.Mathlib.Omega.{arith}
use lib.ListN.{length, get_or, replicate}
use lib.Seq.{take_at, drop_at}
use Rattle.bits.specs.BigEndian.{from_bytes, to_bytes, byte_of}
use Rattle.bits.specs.Lists.{tabulate}
use Rattle.bits.specs.Xor.{xor_pad}
use Rattle.bits.proofs.BigEndian.{from-to, to_low}
use Rattle.bits.proofs.Lists.{tabulated}
use Rattle.bits.proofs.Xor.{pad-ext}
use Rattle.aes.specs.Blocks.{numbered_of, block_from, byte_from}
use Rattle.aes.proofs.Borders.{block-of, byte-of}
use Rattle.aes_counter.specs.Keystream.{iv_of as iv_of_counter, counter_of as input_of, block_of, keystream_of}
use Rattle.stretches.specs.Stretch.{keystream_end}
use Rattle.keystream.specs.Stretch.{stretch_of}
use Rattle.aes_cm.specs.Portion.{portion_pad}
use Rattle.aes_cm.specs.Derivation.{derived_of}
use Rattle.aes_cm.proofs.Portions.{past-gap}
use Rattle.aes_cm.proofs.Streams.{portion-is}
use Rattle.aes_cm.proofs.Derived.{derived-is}
use Rattle.gcm_hash.specs.Hash.{hash_of}
use Rattle.gcm.specs.Gctr.{ciph_of, inc32, counter_of, gctr_stream, gctr_of}
use Rattle.gcm.specs.Gcm.{subkey_of, j0_of, tag_by}
use Rattle.gcm.specs.Steps.{base_of, sealed_of}

abbrev twelve : List ℕ → List ℕ
twelve iv = tabulate 12 (λ i. get_or iv i 0)

pub base-is : (iv : List ℕ) → length iv ≡ 12 → twelve iv ++ (0 ∷ 0 ∷ 0 ∷ 0 ∷ []) ≡ base_of iv
base-is iv n = ap base_of (tabulated 0 12 iv n)

-- ---- the number of a block in the last four bytes

twelve-numbered : (iv : List ℕ) (j : ℕ) → j < 2 ^ 16 → numbered_of (base_of (twelve iv)) j ≡ twelve iv ++ to_bytes 4 j
twelve-numbered iv j h =
    let u : 0 ≡ byte_of 3 j = omega arith in
    let v : 0 ≡ byte_of 2 j = omega arith in
    ap₂ (λ (x y : ℕ). twelve iv ++ (x ∷ y ∷ to_bytes 2 j)) u v

numbered : (iv : List ℕ) (j : ℕ) → length iv ≡ 12 → j < 2 ^ 16 → numbered_of (base_of iv) j ≡ iv ++ to_bytes 4 j
numbered iv j n h =
    let e = tabulated 0 12 iv n in
    ap (λ (l : List ℕ). numbered_of (base_of l) j) (sym e) ∙ twelve-numbered iv j h ∙ ap (λ (l : List ℕ). l ++ to_bytes 4 j) e

-- one more in the last four bytes
inc_is : (iv : List ℕ) (m : ℕ) → length iv ≡ 12 → inc32 (iv ++ to_bytes 4 m) ≡ iv ++ to_bytes 4 (suc m)
inc_is iv m n =
    let x = to_bytes 4 m in
    let e : (m % 2 ^ 32 + 1) % 2 ^ 32 ≡ suc m % 2 ^ 32 = omega arith in
    ap₂ (λ (a b : List ℕ). a ++ to_bytes 4 (from_bytes b + 1)) (take_at iv x 12 n) (drop_at iv x 12 n)
    ∙ ap (λ (k : ℕ). iv ++ to_bytes 4 (k + 1)) (from-to 4 m)
    ∙ ap (λ (l : List ℕ). iv ++ l) (to_low 4 (m % 2 ^ 32 + 1) (suc m) e)

counter-from : (iv : List ℕ) (m i : ℕ) → length iv ≡ 12 → counter_of (iv ++ to_bytes 4 m) i ≡ iv ++ to_bytes 4 (m + i)
unfolding counter_of
counter-from iv m zero n = let e : m ≡ m + 0 = omega arith in ap (λ (k : ℕ). iv ++ to_bytes 4 k) e
counter-from iv m (suc i) n =
    let e : suc (m + i) ≡ m + suc i = omega arith in
    ap inc32 (counter-from iv m i n) ∙ inc_is iv (m + i) n ∙ ap (λ (k : ℕ). iv ++ to_bytes 4 k) e

-- ---- the bytes of the blocks, from number m on

module _ (key iv : List ℕ) (n : length iv ≡ 12) where
  block-is : (j : ℕ) → j < 2 ^ 16 → block_from key (base_of iv) j ≡ ciph_of key (iv ++ to_bytes 4 j)
  unfolding ciph_of
  block-is j h = block-of key (base_of iv) (iv ++ to_bytes 4 j) j (numbered iv j n h)

  stream-from : (m k : ℕ) → m + k / 16 < 2 ^ 16 → gctr_stream key (iv ++ to_bytes 4 m) k ≡ byte_from key (base_of iv) (16 * m + k)
  unfolding gctr_stream
  stream-from m k h =
      let q : m + k / 16 ≡ (16 * m + k) / 16 = omega arith in
      let r : k % 16 ≡ (16 * m + k) % 16 = omega arith in
      ap (λ (l : List ℕ). get_or (ciph_of key l) (k % 16) 0) (counter-from iv m (k / 16) n)
      ∙ ap (λ (l : List ℕ). get_or l (k % 16) 0) (sym (block-is (m + k / 16) h))
      ∙ ap₂ (λ (x y : ℕ). get_or (block_from key (base_of iv) x) y 0) q r
      ∙ sym (byte-of key (base_of iv) (16 * m + k))

  pub hash-is : (k : ℕ) → k < 16 → gctr_stream key (j0_of iv) k ≡ byte_from key (base_of iv) (16 + k)
  hash-is k h = stream-from 1 k (omega arith)

  pub text-is : (k : ℕ) → 32 + k < keystream_end → gctr_stream key (inc32 (j0_of iv)) k ≡ byte_from key (base_of iv) (32 + k)
  text-is k h = ap (λ (l : List ℕ). gctr_stream key l k) (inc_is iv 1 n) ∙ stream-from 2 k (omega arith)

-- ---- what the code XORs, from the block IV || 0^32 on

module _ (key iv : List ℕ) (n : length iv ≡ 12) where
  -- onto the portion, from byte 32 on
  pub sealed-is : (l m : List ℕ) (first stop rest : ℕ) → first ≤ stop → stop ≤ rest → 32 + length l ≤ keystream_end
      → m ≡ xor_pad (portion_pad first stop rest (λ k. byte_from key (base_of iv) (32 + k))) l → m ≡ sealed_of key iv first stop rest l
  sealed-is l m first stop rest up on b e =
      portion-is (λ k. byte_from key (base_of iv) (32 + k)) (gctr_stream key (inc32 (j0_of iv))) first stop rest l m up on
      (λ k h. sym (text-is key iv n k (omega arith))) e

  -- onto the hash, from byte 16 on: all of it is the portion
  pub hidden-is : (s r : List ℕ) → length s ≡ 16 → r ≡ xor_pad (portion_pad 0 0 0 (λ k. byte_from key (base_of iv) (16 + k))) s → r ≡ gctr_of key (j0_of iv) s
  hidden-is s r k e =
      e
      ∙ pad-ext (portion_pad 0 0 0 (λ i. byte_from key (base_of iv) (16 + i))) (gctr_stream key (j0_of iv)) s
      (λ i b. past-gap 0 0 0 (λ j. byte_from key (base_of iv) (16 + j)) i (omega arith) (omega arith) (omega arith)
      ∙ (let z : 0 - 0 + (i - 0) ≡ i = omega arith in ap (λ (j : ℕ). byte_from key (base_of iv) (16 + j)) z) ∙ sym (hash-is key iv n i (omega arith)))

pub tagged : (key iv h s r a c : List ℕ) → s ≡ hash_of (from_bytes h) a c → r ≡ gctr_of key (j0_of iv) s → r ≡ tag_by key h iv a c
unfolding tag_by
tagged key iv h s r a c es er = er ∙ ap (gctr_of key (j0_of iv)) es

-- ---- the hash subkey: the keystream of zeros, on zeros

zeros-block : (key : List ℕ) → block_of key (replicate 14 0) 0 0 0 ≡ subkey_of key
unfolding block_of input_of iv_of_counter subkey_of ciph_of
zeros-block key = refl

pub subkey-is : (key m : List ℕ) → m ≡ (stretch_of key (replicate 14 0) 0 0 0 (replicate 16 0)).bytes → m ≡ subkey_of key
unfolding derived_of keystream_of subkey_of ciph_of
subkey-is key m e =
    derived-is key (replicate 14 0) 0 (replicate 16 0) m refl (omega arith) e
    ∙ ap (λ (b : List ℕ). tabulate 16 (λ k. get_or b k 0)) (zeros-block key)
    ∙ tabulated 0 16 (subkey_of key) refl
