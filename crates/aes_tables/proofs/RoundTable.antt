-- The round table: its rule at each byte of each entry, from the rule of the S-box, and the columns that are read from an entry.
use mathlib.Core.Path.{◌≡◌, ap, ap₂, ◌∙◌}
use mathlib.Core.List.{List, [], ◌∷◌}
use Prim.Native.Nat.{ℕ, ◌+◌, ◌-◌, ◌*◌, ◌/◌, ◌%◌, ◌<◌}
use native.Mathlib.Omega.{arith}
use lib.Dec.{T, eqb}
use lib.ListN.{length, get_or}
use Rattle.bits.proofs.Table.{every, rule}
use Rattle.aes_tables.specs.Cipher.{sbox_of}
use Rattle.aes_tables.specs.Tables.{row0_of, row_of, RoundTable}
use Rattle.aes_tables.proofs.Words.{cons4}
use Rattle.aes_tables.proofs.Sbox.{sbox_list, sbox-rule}

-- each byte is that multiple of the S-box's entry: a test that antt computes
abbrev pub Entries : List ℕ → Type 0
Entries xs = T (every (λ n x. eqb x (get_or (row0_of (get_or sbox_list (n / 8) 0)) (n % 8 % 4) 0)) 0 xs)

pub entries : (xs : List ℕ) → length xs ≡ 2048 → Entries xs → RoundTable xs
entries xs e t =
    record {
      entry = λ k i h l.
          let n : 8 * k + i < length xs = omega arith in
          let q : (8 * k + i) / 8 ≡ k = omega arith in
          let r : (8 * k + i) % 8 ≡ i = omega arith in
          rule (λ x. x) (λ m. get_or (row0_of (get_or sbox_list (m / 8) 0)) (m % 8 % 4) 0) xs t (8 * k + i) n
          ∙ ap₂ (λ (a b : ℕ). get_or (row0_of (get_or sbox_list a 0)) (b % 4) 0) q r
          ∙ ap (λ (s : ℕ). get_or (row0_of s) (i % 4) 0) (sbox-rule.entry k h);
    }

module _ (t : List ℕ) (h : RoundTable t) (x : ℕ) (l : x < 256) where
  -- byte i of an entry, read as byte j of a column that begins at byte d
  byte : (d j : ℕ) → d + j < 8 → get_or t (8 * x + d + j) 0 ≡ get_or (row0_of (sbox_of x)) ((d + j) % 4) 0
  byte d j b = let e : 8 * x + d + j ≡ 8 * x + (d + j) = omega arith in ap (λ (m : ℕ). get_or t m 0) e ∙ h.entry x (d + j) l b

  -- four bytes of an entry, from where row r begins
  pub read : (r : ℕ) → r < 4
      → let a = 8 * x + (4 - r) % 4 in get_or t a 0 ∷ get_or t (a + 1) 0 ∷ get_or t (a + 2) 0 ∷ get_or t (a + 3) 0 ∷ [] ≡ row_of r (sbox_of x)
  read r b =
      let d = (4 - r) % 4 in
      let at : (j : ℕ) → j < 4 → get_or t (8 * x + d + j) 0 ≡ get_or (row0_of (sbox_of x)) ((j + (4 - r)) % 4) 0 = λ j k.
      let e : (d + j) % 4 ≡ (j + (4 - r)) % 4 = omega arith in
      byte d j (omega arith) ∙ ap (λ (m : ℕ). get_or (row0_of (sbox_of x)) m 0) e in
      let z : 8 * x + d ≡ 8 * x + d + 0 = omega arith in
      cons4 (ap (λ (m : ℕ). get_or t m 0) z ∙ at 0 (omega arith)) (at 1 (omega arith)) (at 2 (omega arith)) (at 3 (omega arith))
