-- Ch and Maj in fewer operations.
use mathlib.Core.Path.{◌≡◌, sym, ap, ap₂, ◌∙◌}
use Prim.Native.Nat.{ℕ, ◌-◌, ◌^◌, ◌<◌}
use native.Mathlib.Nat.{mod-eq_of_lt}
use native.Mathlib.Omega.{arith}
use lib.Bits.{bit_and, bit_xor, and_comm, and_mask, xor_add_and, xor_comm}
use Rattle.bits.specs.Xor.{◌⊕◌}
use Rattle.bits.proofs.Xor.{xor_assoc, and_xor}
use Rattle.sha1_words.specs.Words.{not32, ch_of, maj_of}

-- an inverted word is the word with all bits changed
not-xor : (x : ℕ) → x < 2 ^ 32 → not32 x ≡ x ⊕ (2 ^ 32 - 1)
not-xor x h =
    let m : bit_and x (2 ^ 32 - 1) ≡ x = and_mask x 32 ∙ mod-eq_of_lt h in
    omega (arith, xor_add_and x (2 ^ 32 - 1))

and-not : (x z : ℕ) → x < 2 ^ 32 → z < 2 ^ 32 → bit_and (not32 x) z ≡ z ⊕ bit_and x z
and-not x z hx hz =
    ap (λ (n : ℕ). bit_and n z) (not-xor x hx)
    ∙ and_comm (x ⊕ (2 ^ 32 - 1)) z
    ∙ and_xor z x (2 ^ 32 - 1)
    ∙ ap₂ bit_xor (and_comm z x) (and_mask z 32 ∙ mod-eq_of_lt hz)
    ∙ xor_comm (bit_and x z) z

pub ch-short : (x y z : ℕ) → x < 2 ^ 32 → z < 2 ^ 32 → z ⊕ bit_and x (y ⊕ z) ≡ ch_of x y z
ch-short x y z hx hz =
    ap (bit_xor z) (and_xor x y z ∙ xor_comm (bit_and x y) (bit_and x z))
    ∙ sym (xor_assoc z (bit_and x z) (bit_and x y))
    ∙ xor_comm (z ⊕ bit_and x z) (bit_and x y)
    ∙ ap (bit_xor (bit_and x y)) (sym (and-not x z hx hz))

pub maj-short : (x y z : ℕ) → bit_and x y ⊕ bit_and z (x ⊕ y) ≡ maj_of x y z
maj-short x y z =
    ap (bit_xor (bit_and x y)) (and_xor z x y ∙ ap₂ bit_xor (and_comm z x) (and_comm z y))
    ∙ sym (xor_assoc (bit_and x y) (bit_and x z) (bit_and y z))
