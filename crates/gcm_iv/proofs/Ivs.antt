-- The IV of a packet, byte by byte.
use mathlib.Core.Path.{◌≡◌, sym, ap, ap₂, ◌∙◌}
use mathlib.Core.List.{List, [], ◌∷◌}
use Prim.Native.Nat.{ℕ}
use lib.Bits.{xor_zero_r}
use lib.ListN.{length, get_or, drop}
use Rattle.bits.specs.BigEndian.{to_bytes}
use Rattle.bits.specs.Lists.{tabulate}
use Rattle.bits.specs.Xor.{◌⊕◌}
use Rattle.bits.proofs.Lists.{tabulated}
use Rattle.gcm_iv.specs.Srtp.{iv_of}

pub iv-is : (salt q i : List ℕ) (ssrc index : ℕ) → length salt ≡ 12 → q ≡ to_bytes 4 ssrc → i ≡ to_bytes 8 index
    → get_or salt 0 0 ∷ get_or salt 1 0 ∷ get_or salt 2 0 ⊕ get_or q 0 0 ∷ get_or salt 3 0 ⊕ get_or q 1 0 ∷ get_or salt 4 0 ⊕ get_or q 2 0 ∷ get_or salt 5 0 ⊕ get_or q 3 0
    ∷ get_or salt 6 0 ⊕ get_or i 2 0 ∷ get_or salt 7 0 ⊕ get_or i 3 0 ∷ get_or salt 8 0 ⊕ get_or i 4 0 ∷ get_or salt 9 0 ⊕ get_or i 5 0 ∷ get_or salt 10 0 ⊕ get_or i 6 0 ∷ get_or salt 11 0 ⊕ get_or i 7 0 ∷ []
    ≡ iv_of salt ssrc index
iv-is salt q i ssrc index n eq ei =
    rw (eq, ei)
    (ap₂ (λ (a b : ℕ). a ∷ b ∷ drop 2 (iv_of (tabulate 12 (λ k. get_or salt k 0)) ssrc index)) (sym (xor_zero_r (get_or salt 0 0))) (sym (xor_zero_r (get_or salt 1 0)))
    ∙ ap (λ (l : List ℕ). iv_of l ssrc index) (tabulated 0 12 salt n))
