-- The four words that a session keeps are its set of ids.
use mathlib.Core.Path.{◌≡◌, ap, ◌∙◌}
use mathlib.Core.List.{List}
use Prim.Native.Nat.{ℕ, ◌+◌, ◌*◌, ◌/◌, ◌%◌, ◌<◌}
use native.Mathlib.Omega.{arith}
use Rattle.bits.specs.Bits.{is_set, packed}
use Rattle.bits.proofs.Bits.{packed-bit}
use Rattle.bits.proofs.Lists.{tabulate-at}
use Rattle.rtp_elements.specs.Mask.{listed_in}
use Rattle.session.specs.Making.{counts, ids_of}

pub ids-listed : (ids : List ℕ) (id : ℕ) → id < 256 → listed_in (ids_of ids) id ≡ counts ids id
unfolding ids_of
ids-listed ids id h =
    let e : 64 * (id / 64) + id % 64 ≡ id = omega arith in
    ap (λ (w : ℕ). is_set w (id % 64)) (tabulate-at 0 4 (λ j. packed 64 (λ k. counts ids (64 * j + k))) (id / 64) (omega arith))
    ∙ packed-bit 64 (λ k. counts ids (64 * (id / 64) + k)) (id % 64) (omega arith) ∙ ap (counts ids) e
