-- `aes_tables::claims::inverses_are_inverses`: the test over the S-box has computed each product too.
use mathlib.Core.Path.{◌≡◌, refl, ap, ◌∙◌}
use mathlib.Core.Bool.{Bool}
use Prim.Native.Nat.{ℕ, ◌<◌}
use native.Mathlib.Omega.{arith}
use borrow.Author.Tests.{ne_eqb}
use Rattle.bits.specs.Pick.{pick}
use Rattle.aes_tables.specs.Field.{◌•◌, inverse_of}
use Rattle.aes_tables.proofs.Sbox.{inverse-byte, inverse-product}
use Rattle.aes_tables.proofs.claims.inverses_are_inverses.Goals as goal

zero-stays : inverse_of 0 ≡ 0
unfolding ◌•◌ inverse_of
zero-stays = refl

product : (b : ℕ) → 0 < b → b < 256 → b • inverse_of b ≡ 1
product b h l = inverse-product b l ∙ ap (λ (t : Bool). pick t 0 1) (ne_eqb b 0 (λ e. omega arith))

pub returns : goal.returns
returns c = record { zero-stays = zero-stays; byte = inverse-byte; product = product }
