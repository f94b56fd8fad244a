-- `gf128_product::product::four` meets its contract.
use mathlib.Core.Path.{refl, ap₂, ◌∙◌}
use lib.Bits.{bit_xor}
use Rattle.gf128_product.proofs.Groups.{sum_first}
use Rattle.gf128_product.proofs.product.four.Goals as goal

pub returns : goal.returns
returns c =
    λ h t.
    c.xor.ensures
    ∙ ap₂ bit_xor (c.two-first.ensures h t) (c.two-second.ensures h t)
    ∙ sum_first 16 16 4 h c.args.w refl
