-- `gf128_product::product::more` meets its contract.
use mathlib.Core.Path.{ap₂, ◌∙◌}
use lib.Bits.{bit_xor}
use Rattle.gf128.specs.Steps.{value_of}
use Rattle.gf128_product.proofs.Groups.{more-is}
use Rattle.gf128_product.proofs.product.more.Goals as goal

pub returns : goal.returns
returns c =
    λ h t. c.xor.ensures ∙ ap₂ bit_xor c.moved.ensures (c.four.ensures h t) ∙ more-is 32 h (value_of c.args.z) c.args.w
