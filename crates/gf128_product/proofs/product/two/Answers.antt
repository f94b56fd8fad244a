-- `gf128_product::product::two` meets its contract.
use mathlib.Core.Path.{ap₂, ◌∙◌}
use Prim.Native.Nat.{◌+◌}
use native.Mathlib.Omega.{arith}
use lib.Bits.{bit_xor}
use Rattle.gf128_product.proofs.Groups.{sum-joined}
use Rattle.gf128_product.proofs.product.two.Goals as goal

pub returns : goal.returns
returns c =
    let i = c.args.i in
    λ h t.
    c.xor.ensures
    ∙ ap₂ bit_xor (c.byte-first.ensures h t) (c.byte-second.ensures h t)
    ∙ sum-joined 8 8 i (i + 2) h c.args.w (omega arith)
