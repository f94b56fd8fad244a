-- `gf128_product::product::byte` meets its contract.
use mathlib.Core.Path.{ap₂, ◌∙◌}
use Prim.Native.Nat.{◌+◌}
use native.Mathlib.Omega.{arith}
use lib.Bits.{bit_xor}
use Rattle.gf128_product.proofs.Groups.{sum-joined}
use Rattle.gf128_product.proofs.product.byte.Goals as goal

pub returns : goal.returns
returns c =
    let i = c.args.i in
    λ h t.
    c.xor.ensures
    ∙ ap₂ bit_xor (c.entry-first.ensures h t) (c.entry-second.ensures h t)
    ∙ sum-joined 4 4 i (i + 1) h c.args.b (omega arith)
