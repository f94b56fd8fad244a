-- `cryptex::block::add_block` meets its contract.
use mathlib.Core.Path.{◌≡◌}
use Prim.Native.Nat.{◌+◌, ◌-◌}
use native.Mathlib.Omega.{arith}
use Rattle.cryptex.proofs.Raising.{first-kept, block-added}
use Rattle.cryptex.proofs.block.add_block.Goals as goal

pub overflow_add-buf : goal.overflow_add-buf
overflow_add-buf c =
    let z : c.args.at + 4 - c.args.at ≡ 4 = omega arith in
    let e = first-kept c.args.buf.now c.args.n c.args.at c.requires.0 c.requires.1.0 c.requires.1.1.0 in
    rw (z, c.copy_from_slice.ensures.after, c.raise.ensures) (omega (arith, e, c.requires.1.1.1))

pub returns : goal.returns
returns c =
    let z : c.args.at + 4 - c.args.at ≡ 4 = omega arith in
    rw (z, c.copy_from_slice.ensures.after, c.raise.ensures) (block-added c.args.buf.now c.args.n c.args.at c.requires.0 c.requires.1.0 c.requires.1.1.0)
