-- `gf128::block::Block::xor` meets its contract.
use mathlib.Core.Path.{sym}
use Prim.Native.Nat.{◌^◌, ◌<◌}
use borrow.Author.Rules.{rules}
use lib.Bits.{xor_block}
use Rattle.gf128.proofs.block.Block.xor.Goals as goal

pub returns : goal.returns
returns c =
    let g = c.args in
    let h : g.self.low < 2 ^ 64 = search rules in
    let k : g.other.low < 2 ^ 64 = search rules in
    sym (xor_block 64 g.self.high g.other.high g.self.low g.other.low h k)
