-- `gf128::block::Block::to_be_bytes` meets its contract.
use Prim.Native.Nat.{◌^◌, ◌<◌}
use borrow.Author.Rules.{rules}
use Rattle.gf128.proofs.Reading.{block_written}
use Rattle.gf128.proofs.block.Block.to_be_bytes.Goals as goal

pub returns : goal.returns
returns c =
    let g = c.args in
    let h : g.self.low < 2 ^ 64 = search rules in
    block_written c.write64-x.result c.write64-y.result g.self.high g.self.low h c.write64-x.ensures c.write64-y.ensures
