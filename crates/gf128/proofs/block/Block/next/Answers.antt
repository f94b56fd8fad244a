-- `gf128::block::Block::next` meets its contract.
use Prim.Native.Nat.{◌^◌, ◌<◌}
use native.Mathlib.Omega.{arith}
use borrow.Author.Rules.{rules}
use Rattle.gf128.proofs.Halves.{next-halves}
use Rattle.gf128.proofs.block.Block.next.Goals as goal

pub overflow_add-result : goal.overflow_add-result
overflow_add-result c =
    let h : c.args.self.low < 2 ^ 64 = search rules in
    record { fits = omega arith }

pub returns : goal.returns
returns c =
    let v = c.args.self in
    let h : v.low < 2 ^ 64 = search rules in
    next-halves v.high v.low h
