-- `gf128_product::moves::moved` meets its contract.
use Prim.Native.Nat.{◌^◌, ◌<◌}
use borrow.Author.Rules.{rules}
use Rattle.gf128_product.proofs.Falling.{moved-halves}
use Rattle.gf128_product.proofs.moves.moved.Goals as goal

pub returns : goal.returns
returns c =
    let z = c.args.z in
    let l : z.low < 2 ^ 64 = search rules in
    moved-halves c.args.n z.high z.low c.requires.0 c.requires.1 l
