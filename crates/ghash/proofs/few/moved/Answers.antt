-- `ghash::few::moved` meets its contract.
use Rattle.bits.proofs.Bytes.{are-bytes}
use Rattle.ghash.proofs.Places.{moved-is}
use Rattle.ghash.proofs.few.moved.Goals as goal

pub returns : goal.returns
returns c =
    let l = c.args.part.now in
    moved-is l c.number.result c.args.n (are-bytes l (λ i. (c.type_inv.part i).fits)) c.requires.1 c.number.ensures
