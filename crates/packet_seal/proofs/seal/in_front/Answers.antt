-- `packet_seal::seal::in_front` meets its contract.
use mathlib.Core.Path.{◌≡◌, ap, ◌∙◌}
use lib.ListN.{length, take}
use lib.Seq.{take_at}
use borrow.Author.Rules.{rules}
use Rattle.packet_seal.proofs.seal.in_front.Goals as goal

pub returns : goal.returns
returns c =
    let n : length c.args.tag ≡ 16 = search rules in
    ap (take 16) c.filled.ensures ∙ take_at c.args.tag _ 16 n
