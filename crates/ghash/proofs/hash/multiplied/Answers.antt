-- `ghash::hash::multiplied` meets its contract.
use Rattle.std.proofs.Common.{refl, ◌∙◌}
use Rattle.gf128.specs.Steps.{value_of}
use Rattle.ghash.proofs.Feeding.{feed-zeros}
use Rattle.ghash.proofs.hash.multiplied.Goals as goal

pub returns : goal.returns
returns c = λ h t. c.add_blocks-r.ensures.by_index h t (λ z. refl) ∙ feed-zeros h (value_of c.args.x) 0 15 refl
