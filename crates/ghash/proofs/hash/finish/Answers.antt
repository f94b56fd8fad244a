-- `ghash::hash::finish` meets its contract.
use Rattle.std.proofs.Common.{ℕ, ap, ◌∙◌}
use Rattle.gf128.specs.Product.{◌•◌}
use Rattle.ghash.proofs.Feeding.{finished}
use Rattle.ghash.proofs.hash.finish.Goals as goal

pub returns : goal.returns
returns c = λ h l k f z.
    let g = c.args in
    finished h l g.s c.multiplied.result g.a g.c c.requires.0 c.requires.1 f z (c.multiplied.ensures h k ∙ ap (λ (v : ℕ). v • h) c.xor.ensures)
