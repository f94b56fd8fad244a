-- `gf128_product::product::product` meets its contract.
use mathlib.Core.Path.{ap, ◌∙◌}
use Prim.Native.Nat.{ℕ, ◌/◌, ◌%◌, ◌^◌, ◌<◌}
use Rattle.gf128_product.specs.Steps.{more_of}
use Rattle.gf128_product.proofs.Groups.{whole}
use borrow.Author.Rules.{rules}
use Rattle.gf128_product.proofs.product.product.Goals as goal

pub returns : goal.returns
returns c =
    let x = c.args.x in
    let l : x.low < 2 ^ 64 = search rules in
    let more : ℕ → ℕ → ℕ → ℕ = λ h z w. more_of 32 h z w in
    λ h t.
    c.more.ensures h t
    ∙ ap (λ (z : ℕ). more h z (x.high / 2 ^ 32))
    (c.more-c.ensures h t
    ∙ ap (λ (z : ℕ). more h z (x.high % 2 ^ 32)) (c.more-b.ensures h t ∙ ap (λ (z : ℕ). more h z (x.low / 2 ^ 32)) (c.more-a.ensures h t)))
    ∙ whole h x.high x.low l
