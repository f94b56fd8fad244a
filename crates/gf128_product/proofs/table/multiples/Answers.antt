-- `gf128_product::table::multiples` meets its contract: an entry is the sum of the entries of its bits.
use mathlib.Core.Path.{◌≡◌, ap, ◌∙◌}
use Rattle.gf128.specs.Product.{next_of, sum_of}
use Rattle.gf128.specs.Steps.{value_of}
use Rattle.gf128_product.proofs.Entries.{first, second, third, fourth, none, joined, all-sixteen}
use Rattle.gf128_product.proofs.table.multiples.Goals as goal

pub returns : goal.returns
returns c =
    let v = value_of c.args.v in
    let e8 = first v in
    let e4 : value_of c.next-m4.result ≡ sum_of 4 4 v = c.next-m4.ensures ∙ second v in
    let e2 : value_of c.next-m2.result ≡ sum_of 4 2 v = c.next-m2.ensures ∙ ap next_of c.next-m4.ensures ∙ third v in
    let e1 : value_of c.next-m1.result ≡ sum_of 4 1 v = c.next-m1.ensures ∙ ap next_of (c.next-m2.ensures ∙ ap next_of c.next-m4.ensures) ∙ fourth v in
    let e3 = joined v 2 1 _ _ _ c.xor-m3.ensures e2 e1 in
    let e5 = joined v 4 1 _ _ _ c.xor-m5.ensures e4 e1 in
    let e6 = joined v 4 2 _ _ _ c.xor-m6.ensures e4 e2 in
    let e7 = joined v 4 3 _ _ _ c.xor-m7.ensures e4 e3 in
    let e9 = joined v 8 1 _ _ _ c.xor-m9.ensures e8 e1 in
    let e10 = joined v 8 2 _ _ _ c.xor-m10.ensures e8 e2 in
    let e11 = joined v 8 3 _ _ _ c.xor-m11.ensures e8 e3 in
    let e12 = joined v 8 4 _ _ _ c.xor-m12.ensures e8 e4 in
    let e13 = joined v 8 5 _ _ _ c.xor-m13.ensures e8 e5 in
    let e14 = joined v 8 6 _ _ _ c.xor-m14.ensures e8 e6 in
    let e15 = joined v 8 7 _ _ _ c.xor-m15.ensures e8 e7 in
    all-sixteen v _ (none v) e1 e2 e3 e4 e5 e6 e7 e8 e9 e10 e11 e12 e13 e14 e15
