-- `gf128_product::table::key_table` meets its contract.
use Rattle.gf128.specs.Steps.{value_of}
use Rattle.gf128_product.proofs.Entries.{eight-lists}
use Rattle.gf128_product.proofs.table.key_table.Goals as goal

pub returns : goal.returns
returns c =
    eight-lists (value_of c.args.h) (value_of c.moved-h1.result) (value_of c.moved-h2.result) (value_of c.moved-h3.result) (value_of c.moved-h4.result) (value_of c.moved-h5.result) (value_of c.moved-h6.result) (value_of c.moved-h7.result)
    c.multiples.result c.multiples-2.result c.multiples-3.result c.multiples-4.result c.multiples-5.result c.multiples-6.result c.multiples-7.result c.multiples-8.result
    c.moved-h1.ensures c.moved-h2.ensures c.moved-h3.ensures c.moved-h4.ensures c.moved-h5.ensures c.moved-h6.ensures c.moved-h7.ensures
    c.multiples.ensures c.multiples-2.ensures c.multiples-3.ensures c.multiples-4.ensures c.multiples-5.ensures c.multiples-6.ensures c.multiples-7.ensures c.multiples-8.ensures
