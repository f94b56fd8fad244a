-- `aes_columns::column::add_round_key` meets its contract, a column at a time.
use Rattle.aes_tables.proofs.Words.{cons4}
use Rattle.aes_columns.proofs.column.add_round_key.Goals as goal

pub returns : goal.returns
returns c =
    let x3 = c in
    let x2 = x3 in
    let x1 = x2 in
    cons4 x1.xor.ensures x2.xor-2.ensures x3.xor-3.ensures c.xor-4.ensures
