-- `aes_shared::columns::first_columns` meets its contract.
use Rattle.aes_tables.proofs.Words.{three-and}
use Rattle.aes_shared.proofs.columns.first_columns.Goals as goal

pub returns : goal.returns
returns c =
    record {
      column0 = three-and c.row.result c.row-2.result c.pack.result _ _ _ c.row.ensures c.row-2.ensures c.pack.ensures c.row-3.result _ c.row-3.ensures;
      column1 = three-and c.row-4.result c.row-5.result c.pack-2.result _ _ _ c.row-4.ensures c.row-5.ensures c.pack-2.ensures c.row-6.result _ c.row-6.ensures;
    }
