-- `aes_shared::columns::second_columns` meets its contract.
use Rattle.aes_tables.proofs.Words.{two-and}
use Rattle.aes_shared.proofs.columns.second_columns.Goals as goal

pub returns : goal.returns
returns c =
    record {
      column0 = two-and c.row.result c.row-2.result c.pack.result _ _ _ c.row.ensures c.row-2.ensures c.pack.ensures;
      column1 = two-and c.row-3.result c.row-4.result c.pack-2.result _ _ _ c.row-3.ensures c.row-4.ensures c.pack-2.ensures;
      column2 = two-and c.row-5.result c.row-6.result c.pack-3.result _ _ _ c.row-5.ensures c.row-6.ensures c.pack-3.ensures;
      column3 = two-and c.row-7.result c.row-8.result c.pack-4.result _ _ _ c.row-7.ensures c.row-8.ensures c.pack-4.ensures;
    }
