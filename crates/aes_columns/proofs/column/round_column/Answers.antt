-- `aes_columns::column::round_column` meets its contract.
use mathlib.Core.Path.{◌∙◌}
use Rattle.aes_tables.specs.Cipher.{sbox_of}
use Rattle.aes_columns.proofs.Sums.{mixed}
use Rattle.aes_columns.proofs.column.round_column.Goals as goal

pub returns : goal.returns
returns c =
    let a = c.args in
    c.unpack.ensures
    ∙ mixed c.row.result c.row-3.result c.row-4.result c.row-2.result c.pack.result
    (sbox_of a.a) (sbox_of a.b) (sbox_of a.c) (sbox_of a.d) a.k
    c.row.ensures c.row-3.ensures c.row-4.ensures c.row-2.ensures c.pack.ensures
