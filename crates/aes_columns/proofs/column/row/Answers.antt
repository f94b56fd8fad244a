-- `aes_columns::column::row` meets its contract: the table's rule, from where the row begins in an entry.
use mathlib.Core.Path.{◌∙◌}
use Rattle.aes_tables.proofs.RoundTable.{read}
use Rattle.aes_columns.proofs.column.row.Goals as goal

pub returns : goal.returns
returns g c = c.pack.ensures ∙ read c.args.table.bytes.now c.args.table.rule c.args.x c.ranges.x.fits g.row.R c.requires
