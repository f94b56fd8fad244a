-- `aes_tables::tables::round_table` meets its contract: the computed rule of the table.
use mathlib.Core.Path.{refl}
use Rattle.aes_tables.specs.Field.{◌•◌}
use Rattle.aes_tables.proofs.RoundTable.{entries}
use Rattle.aes_tables.proofs.tables.round_table.Goals as goal

pub returns : goal.returns
unfolding ◌•◌
returns c = entries _ refl tt
