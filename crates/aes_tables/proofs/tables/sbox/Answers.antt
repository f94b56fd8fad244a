-- `aes_tables::tables::sbox` meets its contract: the computed rule of the table.
use Rattle.aes_tables.proofs.Sbox.{sbox-rule}
use Rattle.aes_tables.proofs.tables.sbox.Goals as goal

pub returns : goal.returns
returns c = sbox-rule
