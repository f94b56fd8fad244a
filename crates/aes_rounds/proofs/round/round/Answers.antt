-- `aes_rounds::round::round` meets its contract: the steps of a round, a column at a time.
use mathlib.Core.Path.{sym, ◌∙◌}
use Rattle.aes_tables.proofs.Rounds.{round_is}
use Rattle.aes_tables.proofs.Words.{cons4}
use Rattle.aes_rounds.proofs.round.round.Goals as goal

pub returns : goal.returns
returns c = cons4 c.round_column.ensures c.round_column-2.ensures c.round_column-3.ensures c.round_column-4.ensures ∙ sym (round_is _ _)
