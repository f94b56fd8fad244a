-- `adding::add::fresh_record` meets its contract.
use Rattle.adding.proofs.Ends.{fresh-is}
use Rattle.adding.proofs.add.fresh_record.Goals as goal

pub returns : goal.returns
returns c = let a = c.args in rw (c.head_word.ensures, c.from.ensures) (fresh-is a.ssrc a.way a.rollover)
