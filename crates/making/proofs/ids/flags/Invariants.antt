-- `making::ids::flags` meets its contract.
use lib.ListN.{take}
use Rattle.making.proofs.Flags.{Flagged}
use Rattle.making.proofs.ids.flags.Given as goal

abbrev pub invariant-loop-id : goal.invariant-loop-id
invariant-loop-id l = Flagged (take l.id-index l.ids) l.set
