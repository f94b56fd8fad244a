-- `records::tracks::judge` meets its contract.
use mathlib.Core.Path.{ap, ◌∙◌}
use borrow.Author.Rules.{rules}
use Rattle.replay.specs.declared.receive.Arrival.{Arrival}
use Rattle.records.proofs.Lending.{judged-sending, judged-receiving}
use Rattle.records.proofs.tracks.judge.Goals as goal

pub returns-in-Sending : goal.returns-in-Sending
returns-in-Sending c =
    rw c.in-Sending.is (c.send.ensures ∙ judged-sending c.args.session.now (search rules) c.args.i c.requires _ c.record_place-at.ensures _ c.low-rollover.ensures c.args.sequence)

pub returns-in-Receiving : goal.returns-in-Receiving
returns-in-Receiving c =
    rw c.in-Receiving.is (ap (λ (a : Arrival). a.judged) c.receive.ensures ∙ judged-receiving c.args.session.now (search rules) c.args.i c.requires _ c.record_place-at.ensures _ c.low-rollover.ensures c.args.sequence)
