-- `records::tracks::commit` meets its contract.
use borrow.Author.Rules.{rules}
use Rattle.records.proofs.Lending.{committed-sending, committed-receiving}
use Rattle.records.proofs.tracks.commit.Goals as goal

pub returns-in-Sending : goal.returns-in-Sending
returns-in-Sending c =
    rw c.in-Sending.is (committed-sending c.args.session.now (search rules) c.args.i c.requires _ c.record_place-at.ensures _ c.args.index c.sent.ensures)

pub returns-in-Receiving : goal.returns-in-Receiving
returns-in-Receiving c =
    rw c.in-Receiving.is (committed-receiving c.args.session.now (search rules) c.args.i c.requires _ c.record_place-at.ensures _ c.args.index c.accept.ensures)
