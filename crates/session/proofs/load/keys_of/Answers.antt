-- `session::load::keys_of` meets its contract.
use Rattle.session.proofs.Front.{keys-read}
use Rattle.session.proofs.load.keys_of.Goals as goal

pub returns : goal.returns
returns c =
    keys-read c.args.session.now c.bytes_at.ensures c.bytes_at-2.ensures c.bytes_at-3.ensures c.bytes_at-4.ensures c.five_at.ensures
    c.five_at-2.ensures c.bytes_at-5.ensures
