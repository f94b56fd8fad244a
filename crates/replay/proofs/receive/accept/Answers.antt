-- `replay::receive::accept` meets its contract.
use Rattle.replay.proofs.Words.{rest, accepted}
use Rattle.replay.proofs.receive.accept.Goals as goal

pub returns : goal.returns
returns c =
    accepted c.args.track.now c.requires c.args.index c.mark.new.ring (rw (rest 2 c.args.track.now) at c.mark.ensures) c.highest_with-highest.result c.highest_with-highest.ensures
