-- `replay::send::sent` meets its contract.
use Rattle.replay.proofs.Words.{sent-words}
use Rattle.replay.proofs.send.sent.Goals as goal

pub returns : goal.returns
returns c = sent-words c.args.track.now c.requires c.args.index
