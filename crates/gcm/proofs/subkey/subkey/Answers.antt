-- `gcm::subkey::subkey` meets its contract.
use Rattle.gcm.proofs.Counters.{subkey-is}
use Rattle.gcm.proofs.subkey.subkey.Goals as goal

pub returns : goal.returns
returns c =
    subkey-is c.args.key c.stretch.new.buf c.stretch.ensures.1
