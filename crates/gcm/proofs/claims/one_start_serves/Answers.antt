-- `gcm::claims::one_start_serves` meets its contract.
use Rattle.gcm.proofs.Counters.{hash-is, text-is}
use Rattle.gcm.proofs.claims.one_start_serves.Goals as goal

pub returns : goal.returns
returns c = record { hash = λ key iv k n h. hash-is key iv n k h; text = λ key iv k n h. text-is key iv n k h }
