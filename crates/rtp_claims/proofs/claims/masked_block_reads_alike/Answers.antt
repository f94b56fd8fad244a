-- `rtp_claims::claims::masked_block_reads_alike`: the claim holds.
use Rattle.rtp_claims.proofs.Alike.{masked-reads-alike}
use Rattle.rtp_claims.proofs.claims.masked_block_reads_alike.Goals as goal

pub returns : goal.returns
returns c = masked-reads-alike
