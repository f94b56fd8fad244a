-- `rtp_claims::claims::some_ids_are_never_found`: the claim holds.
use Rattle.rtp_claims.proofs.Naming.{never-found}
use Rattle.rtp_claims.proofs.claims.some_ids_are_never_found.Goals as goal

pub returns : goal.returns
returns c = never-found
