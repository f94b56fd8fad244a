-- `wire::claims::cryptex_is_judged_by_its_header`: the claim holds.
use Rattle.wire.proofs.RoundTrips.{cryptex-looks-at-none}
use Rattle.wire.proofs.claims.cryptex_is_judged_by_its_header.Goals as goal

pub returns : goal.returns
returns c = cryptex-looks-at-none
