-- `wire::claims::sending_under_cryptex_is_the_same`: the claim holds.
use Rattle.wire.proofs.RoundTrips.{sending-alike}
use Rattle.wire.proofs.claims.sending_under_cryptex_is_the_same.Goals as goal

pub returns : goal.returns
returns c = sending-alike
