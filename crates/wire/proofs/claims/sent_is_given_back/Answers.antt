-- `wire::claims::sent_is_given_back`: the claim holds.
use Rattle.wire.proofs.RoundTrips.{sent-is-given-back}
use Rattle.wire.proofs.claims.sent_is_given_back.Goals as goal

pub returns : goal.returns
returns c = sent-is-given-back
