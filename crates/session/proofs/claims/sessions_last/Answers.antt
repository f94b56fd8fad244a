-- `session::claims::sessions_last` meets its contract.
use Rattle.session.proofs.RoundTrip.{sessions-last}
use Rattle.session.proofs.claims.sessions_last.Goals as goal

pub returns : goal.returns
returns c = sessions-last
