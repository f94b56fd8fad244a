-- `wire::claims::any_lawful_cipher_gives_back`: the claim holds.
use Rattle.wire.proofs.RoundTrips.{any-cipher}
use Rattle.wire.proofs.claims.any_lawful_cipher_gives_back.Goals as goal

pub returns : goal.returns
returns c = any-cipher
