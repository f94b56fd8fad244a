-- `packet_stretches::claims::keys_are_stretches`: the claim holds.
use Rattle.packet_stretches.proofs.Packets.{keys-are-stretches}
use Rattle.packet_stretches.proofs.claims.keys_are_stretches.Goals as goal

pub returns : goal.returns
returns c = keys-are-stretches
