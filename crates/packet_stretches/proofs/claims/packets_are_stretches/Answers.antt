-- `packet_stretches::claims::packets_are_stretches`: the claim holds.
use Rattle.packet_stretches.proofs.Packets.{packets-are-stretches}
use Rattle.packet_stretches.proofs.claims.packets_are_stretches.Goals as goal

pub returns : goal.returns
returns c = packets-are-stretches
