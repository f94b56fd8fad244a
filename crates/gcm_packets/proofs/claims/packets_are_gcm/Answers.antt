-- `gcm_packets::claims::packets_are_gcm`: the claim holds.
use Rattle.gcm_packets.proofs.Packets.{packets-are-gcm}
use Rattle.gcm_packets.proofs.claims.packets_are_gcm.Goals as goal

pub returns : goal.returns
returns c = packets-are-gcm
