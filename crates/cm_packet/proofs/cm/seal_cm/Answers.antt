-- `cm_packet::cm::seal_cm` meets its contract.
use Rattle.packet_cipher.proofs.Tagging.{tag-code}
use Rattle.cm_packet.proofs.cm.seal_cm.Goals as goal

pub returns : goal.returns
returns c =
    let a = c.args in
    record { packet_after = c.crypt.ensures; result_value = tag-code a.context.now.keys a.context.now.policy a.context.now.ssrc a.context.now.index _ _ c.code.ensures }
