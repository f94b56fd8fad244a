-- `packet_seal::seal::open` meets its contract.
use Rattle.rtp_elements.specs.Mask.{listed_in}
use Rattle.packet_seal.proofs.seal.open.Goals as goal

pub open_cm-requires : goal.open_cm-requires
open_cm-requires c = rw c.in-CmHmac.is at c.requires

pub open_gcm-requires : goal.open_gcm-requires
open_gcm-requires c = rw c.in-Gcm.is at c.requires

pub returns-in-CmHmac : goal.returns-in-CmHmac
returns-in-CmHmac c =
    rw c.in-CmHmac.is c.open_cm.ensures

pub returns-in-Gcm : goal.returns-in-Gcm
returns-in-Gcm c =
    rw c.in-Gcm.is record {
      value = c.open_gcm.ensures.value;
      buf_after = c.open_gcm.ensures.by_index (listed_in c.args.context.now.ids);
    }
