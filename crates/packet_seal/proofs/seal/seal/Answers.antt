-- `packet_seal::seal::seal` meets its contract.
use mathlib.Core.Path.{◌∙◌}
use Rattle.rtp_elements.specs.Mask.{listed_in}
use Rattle.packet_seal.proofs.seal.seal.Goals as goal

pub returns-in-CmHmac : goal.returns-in-CmHmac
returns-in-CmHmac c =
    rw c.in-CmHmac.is c.seal_cm.ensures

pub returns-in-Gcm : goal.returns-in-Gcm
returns-in-Gcm c =
    rw c.in-Gcm.is record {
      packet_after = c.seal_gcm.ensures.by_index (listed_in c.args.context.now.ids);
      result_value = c.in_front.ensures ∙ c.seal_gcm.ensures.value;
    }
