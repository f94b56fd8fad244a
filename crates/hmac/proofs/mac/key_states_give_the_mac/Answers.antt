-- `hmac::mac::key_states_give_the_mac`: the two key blocks are hashed before the text.
use Rattle.hmac.proofs.Macs.{mac-hmac}
use Rattle.hmac.proofs.mac.key_states_give_the_mac.Goals as goal

pub returns : goal.returns
returns c = record { same = mac-hmac }
