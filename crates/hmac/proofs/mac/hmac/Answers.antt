-- `hmac::mac::hmac` meets its contract: the states are those of the key.
use mathlib.Core.Path.{ap, ◌∙◌}
use mathlib.Core.List.{◌++◌}
use Rattle.hmac.specs.declared.key.KeyStates.{KeyStates}
use Rattle.hmac.specs.Steps.{mac_of}
use Rattle.hmac.proofs.Macs.{mac-hmac}
use Rattle.hmac.proofs.mac.hmac.Goals as goal

pub returns : goal.returns
returns c =
    let g = c.args in
    let text = g.message.now ++ g.tail.now in
    c.mac.ensures ∙ ap (λ (s : KeyStates). mac_of s text) c.key_states.ensures ∙ mac-hmac g.key.now text
