-- `hmac::key::key_state` meets its contract: one block from the start.
use mathlib.Core.Path.{ap₂, ◌∙◌}
use Rattle.sha1_compress.specs.Hash.{blocks_of}
use Rattle.hmac.specs.Steps.{state_of}
use Rattle.hmac.proofs.key.key_state.Goals as goal

pub returns : goal.returns
unfolding state_of
returns c =
    c.blocks-2.ensures ∙ ap₂ (blocks_of 1) c.start.ensures c.key_block.ensures
