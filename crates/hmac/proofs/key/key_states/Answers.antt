-- `hmac::key::key_states` meets its contract, for a key of any length.
use mathlib.Core.Path.{ap, ◌∙◌}
use native.Mathlib.Omega.{arith}
use Rattle.hmac.specs.Steps.{states_of}
use Rattle.hmac.proofs.Keys.{short-key, long-key}
use Rattle.hmac.proofs.key.key_states.Goals as goal

pub returns-then-key-le64 : goal.returns-then-key-le64
returns-then-key-le64 c =
    c.short_key_states.ensures ∙ ap states_of (short-key c.args.key.now (omega arith))

pub returns : goal.returns
returns c =
    c.short_key_states-2.ensures ∙ ap states_of (long-key c.args.key.now c.sha1-d.result (omega arith) c.sha1-d.ensures)
