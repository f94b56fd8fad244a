-- `cm_packet::cm::code` meets its contract.
use mathlib.Core.Path.{ap, ◌∙◌}
use mathlib.Core.List.{List, ◌++◌}
use Prim.Native.Nat.{ℕ}
use Rattle.hmac.specs.Steps.{mac_of}
use Rattle.cm_packet.proofs.cm.code.Goals as goal

pub returns : goal.returns
returns c = c.mac.ensures ∙ ap (λ (r : List ℕ). mac_of c.args.context.now.keys.auth (c.args.body.now ++ r)) c.write32-rollover.ensures
