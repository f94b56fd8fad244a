-- `packet_form::form::to_wire` meets its contract.
use mathlib.Core.Path.{ap, ap₂, ◌∙◌}
use mathlib.Core.List.{List, ◌++◌}
use Prim.Native.Nat.{ℕ}
use lib.ListN.{take}
use Rattle.policies.specs.Cryptex.{tagged_of}
use Rattle.wire.specs.Wire.{given_back_of}
use Rattle.packet_form.proofs.Shaping.{part-front, part-back}
use Rattle.packet_form.proofs.form.to_wire.Goals as goal

pub say_cryptex-g-requires : goal.say_cryptex-g-requires
say_cryptex-g-requires c =
    let w = c.raise-raised.ensures.shaped in
    let f = part-front _ (given_back_of c.args.policy (take c.args.n c.args.buf.now)) c.args.buf.now _ c.raise-raised.ensures.buf_after w.long in
    rw (f, w.long) w

pub returns : goal.returns
returns c =
    let w = c.raise-raised.ensures.shaped in
    let g = given_back_of c.args.policy (take c.args.n c.args.buf.now) in
    let f = part-front _ g c.args.buf.now _ c.raise-raised.ensures.buf_after w.long in
    record {
      length_value = c.raise-raised.ensures.length_value;
      buf_after = ap₂ (λ (u v : List ℕ). u ++ v) (c.say_cryptex-g.ensures.packet_after ∙ ap (tagged_of c.args.policy) f) (part-back _ g c.args.buf.now _ c.raise-raised.ensures.buf_after w.long);
      shaped = rw (f, w.long) at c.say_cryptex-g.ensures.shaped;
    }
