-- `packet_form::form::say_cryptex` meets its contract.
use mathlib.Core.Path.{sym, ◌∙◌}
use Rattle.policies.specs.Policies.{uses_cryptex}
use Rattle.packet_cipher.proofs.Crypting.{and_right}
use Rattle.wire.proofs.Tagging.{tag-inside, is-tagged, not-tagged}
use Rattle.packet_form.proofs.Shaping.{says, says-not}
use Rattle.packet_form.proofs.form.say_cryptex.Goals as goal

pub write_tag-requires : goal.write_tag-requires
write_tag-requires c =
    tag-inside c.args.packet.now c.args.h c.requires.layout (and_right (uses_cryptex c.args.policy) c.args.h.x (sym c.sends_cryptex.ensures ∙ c.if-sends_cryptex.true)) c.requires.inside

pub returns-then-sends_cryptex : goal.returns-then-sends_cryptex
returns-then-sends_cryptex c =
    let u = sym c.sends_cryptex.ensures ∙ c.if-sends_cryptex.true in
    record {
      packet_after = c.write_tag.ensures ∙ is-tagged c.args.packet.now c.args.h c.requires.layout c.args.policy _ u c.cryptex_tag-tag.ensures;
      shaped = rw (and_right (uses_cryptex c.args.policy) c.args.h.x u) (says c.args.policy c.args.packet.now c.args.h c.requires _ u c.cryptex_tag-tag.ensures);
    }

pub returns : goal.returns
returns c =
    let u = sym c.sends_cryptex.ensures ∙ c.if-sends_cryptex.false in
    record {
      packet_after = not-tagged c.args.packet.now c.args.h c.requires.layout c.args.policy u;
      shaped = says-not c.args.policy c.args.packet.now c.args.h c.requires u;
    }
