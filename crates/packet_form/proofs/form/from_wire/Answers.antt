-- `packet_form::form::from_wire` meets its contract.
use mathlib.Core.Path.{sym, ◌∙◌}
use Rattle.packet_cipher.proofs.Crypting.{cryptex-x}
use Rattle.wire.proofs.Tagging.{tag-inside, is-untagged, not-untagged}
use Rattle.packet_form.proofs.form.from_wire.Goals as goal

pub write_tag-requires : goal.write_tag-requires
write_tag-requires c =
    tag-inside c.args.packet.now c.args.h c.requires.0 (cryptex-x c.args.policy c.args.h (sym c.is_cryptex.ensures ∙ c.if-is_cryptex.true)) c.requires.1

pub returns-then-is_cryptex : goal.returns-then-is_cryptex
returns-then-is_cryptex c =
    c.write_tag.ensures ∙ is-untagged c.args.packet.now c.args.h c.requires.0 c.args.policy _ (sym c.is_cryptex.ensures ∙ c.if-is_cryptex.true) c.plain_tag-tag.ensures

pub returns-else-is_cryptex : goal.returns-else-is_cryptex
returns-else-is_cryptex c =
    not-untagged c.args.packet.now c.args.h c.requires.0 c.args.policy (sym c.is_cryptex.ensures ∙ c.if-is_cryptex.false)
