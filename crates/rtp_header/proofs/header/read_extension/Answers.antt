-- `rtp_header::header::read_extension` meets its contract.
use Rattle.rtp_header.proofs.Reading.{extension-past, block-past, extended}
use Rattle.rtp_header.proofs.header.read_extension.Goals as goal

pub returns-then-end-block-clause-value : goal.returns-then-end-block-clause-value
returns-then-end-block-clause-value c = extension-past _ _ _ c.requires.plain_value.0 c.requires.packet_value c.if-end-block.true

pub returns-then-end-payload-clause-value : goal.returns-then-end-payload-clause-value
returns-then-end-payload-clause-value c =
    block-past _ _ _ c.requires.plain_value.0 c.requires.packet_value _ _ c.read16-tag.ensures c.read16-words.ensures c.if-end-payload.true

pub returns-clause-value : goal.returns-clause-value
returns-clause-value c = extended _ _ _ c.requires.plain_value.0 c.requires.packet_value _ _ c.read16-tag.ensures c.read16-words.ensures c.if-end-payload.false
