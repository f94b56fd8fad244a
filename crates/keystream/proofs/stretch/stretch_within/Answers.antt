-- `keystream::stretch::stretch_within` meets its contract: the stretch by the blocks of its key and its first counter block.
use mathlib.Core.Path.{ap, ◌∙◌}
use Prim.Native.Nat.{ℕ}
use Rattle.aes.specs.Blocks.{byte_from}
use Rattle.aes_counter.specs.Keystream.{keystream_of}
use Rattle.stretches.specs.Stretch.{Stretched, stretch_by}
use Rattle.stretches.proofs.Parts.{stretch-ext}
use Rattle.keystream.proofs.stretch.stretch_within.Goals as goal

pub returns : goal.returns
returns c =
    let a = c.args in
    let blocks = c.packet_start-blocks.result in
    let made = byte_from blocks.cipher.key blocks.block in
    c.xor_stretch.ensures.buf_after
    ∙ ap (λ (o : ℕ). (stretch_by made o a.buf.now).bytes) c.seek-s.ensures.0
    ∙ ap (λ (s : Stretched). s.bytes) (stretch-ext made (keystream_of a.key a.salt a.ssrc a.index) c.packet_start-blocks.ensures.by_index a.start a.buf.now)
