-- `aes_cm::portion::xor_portion` meets its contract: the portion by the blocks of its key and its first counter block.
use mathlib.Core.Path.{◌≡◌, ap, ◌∙◌}
use Prim.Native.Nat.{◌+◌}
use native.Mathlib.Nat.{zero-add}
use native.Mathlib.Omega.{arith}
use Rattle.bits.specs.Portion.{Bounds}
use Rattle.aes.specs.Blocks.{byte_from}
use Rattle.aes_counter.specs.Keystream.{keystream_of}
use Rattle.aes_cm.proofs.Streams.{portion-is}
use Rattle.aes_cm.proofs.portion.xor_portion.Goals as goal

pub returns : goal.returns
returns c =
    let a = c.args in
    let p = a.portion in
    let blocks = c.packet_start-blocks in
    let made = byte_from blocks.result.cipher.key blocks.result.block in
    let first : c.portion.inside.first ≡ p.first = ap (λ (b : Bounds). b.first) c.portion.view_is in
    let stop : c.portion.inside.stop ≡ p.stop = ap (λ (b : Bounds). b.stop) c.portion.view_is in
    let rest : c.portion.inside.rest ≡ p.rest = ap (λ (b : Bounds). b.rest) c.portion.view_is in
    let v = c.portion.invariant in
    portion-is (λ k. made (0 + k)) (keystream_of a.key a.salt a.ssrc a.index) p.first p.stop p.rest a.buf.now c.xor_from.new.buf (omega (arith, v.0)) (omega (arith, v.1))
    (λ k h. ap made (zero-add k) ∙ blocks.ensures.by_index k (omega (arith, h, c.requires.rest_le_length.1))) c.xor_from.ensures
