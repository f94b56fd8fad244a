-- `aes_cm::portion::xor_from` meets its contract: two stretches of one keystream, of which the first may be empty.
use mathlib.Core.Path.{refl, ap, ap₂, ◌∙◌}
use Prim.Native.Nat.{ℕ, ◌+◌, ◌≤◌}
use native.Mathlib.Omega.{arith}
use lib.ListN.{length}
use Rattle.bits.specs.Portion.{Bounds}
use Rattle.bits.specs.Xor.{xor_pad}
use Rattle.aes.specs.Blocks.{byte_from}
use Rattle.aes_cm.specs.Portion.{portion_pad}
use Rattle.aes_cm.proofs.Streams.{one-part, two-parts}
use Rattle.aes_cm.proofs.portion.xor_from.Goals as goal

pub returns-then-first-stop : goal.returns-then-first-stop
returns-then-first-stop c =
    let l = c.args.buf.now in
    let stream = byte_from c.args.blocks.now.cipher.key c.args.blocks.now.block in
    let p = c.portion.inside in
    let v = c.portion.invariant in
    let s = c.seek-s in
    let rest : p.rest ≤ length l = omega (arith, ap (λ (b : Bounds). b.rest) c.portion.view_is, c.requires.rest_le_length.0) in
    one-part stream s.result.at p.first p.stop p.rest l v.0 v.1 rest (omega (arith, s.ensures.0, c.requires.rest_le_length.1)) c.xor_stretch.new.buf c.if-first-stop.true c.xor_stretch.ensures.buf_after
    ∙ ap₂ (λ (o : ℕ) (b : Bounds). xor_pad (portion_pad b.first b.stop b.rest (λ i. stream (o + i))) l) s.ensures.0 c.portion.view_is

pub returns : goal.returns
returns c =
    let l = c.args.buf.now in
    let stream = byte_from c.args.blocks.now.cipher.key c.args.blocks.now.block in
    let p = c.portion.inside in
    let v = c.portion.invariant in
    let s = c.seek-s in
    let t = c.xor_stretch-t in
    let rest : p.rest ≤ length l = omega (arith, ap (λ (b : Bounds). b.rest) c.portion.view_is, c.requires.rest_le_length.0) in
    two-parts stream s.result.at p.first p.stop p.rest l v.0 v.1 rest (omega (arith, s.ensures.0, c.requires.rest_le_length.1)) t.new.buf t.ensures.buf_after
    t.result.at _ c.xor_stretch-2.new.buf t.ensures.at_value.0 refl c.xor_stretch-2.ensures.buf_after
    ∙ ap₂ (λ (o : ℕ) (b : Bounds). xor_pad (portion_pad b.first b.stop b.rest (λ i. stream (o + i))) l) s.ensures.0 c.portion.view_is
