-- `aes_keystream::keystream::xor_stretch` meets its contract.
use Prim.Native.Nat.{◌-◌}
use native.Mathlib.Omega.{arith}
use lib.ListN.{length}
use Rattle.stretches.proofs.Parts.{small}
use Rattle.aes_keystream.proofs.Walks.{followed, stretched}
use Rattle.aes_keystream.proofs.keystream.xor_stretch.Goals as goal

pub loop-i-preserved : goal.loop-i-preserved
loop-i-preserved c =
    let b = c.args.blocks.now in
    let p = c.loop-i in
    let t₀ = c.xor_held-t.result in
    followed b.cipher.key b.block (length c.args.buf.now) c.xor_held-t.new.buf t₀ (t₀.at - c.args.s.at) p.buf p.t p.i c.span-n.result c.block-block.result c.xor_part.new.part
    (omega arith) (omega arith) p.invariant c.block-block.ensures c.span-n.ensures.span c.xor_part.ensures

pub returns-clause-buf_after : goal.returns-clause-buf_after
returns-clause-buf_after c =
    let a = c.args in
    let b = a.blocks.now in
    let x = c.xor_held-t in
    let y = x.ensures.by_index b.cipher.key b.block c.requires.holds in
    stretched b.cipher.key b.block a.s x.result c.loop-i.t a.buf.now x.new.buf c.loop-i.buf c.loop-i.i
    (omega arith) (small _ _ c.requires.buf_value) x.ensures.used y.1 c.loop-i.invariant
