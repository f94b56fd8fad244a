-- `sha1_message::message::blocks` meets its contract.
use Rattle.std.proofs.Common.{◌≡◌, ap, ◌∙◌, arith}
use Rattle.sha1_compress.proofs.Blocks.{blocks-none, block_more}
use Rattle.sha1_compress.specs.Hash.{blocks_of}
use Rattle.sha1_message.proofs.message.blocks.Goals as goal

pub loop-i-init : goal.loop-i-init
loop-i-init c = blocks-none _ _

pub loop-i-preserved : goal.loop-i-preserved
loop-i-preserved c =
    let l = c.loop-i in
    let g = c.args in
    block_more g.h g.b.now l.s c.block.result c.compress-u.result l.i l.invariant c.block.ensures c.compress-u.ensures

pub returns : goal.returns
returns c =
    let e : c.loop-i.i ≡ c.args.n = omega arith in
    c.loop-i.invariant ∙ ap (λ k. blocks_of k c.args.h c.args.b.now) e
