-- `sha1_message::message::finish` meets its contract.
use mathlib.Core.Path.{◌≡◌, refl}
use Prim.Native.Nat.{◌-◌, ◌*◌, ◌/◌}
use native.Mathlib.Omega.{arith}
use borrow.Author.Rules.{rules}
use lib.ListN.{length, take, drop}
use Rattle.sha1_compress.proofs.Padding.{closed-room, finished}
use Rattle.sha1_message.proofs.message.finish.Goals as goal

pub blocks-requires : goal.blocks-requires
blocks-requires c =
    let q = c.close-e in
    let l : length q.new.end ≡ 128 = search rules in
    omega (arith, closed-room _ q.new.end q.result _ l q.ensures.count q.ensures.bytes)

pub returns : goal.returns
returns c =
    let g = c.args in
    let n = length g.b.now / 64 in
    finished g.k g.h g.b.now g.tail.now n c.requires.0 (omega arith) c.close-e.result _ (take (length g.b.now - 64 * n) (drop (64 * n) g.b.now)) c.blocks-s.result c.close-e.new.end c.blocks-2.result
    refl refl c.blocks-s.ensures c.close-e.ensures.count c.close-e.ensures.bytes c.blocks-2.ensures
