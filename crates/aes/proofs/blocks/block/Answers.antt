-- `aes::blocks::block` meets its contract.
use mathlib.Core.Path.{ap, ◌∙◌}
use Prim.Native.Nat.{◌/◌, ◌%◌}
use Rattle.aes_tables.specs.Cipher.{bytes_of}
use Rattle.aes.proofs.Borders.{begun-of, block-is}
use Rattle.aes.proofs.blocks.block.Goals as goal

pub encrypt-requires : goal.encrypt-requires
encrypt-requires c =
    let b = c.args.blocks.now in
    begun-of b.cipher.keys.now b.cipher.key b.block b.begun (c.args.j / 256 % 256) (c.args.j % 256) b.cipher.expanded b.started

pub returns : goal.returns
returns c =
    let b = c.args.blocks.now in
    c.bytes.ensures ∙ ap bytes_of c.encrypt.ensures ∙ block-is b.cipher.keys.now b.cipher.key b.block c.args.j b.cipher.expanded
