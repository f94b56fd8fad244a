-- `aes_keystream::keystream::xor_held` meets its contract.
use Rattle.aes_keystream.proofs.Walks.{held, unused}
use Rattle.aes_keystream.proofs.keystream.xor_held.Goals as goal

pub returns-then-from-eq0-clause-by_index : goal.returns-then-from-eq0-clause-by_index
returns-then-from-eq0-clause-by_index c = λ key start h. (h, unused key start c.args.s.at c.args.buf.now)

pub returns-clause-by_index : goal.returns-clause-by_index
returns-clause-by_index c =
    let a = c.args in
    λ key start h. held key start a.buf.now a.s c.span-n.result c.xor_bytes.new.part c.if-from-eq0.false c.span-n.ensures.span c.xor_bytes.ensures h
