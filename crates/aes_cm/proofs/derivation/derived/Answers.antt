-- `aes_cm::derivation::derived` meets its contract.
use Rattle.aes_cm.proofs.Derived.{derived-is}
use Rattle.aes_cm.proofs.derivation.derived.Goals as goal

pub returns : goal.returns
returns c =
    let a = c.args in
    derived-is a.key a.salt a.label a.zeros.now c.stretch.new.buf c.requires.0 c.requires.1 c.stretch.ensures.1
