-- `packet_cipher::cipher::encrypted_portion` meets its contract.
use mathlib.Core.Path.{refl}
use Rattle.packet_cipher.proofs.cipher.encrypted_portion.Goals as goal

pub returns-then-cryptex : goal.returns-then-cryptex
returns-then-cryptex c = rw c.if-cryptex.true (refl, (refl, refl))

pub returns-else-cryptex : goal.returns-else-cryptex
returns-else-cryptex c = rw c.if-cryptex.false (refl, (refl, refl))
