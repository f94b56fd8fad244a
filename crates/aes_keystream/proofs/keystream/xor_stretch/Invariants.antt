-- `aes_keystream::keystream::xor_stretch` meets its contract.
use Prim.Native.Nat.{◌-◌}
use Rattle.aes_keystream.proofs.Walks.{Walk}
use Rattle.aes_keystream.proofs.keystream.xor_stretch.Given as goal

abbrev pub invariant-loop-i : goal.invariant-loop-i
invariant-loop-i l = Walk l.blocks.cipher.key l.blocks.block l.initial.i l.e l.initial.buf l.initial.t l.buf l.t l.i

abbrev pub decreases-loop-i : goal.decreases-loop-i
decreases-loop-i l = l.e - l.i
