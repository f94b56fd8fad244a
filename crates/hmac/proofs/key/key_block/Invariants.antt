-- `hmac::key::key_block`: the key's bytes taken are XORed, and the others are zeros XORed.
use Rattle.std.proofs.Common.{◌≡◌, ◌++◌, ◌-◌, take, replicate}
use Rattle.bits.specs.Xor.{xor_pad}
use Rattle.hmac.proofs.key.key_block.Given as goal

abbrev pub invariant-loop-i : goal.invariant-loop-i
invariant-loop-i l = l.b ≡ xor_pad (λ k. l.x) (take l.i l.key) ++ replicate (64 - l.i) l.x
