-- `block_xor::part::xor_bytes` meets its contract.
use Prim.Native.Nat.{◌+◌}
use lib.ListN.{get_or}
use Rattle.bits.proofs.Running.{Running}
use Rattle.block_xor.proofs.part.xor_bytes.Given as goal

abbrev pub invariant-loop-k : goal.invariant-loop-k
invariant-loop-k l = Running (λ j. get_or l.block (l.from + j) 0) l.initial.part l.part l.k
