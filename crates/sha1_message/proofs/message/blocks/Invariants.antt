-- `sha1_message::message::blocks`: the hash value after the blocks taken.
use Rattle.std.proofs.Common.{◌≡◌}
use Rattle.sha1_compress.specs.Hash.{blocks_of}
use Rattle.sha1_message.proofs.message.blocks.Given as goal

abbrev pub invariant-loop-i : goal.invariant-loop-i
invariant-loop-i l = l.s ≡ blocks_of l.i l.initial.s l.b
