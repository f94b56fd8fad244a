-- `sha1_message::message::block`: the words read, and zeros.
use Rattle.std.proofs.Common.{◌≡◌, ◌++◌, ◌-◌, drop, replicate}
use Rattle.sha1_compress.specs.Message.{words_in}
use Rattle.sha1_message.proofs.message.block.Given as goal

abbrev pub invariant-loop-i : goal.invariant-loop-i
invariant-loop-i l = l.x-items ≡ words_in l.i (drop l.at l.b) ++ replicate (16 - l.i) 0
