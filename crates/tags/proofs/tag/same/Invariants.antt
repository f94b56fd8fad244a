-- `tags::tag::same`: the differences of the bytes so far, summed. A sum is 0 just where no bit is set on either side.
use Rattle.std.proofs.Common.{◌≡◌, ◌*◌, ◌≤◌, length, take}
use lib.Dec.{eqb}
use Rattle.tags.specs.Tag.{same_of}
use Rattle.tags.proofs.tag.same.Given as goal

abbrev pub invariant-loop-x : goal.invariant-loop-x
invariant-loop-x l = (l.sum ≤ 255 * length l.yielded) × (eqb l.sum 0 ≡ same_of (take (length l.yielded) l.a) (take (length l.yielded) l.b))
