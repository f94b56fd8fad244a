use Rattle.std.proofs.Common.{◌≡◌, ◌-◌, length}
use Rattle.mask_lines.proofs.mask.cover_listed.Given as goal

abbrev pub invariant-loop-element : goal.invariant-loop-element
invariant-loop-element l = length l.mask ≡ length l.block

abbrev pub decreases-loop-element : goal.decreases-loop-element
decreases-loop-element l = length l.block - l.i
