-- `sha1_compress::compress::Working::last`: 64 steps of the schedule and as many more as words were taken.
use Rattle.std.proofs.Common.{◌≡◌, ℕ, ◌+◌, List, length}
use Rattle.sha1_compress.specs.Hash.{schedule_of, steps_of}
use Rattle.sha1_compress.specs.Steps.{working_at}
use Rattle.sha1_compress.proofs.compress.Working.last.Given as goal

abbrev pub invariant-loop-w : goal.invariant-loop-w
invariant-loop-w l = (h m : List ℕ) → length m ≡ 16 → l.fn.self ≡ working_at h m 64 → l.s ≡ steps_of (schedule_of m 64) h (64 + l.w-index)
