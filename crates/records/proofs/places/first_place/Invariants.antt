-- `records::places::first_place` meets its contract.
use mathlib.Core.Bool.{false}
use Prim.Native.Nat.{ℕ, ◌<◌}
use Rattle.memory.specs.Words.{word}
use Rattle.session.specs.Memory.{record_place}
use Rattle.records.proofs.places.first_place.Given as goal

abbrev pub invariant-loop-i : goal.invariant-loop-i
invariant-loop-i g l = (k : ℕ) → k < l.i → goal.F-post g l.test (word l.session (record_place k)) false
