-- Document 01, "Numbers given back": an answer's number, which is 0 for a result, and its value, the packet's index.
use Rattle.bits.specs.declared.refusal.Refusal.{Refusal}
use Rattle.std.specs.Prelude.{ℕ, Result, Ok, Err}
use Rattle.bits.specs.Refusals.{number_of}
use Rattle.replay.specs.declared.answer.Told.{Told}

-- a refusal tells no index: 0 stands in its place
abbrev pub told_of : Result ℕ Refusal → Told
told_of (Ok i) = record { number = 0; index = i }
told_of (Err r) = record { number = number_of r; index = 0 }
