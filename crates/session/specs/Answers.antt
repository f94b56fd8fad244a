-- What a packet call gives back, by its result or refusal.
use Rattle.bits.specs.declared.refusal.Refusal.{Refusal}
use Rattle.bits.specs.Refusals.{number_of}
use Rattle.std.specs.Prelude.{ℕ, Result, Ok, Err}
use Rattle.session.specs.declared.answer.Answer.{Answer}

-- a refusal has no length: 0 stands in its place
abbrev pub answer_of : Result ℕ Refusal → Answer
answer_of (Ok n) = record { number = 0; length = n }
answer_of (Err r) = record { number = number_of r; length = 0 }
