-- The stages of twenty steps each, by their numbers.
use Rattle.std.specs.Prelude.{ℕ}
use Rattle.sha1_words.specs.declared.word.Stage.{Stage}
use Rattle.sha1_words.specs.declared.word.Stage.TheVariants.{First, Second, Third, Fourth}

-- the number of a stage: t / 20 for each step t in it
abbrev pub stage_number : Stage → ℕ
stage_number First = 0
stage_number Second = 1
stage_number Third = 2
stage_number Fourth = 3
