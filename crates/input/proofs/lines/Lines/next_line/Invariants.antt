-- `input::lines::Lines::next_line` meets its contract: no line feed so far, and nothing before a line is begun.
use Rattle.std.proofs.Common.{◌≡◌, ◌≢◌, false, [], All}
use Rattle.input.proofs.lines.Lines.next_line.Given as goal

abbrev pub invariant-loop : goal.invariant-loop
invariant-loop g l = All (λ b. b ≢ 10) l.line.items × (l.is_begun ≡ false → l.line.items ≡ [])
