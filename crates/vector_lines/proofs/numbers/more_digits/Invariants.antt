-- The digits are read as far as `at`.
use Rattle.std.proofs.Common.{length, ◌-◌}
use Rattle.vector_lines.proofs.Digits.{Spelling}
use Rattle.vector_lines.proofs.numbers.more_digits.Given as goal

abbrev pub invariant-loop-d : goal.invariant-loop-d
invariant-loop-d l = Spelling l.line l.start l.first l.value l.at

abbrev pub decreases-loop-d : goal.decreases-loop-d
decreases-loop-d l = length l.line - l.at
