-- k lines are read, each with its window, and what is left to read leaves what all of them leave.
use Rattle.std.proofs.Common.{◌≡◌}
use Rattle.cards.specs.Card.{read_lines}
use Rattle.cards.specs.Steps.{counted_in}
use Rattle.cards.proofs.Counting.{left}
use Rattle.cards.proofs.lines.lines.Given as goal

abbrev pub invariant-loop-k : goal.invariant-loop-k
invariant-loop-k l = counted_in l.initial.table l.initial.args 0 (read_lines l.form l.most 2 l.fn.s) ≡ left l.form l.rest l.most l.table l.args l.k
