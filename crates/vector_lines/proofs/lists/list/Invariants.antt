-- The numbers before the index are read.
use Rattle.vector_lines.proofs.Filling.{Filled}
use Rattle.vector_lines.proofs.lists.list.Given as goal

abbrev pub invariant-loop-x : goal.invariant-loop-x
invariant-loop-x g l = Filled (g.T.Number.read_at l.line) l.initial.next l.initial.x-items l.x-index l.x-items l.next
