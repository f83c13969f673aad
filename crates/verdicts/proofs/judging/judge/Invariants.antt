-- The lines before those that are left are counted.
use Rattle.std.proofs.Common.{None}
use Rattle.verdicts.specs.Lines.{lines_of, counts}
use Rattle.verdicts.proofs.Counting.{Judging}
use Rattle.verdicts.proofs.judging.judge.Given as goal

abbrev pub invariant-loop-line : goal.invariant-loop-line
invariant-loop-line g l =
    (goal.iterator-loop-line g).can_next l.line-iterator
    × (goal.iterator-loop-line g).is_finite l.line-iterator
    × Judging g.A.Answering.answered l.kinds l.most l.text (g.A.Answering.kept l.initial.answers) (counts l.initial.tallies None) (g.A.Answering.kept l.answers)
    (counts l.tallies l.first_wrong) l.i (lines_of l.line-iterator.rest.now)
