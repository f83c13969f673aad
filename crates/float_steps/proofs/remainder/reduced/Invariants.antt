use Rattle.float_steps.proofs.ByMantissas.{Reducing}
use Rattle.float_steps.proofs.remainder.reduced.Given as goal

abbrev pub invariant-loop-left : goal.invariant-loop-left
invariant-loop-left l = Reducing l.a l.b l.k l.r l.left

abbrev pub decreases-loop-left : goal.decreases-loop-left
decreases-loop-left l = l.left
