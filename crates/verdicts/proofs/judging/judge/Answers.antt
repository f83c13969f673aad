-- A turn of the loop counts one line.
use Rattle.std.proofs.Common.{arith}
use Rattle.verdicts.proofs.Counting.{none_judged, one_judged, number_fits, all_judged}
use Rattle.verdicts.proofs.judging.judge.Goals as goal

pub loop-line-init : goal.loop-line-init
loop-line-init g c = rw (c.into_iter-line-iterator.ensures.into_iter_gives, c.new-line-items.ensures) (tt, tt, none_judged _ _ _ _ _ _)

pub overflow_add-i : goal.overflow_add-i
overflow_add-i g c = omega (arith, number_fits _ c.loop-line.invariant.2 c.in-Some.ensures.steps)

pub loop-line-preserved : goal.loop-line-preserved
loop-line-preserved g c = (tt, tt, one_judged _ c.loop-line.invariant.2 c.in-Some.ensures.steps c.answer_if-place.ensures c.count_line-first_wrong.ensures)

pub returns : goal.returns
returns g c = all_judged _ c.loop-line.invariant.2 c.in-None.ensures.steps.0
