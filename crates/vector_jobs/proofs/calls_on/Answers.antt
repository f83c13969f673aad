-- A call takes two of the numbers that are left; at the end none is left, or one, which is out of form.
use Rattle.std.proofs.Common.{◌≡◌, ◌<◌, length, rules}
use Rattle.vector_jobs.proofs.Calls.{one_made, all_made, one_left}
use Rattle.vector_jobs.proofs.calls_on.Goals as goal

pub loop-left-preserved : goal.loop-left-preserved
loop-left-preserved c = one_made c.loop-left.invariant c.in-len2-up.len_at_least c.call-at.ensures

pub returns-then-is_empty : goal.returns-then-is_empty
returns-then-is_empty c = let none : length c.loop-left.left.now ≡ 0 = search rules in all_made c.loop-left.invariant none

pub returns-else-is_empty : goal.returns-else-is_empty
returns-else-is_empty c = let some : 0 < length c.loop-left.left.now = search rules in one_left c.loop-left.invariant some c.in_default.len_below
