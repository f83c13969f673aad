-- No number is read at first, and one more each time; at the end all that the head announces stand in the list's front.
use Rattle.std.proofs.Common.{◌≤◌, length, arith, length-take}
use Rattle.vector_lines.proofs.Filling.{none_read, one_read, front_read, kept_list, given_list}
use Rattle.vector_lines.proofs.lists.list.Goals as goal

pub returns-in-Some : goal.returns-in-Some
returns-in-Some g c = kept_list (g.T.Number.read_at c.args.line.now) _ _ _ _ c.in-Some.ensures

pub loop-x-init : goal.loop-x-init
loop-x-init g c = none_read _ _ _

pub loop-x-preserved : goal.loop-x-preserved
loop-x-preserved g c = one_read _ _ _ _ _ c.loop-x.invariant _ c.read-read.ensures

pub returns : goal.returns
returns g c =
    let fits : c.number_up_to-head.result.value ≤ length c.args.list.now = c.number_up_to-head.ensures.value_le_most in
    let last : c.loop-x.x-index ≤ c.number_up_to-head.result.value =
    omega (arith, c.loop-x.auto.x-index-end, length-take c.number_up_to-head.result.value c.args.list.now) in
    let all : c.number_up_to-head.result.value ≤ c.loop-x.x-index =
    omega (arith, c.loop-x-test.false, length-take c.number_up_to-head.result.value c.args.list.now) in
    let read = front_read _ _ _ _ _ _ fits last all c.loop-x.invariant in
    given_list (g.T.Number.read_at c.args.line.now) _ _ _ _ c.in_default.ensures c.number_up_to-head.ensures.value read.0 read.1
