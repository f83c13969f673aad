-- A line that asks something is counted with its kind.
use Rattle.std.proofs.Common.{rules}
use Rattle.verdicts.proofs.Counting.{line_right, line_wrong}
use Rattle.verdicts.proofs.judging.count_line.Goals as goal

pub returns-then-is_right : goal.returns-then-is_right
returns-then-is_right c =
    line_right c.args.kinds.now c.args.line.now c.args.place c.args.number c.args.tallies.now c.args.first_wrong (search rules) (search rules)
    c.if-is_right.true c.first.ensures c.kind_of.ensures c.count_kind.ensures

pub returns-else-is_right : goal.returns-else-is_right
returns-else-is_right c =
    line_wrong c.args.kinds.now c.args.line.now c.args.place c.args.number c.args.tallies.now c.args.first_wrong (search rules) (search rules)
    c.if-is_right.false c.first.ensures c.kind_of.ensures c.count_kind.ensures c.or.ensures
