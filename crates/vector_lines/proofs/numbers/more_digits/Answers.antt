-- Each digit that is read is spelt before the place, and a place of a digit is in the line.
use Rattle.std.proofs.Common.{◌<◌, length, rules, arith}
use Rattle.vector_lines.proofs.Digits.{none_spelt, one_spelt, in_line, is_digit, too_long, all_spelt}
use Rattle.vector_lines.proofs.numbers.more_digits.Goals as goal

pub loop-d-init : goal.loop-d-init
loop-d-init c = none_spelt _ _ _ (search rules)

pub returns-then-value : goal.returns-then-value
returns-then-value c = too_long c.loop-d.invariant c.in-Some.d c.in-Some.ensures c.if-value.true c.nothing.ensures

pub overflow_mul-value : goal.overflow_mul-value
overflow_mul-value c = search rules

pub overflow_add-value : goal.overflow_add-value
overflow_add-value c = let h : c.in-Some.d < 16 = is_digit c.args.line.now c.loop-d.at _ c.in-Some.ensures in search rules

pub overflow_add-at : goal.overflow_add-at
overflow_add-at c = let h : c.loop-d.at < length c.args.line.now = in_line c.args.line.now c.loop-d.at _ c.in-Some.ensures in search rules

pub loop-d-smaller : goal.loop-d-smaller
loop-d-smaller c = let h : c.loop-d.at < length c.args.line.now = in_line c.args.line.now c.loop-d.at _ c.in-Some.ensures in omega arith

pub loop-d-preserved : goal.loop-d-preserved
loop-d-preserved c = one_spelt c.loop-d.invariant c.in-Some.d c.in-Some.ensures c.if-value.false

pub returns : goal.returns
returns c = all_spelt c.loop-d.invariant c.in_default.ensures
