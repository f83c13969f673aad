-- A byte that is a digit stands in the line, so there is a place after it; then the cases are the definition's.
use Rattle.std.proofs.Common.{◌<◌, length, rules, sym, ◌∙◌}
use Rattle.vector_lines.proofs.Digits.{in_line, no_digits, other_first, zero_first, zero_alone}
use Rattle.vector_lines.proofs.numbers.digits.Goals as goal
use Rattle.vector_lines.proofs.numbers.digits.Goals.{else-first-eq0-via-then-first-eq0+else-is_some, else-first-eq0-via-else-first-eq0}

pub returns-in_default : goal.returns-in_default
returns-in_default c = no_digits _ _ c.in_default.ensures c.nothing.ensures

pub overflow_add-second : goal.overflow_add-second
overflow_add-second c = let inside : c.args.start < length c.args.line.now = in_line c.args.line.now c.args.start _ c.in-Some.ensures in search rules

pub returns-then-is_some : goal.returns-then-is_some
returns-then-is_some c =
    zero_first _ _ _ c.in-Some.ensures c.if-first-eq0.true _ c.digit_at-then-first-eq0.ensures (sym c.is_some.ensures ∙ c.if-is_some.true)
    c.nothing-then-is_some.ensures

pub returns : goal.returns
returns c =
    elim c.else-first-eq0.branch [
      | else-first-eq0-via-then-first-eq0+else-is_some w ↦
          zero_alone _ _ _ c.in-Some.ensures _ w.digit_at-then-first-eq0.ensures (sym w.is_some.ensures ∙ w.if-is_some.false) c.more_digits.ensures
      | else-first-eq0-via-else-first-eq0 w ↦ other_first _ _ _ c.in-Some.ensures w.if-first-eq0.false c.more_digits.ensures
    ]
