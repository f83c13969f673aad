-- What a number of a layer's row names.
-- Document 01's table: 3, OPERATOR, "number not 0 to 69"; 4, CURVE, "operator 43 (Interpolate) or 67 (Blur)".
use Rattle.std.specs.Prelude.{Bool, cond, ◌||◌, ltb, ℤ, pos, negsuc, Result, Ok, Err}
use Rattle.operators.specs.Operators.{count, op_at, same_op}
use Rattle.operators.specs.declared.CompositeOp.{CompositeOp}
use Rattle.operators.specs.declared.CompositeOp.TheVariants.{Interpolate, Blur}
use Rattle.faults.specs.declared.Fault.{Fault}
use Rattle.faults.specs.declared.Fault.TheVariants.{Operator, Curve}

-- the two that are not carried
abbrev pub curve : CompositeOp → Bool
curve o = same_op o Interpolate || same_op o Blur

-- what an operator's number names
unfoldable pub named : CompositeOp → Result CompositeOp Fault
named o = cond (curve o) (Err Curve) (Ok o)

-- what a number names; the operators have the numbers below their count
abbrev pub op_of : ℤ → Result CompositeOp Fault
op_of (pos n) = cond (ltb n count) (named (op_at n)) (Err Operator)
op_of (negsuc n) = Err Operator
