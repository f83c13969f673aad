-- An operator whose number has no fault is carried: it is neither Interpolate nor Blur. Assumes nothing.
use mathlib.Core.Path.{◌≡◌, refl, ap}
use mathlib.Core.Bool.{Bool, true, false, cond}
use native.Mathlib.Omega.{arith}
use lib.Dec.{ltb}
use lib.IntN.{ℤ, pos, negsuc}
use borrow.Author.Tests.{eqb-false}
use Rattle.std.specs.Prelude.{Ok, Err}
use Rattle.operators.specs.Numbers.{curve, named, op_of}
use Rattle.operators.specs.Operators.{count, number_of, op_at, same_op}
use Rattle.operators.specs.declared.CompositeOp.{CompositeOp}
use Rattle.operators.specs.declared.CompositeOp.TheVariants.{Interpolate, Blur}
use Rattle.faults.specs.declared.Fault.TheVariants.{Operator, Curve}
use Rattle.pictures.specs.Shapes.{nat_of}
use Rattle.pictures.proofs.Ranges.{both_fail}
use Rattle.layers.specs.Faults.{op_fault}
use Rattle.layers.specs.GoodLayers.{Carried}

passed : (below curve : Bool) (o : CompositeOp) → op_fault (cond below (cond curve (Err Curve) (Ok o)) (Err Operator)) ≡ 0 → (below ≡ true) × (curve ≡ false)
passed true true o e = absurd (omega arith)
passed true false o e = (refl, refl)
passed false curve o e = absurd (omega arith)

pub carried : (z : ℤ) → op_fault (op_of z) ≡ 0 → Carried (op_at (nat_of z))
unfolding nat_of named
carried (pos n) e =
    let o = op_at n in
    let p = passed (ltb n count) (curve o) o e in
    let q = both_fail (same_op o Interpolate) (same_op o Blur) p.1 in
    record {
      not_interpolate = λ i. eqb-false (number_of o) (number_of Interpolate) q.0 (ap number_of i);
      not_blur = λ i. eqb-false (number_of o) (number_of Blur) q.1 (ap number_of i);
    }
carried (negsuc n) e = absurd (omega arith)
