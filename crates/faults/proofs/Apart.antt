-- The number of a reason is not that of an answer without a fault, and a test that refuses nothing fails. Assumes nothing.
use Rattle.std.proofs.Common.{◌≡◌, refl, Bool, true, false, Ok, arith}
use Rattle.faults.specs.declared.Fault.{Fault}
use Rattle.faults.specs.declared.Fault.TheVariants.{Stack, Tray, Operator, Curve, Placing, Flags, Source, Arguments, Work, Mark, Narrow, Card, Window, JobNumber, Spot}
use Rattle.faults.specs.Faults.{NONE}
use Rattle.faults.specs.Numbers.{number_of, refused_if}

pub never_none : (fault : Fault) → number_of fault ≡ NONE → ⊥
never_none Stack e = omega arith
never_none Tray e = omega arith
never_none Operator e = omega arith
never_none Curve e = omega arith
never_none Placing e = omega arith
never_none Flags e = omega arith
never_none Source e = omega arith
never_none Arguments e = omega arith
never_none Work e = omega arith
never_none Mark e = omega arith
never_none Narrow e = omega arith
never_none Card e = omega arith
never_none Window e = omega arith
never_none JobNumber e = omega arith
never_none Spot e = omega arith

pub passed : (holds : Bool) (fault : Fault) {u : Unit} → refused_if holds fault ≡ Ok u → holds ≡ false
passed true fault e = absurd cc
passed false fault e = refl
