-- The number of each reason for a refusal, and what is answered where a test holds.
use Rattle.std.specs.Prelude.{Bool, cond, ℕ, Result, Ok, Err}
use Rattle.faults.specs.declared.Fault.{Fault}
use Rattle.faults.specs.declared.Fault.TheVariants.{Stack, Tray, Operator, Curve, Placing, Flags, Source, Arguments, Work, Mark, Narrow, Card, Window, JobNumber, Spot}
use Rattle.faults.specs.Faults.{NONE, STACK, TRAY, OPERATOR, CURVE, PLACING, FLAGS, SOURCE, ARGUMENTS, WORK, MARK, NARROW, CARD, WINDOW, JOB_NUMBER, SPOT}

abbrev pub number_of : Fault → ℕ
number_of Stack = STACK
number_of Tray = TRAY
number_of Operator = OPERATOR
number_of Curve = CURVE
number_of Placing = PLACING
number_of Flags = FLAGS
number_of Source = SOURCE
number_of Arguments = ARGUMENTS
number_of Work = WORK
number_of Mark = MARK
number_of Narrow = NARROW
number_of Card = CARD
number_of Window = WINDOW
number_of JobNumber = JOB_NUMBER
number_of Spot = SPOT

-- the number of an answer: NONE where nothing is refused
abbrev pub number_in : {A : Type 0} → Result A Fault → ℕ
number_in (Ok a) = NONE
number_in (Err fault) = number_of fault

-- a refusal where a test holds
abbrev pub refused_if : Bool → Fault → Result Unit Fault
refused_if holds fault = cond holds (Err fault) (Ok tt)
