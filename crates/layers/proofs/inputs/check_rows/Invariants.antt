-- The rows passed have no fault, so the first fault is that of the rows left.
use Rattle.std.proofs.Common.{◌≡◌, ◌-◌}
use Rattle.layers.specs.Inputs.{rows_fault}
use Rattle.layers.proofs.inputs.check_rows.Given as goal

abbrev pub invariant-loop-k : goal.invariant-loop-k
invariant-loop-k l = rows_fault l.table l.samples 0 l.layers ≡ rows_fault l.table l.samples l.k (l.layers - l.k)
