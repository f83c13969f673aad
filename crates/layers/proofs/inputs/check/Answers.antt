-- The table of a stack without a fault has the rows that its count says.
use Rattle.std.proofs.Common.{sym, ◌∙◌, arith}
use Rattle.faults.proofs.Apart.{passed}
use Rattle.layers.proofs.Accepted.{stacked}
use Rattle.layers.proofs.inputs.check.Goals as goal

pub check_rows-requires : goal.check_rows-requires
check_rows-requires c =
    let fits = sym c.bad_stack.ensures ∙ passed _ _ (sym c.when.ensures ∙ c.in_ok-when.was) in
    omega (arith, c.natural.ensures, (stacked _ _ _ fits).rows)
