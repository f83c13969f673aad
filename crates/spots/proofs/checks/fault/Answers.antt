-- Inputs without a fault have the rows and the words that their count says.
use Rattle.std.proofs.Common.{◌≡◌, sym, ap, arith}
use Rattle.layers.specs.Inputs.{Inputs, Verdict, inputs_in, job_fault}
use Rattle.layers.proofs.Accepted.{Accepted, accepted}
use Rattle.spots.proofs.checks.fault.Goals as goal

pub bad_spot-requires : goal.bad_spot-requires
bad_spot-requires c =
    let i : Inputs = inputs_in c.args.inputs in
    let none : (job_fault i).number ≡ 0 = sym (ap (λ (v : Verdict). v.number) c.in_ok-check.ensures) in
    let a : Accepted i = accepted i none in
    (rw a.table (omega arith), rw a.args (omega arith))
