-- An accepted call has no fault, and so the checkpoint's number.
use Rattle.std.proofs.Common.{sym, ap}
use Rattle.layers.specs.Inputs.{Verdict}
use Rattle.job.proofs.Checked.{own_number}
use Rattle.job.proofs.call.run.Goals as goal

pub accepted-requires : goal.accepted-requires
accepted-requires c = own_number _ _ _ (sym (ap (λ (v : Verdict). v.number) c.in_ok-fault.ensures))
