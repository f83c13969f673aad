-- Inputs without a fault are bounded.
use Rattle.std.proofs.Common.{arith, sym, ap}
use Rattle.layers.specs.Inputs.{Verdict}
use Rattle.job.proofs.Checked.{bounded}
use Rattle.job.proofs.call.fault.Goals as goal

pub memory_fault-requires : goal.memory_fault-requires
memory_fault-requires c =
    omega (arith, c.pixel_count-pixels.ensures, (bounded _ (sym (ap (λ (v : Verdict). v.number) c.in_ok-check.ensures))).pixels)
