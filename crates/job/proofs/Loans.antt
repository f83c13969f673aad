-- A call that leaves what it was lent as it was leaves the job's memory as it was (`returned_same`). Assumes nothing.
use mathlib.Core.Path.{◌≡◌, refl}
use Prim.Native.Nat.{ℕ, ◌*◌, ◌<◌}
use native.Mathlib.Omega.{arith}
use lib.ListN.{length, take-append-drop, length-take}
use borrow.Author.Tests.{eq-eqb, ne_eqb}
use Rattle.faults.specs.Faults.{NONE, WORK}
use Rattle.layers.specs.Inputs.{Inputs, verdict, job_fault}
use Rattle.job.specs.Memory.{Mem}
use Rattle.job.specs.Job.{pixel_count, memory_fault, call_fault}
use Rattle.job.specs.Loans.{slice, Slot, of_work0, of_work1, of_checkpoint, other, Loan, lent_in, lent, put_back, returned}

back_same : {bits : ℕ} (s : Slot bits) (m : Mem) → put_back s (lent_in s m) m ≡ m
back_same (of_work0 first count) m = simp take-append-drop
back_same (of_work1 first count) m = simp take-append-drop
back_same (of_checkpoint first count) m = simp take-append-drop
back_same (other xs) m = refl

pub returned_same : (l : Loan) (m : Mem) → returned l m (lent l m) ≡ m
returned_same l m = simp back_same

-- an example: a call with a job's inputs that is lent too short a slice of work buffer 0, such as all but its last four words, is refused with WORK
pub short_work :
    (i : Inputs) (job : ℕ) (m : Mem) (first count : ℕ) (work1 : Slot 32) (checkpoint : Slot 64)
    → (job_fault i).number ≡ NONE
    → count < 4 * pixel_count i
    → call_fault i job (lent (record { work0 = of_work0 first count; work1 = work1; checkpoint = checkpoint }) m) ≡ verdict WORK 0
unfolding call_fault memory_fault
short_work i job m first count work1 checkpoint fit few =
    rw (eq-eqb _ _ fit, ne_eqb (length (slice first count m.work0)) (4 * pixel_count i) (λ e. omega (arith, rw length-take at e)))
