-- The calls that are made leave those that are left. The measure is how many numbers these have.
use Rattle.std.proofs.Common.{length}
use Rattle.job.specs.Memory.{mem_of}
use Rattle.vector_rooms.specs.Rooms.{inputs_in}
use Rattle.vector_jobs.specs.Jobs.{played}
use Rattle.vector_jobs.proofs.Calls.{Calling}
use Rattle.vector_jobs.proofs.calls_on.Given as goal

abbrev pub invariant-loop-left : goal.invariant-loop-left
invariant-loop-left l =
    Calling l.line (inputs_in l.asked) l.calls (played l.fn.from (mem_of l.fn.work0 l.fn.work1 l.fn.checkpoint)) l.left
    (played l.at (mem_of l.work0 l.work1 l.checkpoint))

abbrev pub decreases-loop-left : goal.decreases-loop-left
decreases-loop-left l = length l.left
