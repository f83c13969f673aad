-- The invariant: x whole pixels have been written.
use Rattle.std.proofs.Common.{◌*◌}
use Rattle.job.specs.Memory.{mem_in, SameLists}
use Rattle.job.specs.Steps.{batch_in, Ran}
use Rattle.job.proofs.pixel.write_out.Given as goal

abbrev pub invariant-loop-x : goal.invariant-loop-x
invariant-loop-x l =
    Ran (batch_in l.extent) l.initial.uses (5 * l.x) l.uses (mem_in l.initial.memory) (mem_in l.memory)
    × SameLists l.initial.memory l.memory
