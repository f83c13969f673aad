-- The invariant: c of the writes have been made.
use Rattle.job.specs.Memory.{mem_in, SameLists}
use Rattle.job.specs.Steps.{batch_in, Ran}
use Rattle.job.proofs.pixel.pixel.Given as goal

abbrev pub invariant-loop-c : goal.invariant-loop-c
invariant-loop-c l =
    Ran (batch_in l.extent) l.initial.uses l.c l.uses (mem_in l.initial.memory) (mem_in l.memory)
    × SameLists l.initial.memory l.memory
