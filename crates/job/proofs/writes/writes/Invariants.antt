-- The invariant: memory is what the call's first `uses` writes leave, whole pixels while writes are due. The measure is what is left of the writes.
use Rattle.std.proofs.Common.{◌≡◌, ◌-◌, ◌%◌, ◌<◌, ◌≤◌}
use Rattle.job.specs.Memory.{mem_in, SameLists}
use Rattle.job.specs.Steps.{batch_in, Ran}
use Rattle.job.proofs.writes.writes.Given as goal

abbrev pub invariant-loop-uses : goal.invariant-loop-uses
invariant-loop-uses l = record {
  within : l.uses ≤ l.extent.due;
  whole : l.uses < l.extent.due → l.uses % 5 ≡ 0;
  ran : Ran (batch_in l.extent) 0 l.uses l.uses (mem_in l.initial.memory) (mem_in l.memory);
  same : SameLists l.initial.memory l.memory;
}

abbrev pub decreases-loop-uses : goal.decreases-loop-uses
decreases-loop-uses l = l.extent.due - l.uses
