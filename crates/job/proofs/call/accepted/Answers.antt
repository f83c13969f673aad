-- The writes of the call are due, and what it answers is what they leave.
use Rattle.std.proofs.Common.{◌≡◌, refl, arith}
use Rattle.layers.specs.Inputs.{inputs_in}
use Rattle.job.specs.Memory.{mem_in}
use Rattle.job.specs.Call.{made_of}
use Rattle.job.proofs.Checked.{bounded, call_inputs, call_midway, call_accepted}
use Rattle.job.proofs.Parts.{ran_lengths}
use Rattle.job.proofs.call.accepted.Goals as goal

pub end_of-end-requires : goal.end_of-end-requires
end_of-end-requires c = call_inputs _ _ _ c.requires

pub bounds-memory-0 : goal.bounds-memory-0
bounds-memory-0 c = let v = call_midway _ _ _ c.requires 0 in omega (arith, v.sized.checkpoint)

pub overflow_sub-left : goal.overflow_sub-left
overflow_sub-left c = let v = call_midway _ _ _ c.requires 0 in omega (arith, v.within, c.end_of-end.ensures)

pub overflow_mul-left : goal.overflow_mul-left
overflow_mul-left c = omega (arith, (bounded _ (call_inputs _ _ _ c.requires)).end, c.end_of-end.ensures)

-- no more writes than are left are due
pub writes-requires : goal.writes-requires
writes-requires c =
    let m = mem_in c.args.memory.now in
    let due : c.min-due.result ≡ made_of (inputs_in c.args.inputs) c.min-due.result m = omega (arith, c.min-due.ensures, c.end_of-end.ensures) in
    (refl, rw due (call_midway _ _ m c.requires c.min-due.result))

pub bounds-memory-0-2 : goal.bounds-memory-0-2
bounds-memory-0-2 c =
    let m = mem_in c.args.memory.now in
    let due : c.min-due.result ≡ made_of (inputs_in c.args.inputs) c.min-due.result m = omega (arith, c.min-due.ensures, c.end_of-end.ensures) in
    let v = call_midway _ _ m c.requires c.min-due.result in
    omega (arith, v.sized.checkpoint, (ran_lengths (rw due at c.writes.ensures.0) v).2)

pub returns : goal.returns
returns c =
    let due = rw c.end_of-end.ensures at c.min-due.ensures in
    (call_accepted _ _ _ c.end_of-end.ensures (rw due at c.writes.ensures.0), c.writes.ensures.1)
