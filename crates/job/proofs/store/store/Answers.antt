-- What the write names is there.
use Rattle.std.proofs.Common.{◌<◌, length, arith}
use Rattle.job.proofs.Parts.{use_range}
use Rattle.job.proofs.store.store.Goals as goal

pub offset_bounds-memory-at : goal.offset_bounds-memory-at
offset_bounds-memory-at c =
    let h : c.in-Work0.at < length c.args.memory.now.work0.now = rw c.in-Work0.is at (use_range c.requires) in
    omega (arith, c.well_formed)

pub bounds-memory-at : goal.bounds-memory-at
bounds-memory-at c = rw c.in-Work0.is at (use_range c.requires)

pub offset_bounds-memory-at-in-Work1 : goal.offset_bounds-memory-at-in-Work1
offset_bounds-memory-at-in-Work1 c =
    let h : c.in-Work1.at < length c.args.memory.now.work1.now = rw c.in-Work1.is at (use_range c.requires) in
    omega (arith, c.well_formed)

pub bounds-memory-at-in-Work1 : goal.bounds-memory-at-in-Work1
bounds-memory-at-in-Work1 c = rw c.in-Work1.is at (use_range c.requires)
