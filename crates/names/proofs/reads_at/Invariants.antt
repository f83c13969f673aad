-- What is left of the text compares with the letters from j as the whole does, and lies within them.
use Rattle.std.proofs.Common.{length, ◌≡◌, ◌+◌, ◌≤◌}
use Rattle.names.specs.Packed.{letters}
use Rattle.names.proofs.Reading.{counted, left}
use Rattle.names.proofs.reads_at.Given as goal

abbrev pub invariant-loop-b : goal.invariant-loop-b
invariant-loop-b l = record {
  within : l.j + counted l.s l.b-index ≤ length letters;
  as_whole : left l.s letters 0 l.fn.at ≡ left l.s letters l.b-index l.j;
}
