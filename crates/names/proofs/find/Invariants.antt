-- The search from the k-th name on, whose bytes begin at `at`, answers as the whole search, and the lengths from there on fit in what is left of the bytes.
use Rattle.std.proofs.Common.{◌≡◌, length, drop, ◌+◌, ◌≤◌}
use Rattle.names.specs.Names.{key_of}
use Rattle.names.specs.Packed.{letters, lengths, total}
use Rattle.names.proofs.Packing.{search_from}
use Rattle.names.proofs.find.Given as goal

abbrev pub invariant-loop-k : goal.invariant-loop-k
invariant-loop-k l = record {
  fits : l.at + total (drop l.k lengths) ≤ length letters;
  as_whole : search_from (key_of l.s) letters lengths 0 0 ≡ search_from (key_of l.s) letters lengths l.at l.k;
}
