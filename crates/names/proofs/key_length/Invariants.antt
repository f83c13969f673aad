-- n bytes count of those before, no more than the longest name has, and with those that are left they are the key's.
use Rattle.std.proofs.Common.{◌≡◌, ◌+◌, ◌≤◌}
use Rattle.names.specs.Packed.{most_letters}
use Rattle.names.proofs.Reading.{counted}
use Rattle.names.proofs.key_length.Given as goal

abbrev pub invariant-loop-b : goal.invariant-loop-b
invariant-loop-b l = record { few : l.n ≤ most_letters; sum : l.n + counted l.s l.b-index ≡ counted l.s 0 }
