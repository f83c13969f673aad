-- The maps among the layers passed are counted.
use Rattle.std.proofs.Common.{◌≡◌, ◌≤◌}
use Rattle.spots.specs.Spots.{maps_of}
use Rattle.spots.proofs.checks.maps.Given as goal

abbrev pub invariant-loop-k : goal.invariant-loop-k
invariant-loop-k l = record { counted : l.count ≡ maps_of l.table l.args l.k; fits : l.count ≤ l.k }
