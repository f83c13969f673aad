-- The first j pixels of out are composed, and the rest is as it was. The measure is the pixels left.
use Rattle.std.proofs.Common.{◌-◌, ◌≡◌, ◌≤◌}
use Rattle.pictures.specs.Widen.{rgba_at}
use Rattle.pictures.specs.Steps.{filled}
use Rattle.compose.specs.Plans.{pixel_on}
use Rattle.compose.proofs.single.spans.Given as goal

abbrev pub invariant-loop-j : goal.invariant-loop-j
invariant-loop-j l = record {
  within : l.j ≤ l.total;
  done : l.out ≡ filled (pixel_on l.p l.source (rgba_at l.dst l.channels)) l.j l.fn.out;
}

abbrev pub decreases-loop-j : goal.decreases-loop-j
decreases-loop-j l = l.total - l.j
