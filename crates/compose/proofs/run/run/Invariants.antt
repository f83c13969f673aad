-- The first i pixels of out are composed, and the rest is as it was; x and y are the column and the row of the next.
use Rattle.std.proofs.Common.{◌≡◌, ◌+◌, ◌/◌, ◌%◌}
use Rattle.pictures.specs.Widen.{rgba_at}
use Rattle.pictures.specs.Steps.{filled, values_at}
use Rattle.compose.specs.Plans.{pixels_from}
use Rattle.compose.proofs.run.run.Given as goal

abbrev pub invariant-loop-i : goal.invariant-loop-i
invariant-loop-i l = record {
  done : l.out ≡ filled (pixels_from l.p l.source (values_at l.picture l.channels) (rgba_at l.beneath 4) l.from) l.i l.fn.out;
  column : l.x ≡ (l.from + l.i) % l.p.dw;
  row : l.y ≡ (l.from + l.i) / l.p.dw;
}
