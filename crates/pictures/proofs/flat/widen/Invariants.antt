-- The first i pixels of out are those of the picture from `from` on, and the rest is as it was. The measure is the pixels left.
use Rattle.std.proofs.Common.{◌-◌, ◌≡◌, ◌+◌, ◌≤◌, length}
use Rattle.pictures.specs.Widen.{rgba_at}
use Rattle.pictures.specs.Steps.{filled}
use Rattle.pictures.proofs.flat.widen.Given as goal

abbrev pub invariant-loop-i : goal.invariant-loop-i
invariant-loop-i l = record {
  within : l.i ≤ l.count;
  done : l.out ≡ filled (λ k. rgba_at l.picture l.channels (l.from + k)) l.i l.fn.out;
  long : length l.out ≡ length l.fn.out;
}

abbrev pub decreases-loop-i : goal.decreases-loop-i
decreases-loop-i l = l.count - l.i
