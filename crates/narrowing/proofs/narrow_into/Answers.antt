-- Where nothing is refused there are channels wanted, and the output has room for just them.
use Rattle.std.proofs.Common.{◌≡◌, sym, ◌∙◌, false, length, w64}
use Rattle.std.proofs.Math.Facts.{to_z-of_z}
use Rattle.faults.proofs.Apart.{passed}
use Rattle.narrowing.specs.Narrow.{bad_narrowing}
use Rattle.narrowing.proofs.Accepting.{accepted}
use Rattle.narrowing.proofs.narrow_into.Goals as goal

pub fill-requires : goal.fill-requires
fill-requires g c =
    let same = to_z-of_z {w = w64} c.ranges.wanted in
    let fits : bad_narrowing c.args.wanted (length c.args.input.now) (length c.args.output.now) ≡ false =
    cc (same, passed _ _ (sym c.when.ensures ∙ c.in_ok-when.was)) in
    rw (c.natural.ensures, same) (accepted _ _ _ fits)
