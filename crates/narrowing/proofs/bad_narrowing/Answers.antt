-- Wanted channels are four at most, so that the product fits.
use Rattle.std.proofs.Common.{◌≡◌, ◌/◌, false, arith, w64}
use Rattle.std.proofs.Math.Facts.{to_z-of_z}
use Rattle.std.proofs.Math.Nat.{mul-le-mul_left}
use Rattle.pictures.specs.Shapes.{bad_channels}
use Rattle.pictures.proofs.Ranges.{channelled, channels_most}
use Rattle.narrowing.proofs.bad_narrowing.Goals as goal
use Rattle.narrowing.proofs.bad_narrowing.Goals.{then-bad_channels, else-bad_channels}

pub overflow_mul-result : goal.overflow_mul-result
overflow_mul-result c =
    let same = to_z-of_z {w = w64} c.ranges.wanted in
    let wanted : bad_channels c.args.wanted ≡ false = elim c.if-bad_channels.branch [
      | then-bad_channels w ↦ absurd cc
      | else-bad_channels w ↦ cc same
    ] in
    let most = channels_most _ (channelled _ wanted).kind in
    record { fits = rw (c.natural.ensures, same) (omega (arith, mul-le-mul_left (c.args.input / 4) most)) }
