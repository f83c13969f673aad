-- The tests in turn, of which the first two failed.
use Rattle.std.proofs.Common.{◌≡◌, false, rules, w64, to_z, of_z}
use Rattle.std.proofs.lemmas.Int.{to_z-of_z}
use Rattle.spots.specs.Answers.{off, bad_spot}
use Rattle.spots.proofs.checks.bad_spot.Goals as goal
use Rattle.spots.proofs.checks.bad_spot.Goals.{then-off, else-off}

pub returns-else-off-2 : goal.returns-else-off-2
unfolding bad_spot
returns-else-off-2 c =
    let count : to_z w64 (of_z w64 c.args.inputs.count) ≡ c.args.inputs.count = to_z-of_z w64 c.args.inputs.count (search rules) in
    let across : off c.args.inputs.shape.width c.args.x ≡ false = search rules in
    let down : off c.args.inputs.shape.height c.args.y ≡ false = elim c.if-off.branch [ then-off w ↦ absurd cc | else-off w ↦ search rules ] in
    rw (across, down, c.maps.ensures, c.natural.ensures, count)
