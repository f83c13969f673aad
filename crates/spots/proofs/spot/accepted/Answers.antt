-- A call without a fault asks for its spot's pixel in the last picture.
use Rattle.std.proofs.Common.{◌≡◌, arith, rules, w64}
use Rattle.std.proofs.lemmas.Int.{to_z-of_z}
use Rattle.pictures.specs.Shapes.{nat_of}
use Rattle.layers.specs.Inputs.{inputs_in}
use Rattle.spots.proofs.Accepting.{spot_fits, asked}
use Rattle.spots.proofs.spot.accepted.Goals as goal

pub overflow_mul-j : goal.overflow_mul-j
overflow_mul-j c =
    let row : c.natural.result ≡ nat_of c.args.y = cc (c.natural.ensures, to_z-of_z w64 c.args.y (search rules)) in
    rw (row, c.width_of.ensures) (omega (arith, (spot_fits (inputs_in c.args.inputs) c.args.x c.args.y c.requires).1))

pub overflow_add-j : goal.overflow_add-j
overflow_add-j c =
    let row : c.natural.result ≡ nat_of c.args.y = cc (c.natural.ensures, to_z-of_z w64 c.args.y (search rules)) in
    let column : c.natural-2.result ≡ nat_of c.args.x = cc (c.natural-2.ensures, to_z-of_z w64 c.args.x (search rules)) in
    rw (row, column, c.width_of.ensures) (omega (arith, (spot_fits (inputs_in c.args.inputs) c.args.x c.args.y c.requires).1))

pub pixel-colour-requires : goal.pixel-colour-requires
pixel-colour-requires c =
    let row : c.natural.result ≡ nat_of c.args.y = cc (c.natural.ensures, to_z-of_z w64 c.args.y (search rules)) in
    let column : c.natural-2.result ≡ nat_of c.args.x = cc (c.natural-2.ensures, to_z-of_z w64 c.args.x (search rules)) in
    let layers : c.natural-3.result ≡ nat_of c.args.inputs.count = cc (c.natural-3.ensures, to_z-of_z w64 c.args.inputs.count (search rules)) in
    rw (row, column, layers, c.width_of.ensures) (asked (inputs_in c.args.inputs) c.args.x c.args.y c.requires)
