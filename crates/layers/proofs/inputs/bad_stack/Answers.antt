-- A count in its range makes a product that fits.
use Rattle.std.proofs.Common.{◌≡◌, sym, ◌∙◌, false, pos, arith, w64}
use Rattle.std.proofs.Math.Facts.{to_z-of_z}
use Rattle.pictures.specs.Shapes.{outside_z}
use Rattle.pictures.proofs.Ranges.{ranged}
use Rattle.layers.specs.Limits.{most_layers}
use Rattle.layers.proofs.inputs.bad_stack.Goals as goal

pub overflow_mul-n : goal.overflow_mul-n
overflow_mul-n c =
    let same = to_z-of_z {w = w64} c.ranges.count in
    let tested = rw same at c.outside.ensures in
    let counted = rw same at c.natural-n.ensures in
    let in_range : outside_z (pos 1) (pos most_layers) c.args.count ≡ false = sym tested ∙ c.if-outside.false in
    omega (arith, counted, (ranged _ _ _ in_range).most)
