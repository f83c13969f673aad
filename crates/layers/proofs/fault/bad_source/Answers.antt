-- A start below 2^63 and a shape in its range make a sum that fits.
use Rattle.std.proofs.Common.{◌≡◌, ◌<◌, ◌^◌, sym, ◌∙◌, false, arith, rules}
use Rattle.pictures.specs.Shapes.{bad_shape}
use Rattle.pictures.proofs.Ranges.{shaped, samples_most}
use Rattle.layers.proofs.Numbers.{natural_small}
use Rattle.layers.proofs.fault.bad_source.Goals as goal

pub overflow_add-result : goal.overflow_add-result
overflow_add-result c =
    let begins : c.natural.result < 2 ^ 63 = natural_small _ c.natural.ensures (search rules) in
    let fits : bad_shape c.source_shape-shape.result ≡ false = sym c.bad_shape.ensures ∙ c.if-bad_shape.false in
    omega (arith, c.sample_count.ensures, samples_most (shaped _ fits))
