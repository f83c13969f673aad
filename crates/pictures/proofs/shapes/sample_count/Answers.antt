-- The products of a shape in its range fit.
use Rattle.std.proofs.Common.{◌≡◌, ◌*◌, arith}
use Rattle.pictures.specs.Shapes.{nat_of, sample_count}
use Rattle.pictures.proofs.Ranges.{shaped, plane_most, samples_most}
use Rattle.pictures.proofs.shapes.sample_count.Goals as goal

pub overflow_mul-result : goal.overflow_mul-result
overflow_mul-result c =
    let e : c.width_of-w.result * c.height_of-h.result ≡ nat_of c.args.shape.width * nat_of c.args.shape.height = cc in
    omega (arith, e, plane_most (shaped _ c.requires))

pub overflow_mul-result-2 : goal.overflow_mul-result-2
overflow_mul-result-2 c =
    let e : c.width_of-w.result * c.height_of-h.result * c.channels_of-c.result ≡ sample_count c.args.shape = cc in
    omega (arith, e, samples_most (shaped _ c.requires))
