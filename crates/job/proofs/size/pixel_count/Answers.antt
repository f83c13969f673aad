-- The pixels are few enough to be counted.
use Rattle.std.proofs.Common.{◌*◌, ◌≤◌, arith}
use Rattle.places.specs.Bounds.{slack}
use Rattle.job.proofs.Checked.{bounded}
use Rattle.job.proofs.size.pixel_count.Goals as goal

pub overflow_mul-result : goal.overflow_mul-result
overflow_mul-result c =
    let few : c.width_of.result * c.height_of.result ≤ slack * slack = rw (c.width_of.ensures, c.height_of.ensures) (bounded _ c.requires).pixels in
    omega arith
