-- So are the positions.
use Rattle.std.proofs.Common.{◌≡◌, ◌+◌, ◌*◌, ◌≤◌, arith, rules}
use Rattle.places.specs.Bounds.{slack}
use Rattle.layers.specs.Inputs.{inputs_in}
use Rattle.job.specs.Job.{layer_count}
use Rattle.job.proofs.Checked.{bounded}
use Rattle.job.proofs.size.end_of.Goals as goal

pub overflow_add-result : goal.overflow_add-result
overflow_add-result c =
    let layers : c.natural.result ≡ layer_count (inputs_in c.args.inputs) = search rules in
    omega (arith, (bounded _ c.requires).layers)

pub overflow_mul-result : goal.overflow_mul-result
overflow_mul-result c =
    let layers : c.natural.result ≡ layer_count (inputs_in c.args.inputs) = search rules in
    let few : (c.natural.result + 1) * c.pixel_count.result ≤ 1024 * (slack * slack) = rw (layers, c.pixel_count.ensures) (bounded _ c.requires).end in
    omega arith
