-- What is read, each at the place after the one before it, is what the definition reads; the count of layers fits 64 bits, as it is read back.
use Rattle.std.proofs.Common.{rules}
use mir.Facts.{to_z-of_z}
use mir.Syntax.{w64}
use mir.Val.{SFits}
use Rattle.vector_jobs.proofs.Calls.{job_read}
use Rattle.vector_jobs.proofs.job.Goals as goal

pub returns : goal.returns
returns c =
    let fits : SFits w64 c.read-layers.result.value = search rules in
    let asked = rw (to_z-of_z fits) at c.asked.ensures in
    job_read _ _ _ c.shape_of-shape.ensures c.read-after_dst.ensures c.read-layers.ensures c.read_layers-after_lists.ensures asked c.played.ensures
