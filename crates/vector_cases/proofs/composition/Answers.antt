-- What is read, each at the place after the one before it, is what the definition reads.
use Rattle.vector_cases.proofs.Laws.{composition_read}
use Rattle.vector_cases.proofs.composition.Goals as goal

pub returns : goal.returns
returns c =
    composition_read _ _ c.asked.result c.shape_of-shape.ensures c.read-after_dst.ensures c.read_layers-after_lists.ensures c.asked.ensures c.composed.ensures
