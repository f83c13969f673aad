-- The part that is lent is the source, and the plan is the layer's. Assumes nothing.
use Rattle.compose.proofs.Placed.{whole_span, picture}
use Rattle.compose.proofs.single.whole.Goals as goal

pub spans-requires : goal.spans-requires
spans-requires c =
    let e = c.plan-p.ensures in
    (rw c.source_of-source.ensures.1 e.ready, whole_span e c.requires.1, c.requires.2)

pub returns : goal.returns
returns c = picture c.plan-p.ensures _ _ _ c.source_of-source.ensures.0 c.spans.ensures
