-- The pixels of the part are those of the picture. Assumes nothing.
use Rattle.std.proofs.Common.{◌∙◌}
use Rattle.pictures.specs.Widen.{rgba_at}
use Rattle.compose.proofs.Parts.{rest_at, own_beneath}
use Rattle.compose.proofs.run.span.Goals as goal

pub returns : goal.returns
returns c =
    c.run.ensures
    ∙ own_beneath c.args.p c.args.source.now (rgba_at c.args.picture.now 4) _ c.args.from c.args.count c.args.out.now (λ i h. rest_at _ _ i)
