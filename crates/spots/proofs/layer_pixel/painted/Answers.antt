-- A run of one pixel. Assumes nothing.
use Rattle.std.proofs.Common.{[], ◌∷◌, ◌∙◌}
use Rattle.spots.proofs.Painted.{painted_one}
use Rattle.spots.proofs.layer_pixel.painted.Goals as goal

pub returns : goal.returns
returns c =
    let zeros = 0 ∷ 0 ∷ 0 ∷ 0 ∷ [] in
    c.rgba_at.ensures ∙ painted_one c.args.p c.args.source.now c.args.own c.args.j zeros _ zeros _ c.requires.2 c.put.ensures c.run.ensures
