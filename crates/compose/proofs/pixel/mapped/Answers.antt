-- The neighbours lie in the picture. Assumes nothing.
use Rattle.std.proofs.Common.{arith}
use Rattle.pictures.proofs.Inside.{in_picture}
use Rattle.compose.proofs.pixel.mapped.Goals as goal

pub neighbours-four-requires : goal.neighbours-four-requires
neighbours-four-requires c =
    let b = c.requires.0 in
    in_picture _ _ _ _ _ _ _ _ b.some b.most (omega arith) b.width (omega arith) b.height b.whole c.map_axis-column.ensures c.map_axis-row.ensures
