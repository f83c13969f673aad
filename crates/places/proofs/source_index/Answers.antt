-- The column and the row are below the sides, and so below the slack. Assumes nothing.
use Rattle.places.proofs.Indices.{axis_under}
use Rattle.places.proofs.source_index.Goals as goal

pub pixel_index-requires : goal.pixel_index-requires
pixel_index-requires c = (
  c.requires.width,
  axis_under _ _ _ _ c.axis_index-column.ensures c.requires.width,
  axis_under _ _ _ _ c.axis_index-row.ensures c.requires.height,
)
