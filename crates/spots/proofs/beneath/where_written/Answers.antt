-- An index that was found lies below the source's pixels. Assumes nothing.
use Rattle.compose.proofs.Pixels.{index_held}
use Rattle.spots.proofs.beneath.where_written.Goals as goal

pub source_pixel-s-requires : goal.source_pixel-s-requires
source_pixel-s-requires c = (c.requires.0, index_held _ _ _ _ _ _ _ c.requires.1)
