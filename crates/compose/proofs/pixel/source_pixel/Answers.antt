-- An index below the source's pixels has its words in the samples. Assumes nothing.
use Rattle.pictures.proofs.Inside.{words_inside}
use Rattle.compose.proofs.pixel.source_pixel.Goals as goal

pub rgba_at-requires : goal.rgba_at-requires
rgba_at-requires c =
    let r = c.requires.0 in
    (r.some, r.most, rw r.whole (words_inside _ _ _ (rw c.in-Some.is at c.requires.1)))
