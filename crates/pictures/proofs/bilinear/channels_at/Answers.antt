-- The pixel's number fits.
use Rattle.std.proofs.Common.{◌+◌, ◌*◌, ◌<◌, length, arith}
use Rattle.pictures.proofs.Inside.{pixel_inside, pixel_fits, words_inside}
use Rattle.pictures.proofs.bilinear.channels_at.Goals as goal

pub overflow_add-y : goal.overflow_add-y
overflow_add-y c =
    let fits : c.args.y * c.args.w + c.args.x < length c.args.picture.now =
    rw c.requires.4 (pixel_fits _ _ _ _ _ c.requires.2 c.requires.3 c.requires.0)
    in
    omega arith

pub rgba_at-requires : goal.rgba_at-requires
rgba_at-requires c = let p = c.requires in (p.0, p.1, rw p.4 (words_inside _ _ _ (pixel_inside _ _ _ _ p.2 p.3)))
