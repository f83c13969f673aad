-- A pixel asks for neighbours of the picture beneath, and these ask for pixels of their own picture.
use Rattle.std.proofs.Common.{◌+◌, ◌*◌}
use Rattle.spots.proofs.colour.+neighbours_pixel.Given as goal

abbrev pub decreases-neighbours : goal.decreases-neighbours
decreases-neighbours l = 3 * l.k + 2

abbrev pub decreases-neighbour : goal.decreases-neighbour
decreases-neighbour l = 3 * l.k + 1

abbrev pub decreases-pixel : goal.decreases-pixel
decreases-pixel l = 3 * l.k
