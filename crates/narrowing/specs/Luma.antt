-- `luma` (deep.rs 340 to 346) on three channels, the gray of a pixel, with the weights of document 02, A.1: 0.212656 red + 0.715158 green + 0.072186 blue, in
-- that order, each operation rounded once. Definitions only.
use Rattle.std.specs.Prelude.{Float}
use Rattle.float_steps.specs.Notation.{◌⊕◌, ◌⊗◌}
use Rattle.float_steps.specs.Literals.{intensity_red, intensity_green, intensity_blue}
use Rattle.pictures.specs.declared.Rgba.{Rgba}

unfoldable pub luma_of : Rgba → Float
luma_of p = intensity_red ⊗ p.r ⊕ intensity_green ⊗ p.g ⊕ intensity_blue ⊗ p.b
