-- At the input of each row the compositor's value is not the document's, and the row's step makes a difference: by computation. Assumes nothing.
use lib.Dec.{T}
use lib.Ieee.{to_bits, of_bits, add, sub, mul, div, rem, lt, le, eq, is_nan}
use Rattle.float_steps.specs.Order.{smaller_of, larger_of, clamp_of}
use Rattle.float_steps.specs.Sign.{abs_of}
use Rattle.float_steps.specs.Remainder.{rem_euclid_of}
use Rattle.float_steps.specs.Root.{sqrt_of}
use Rattle.blends.specs.Blends.{hard_light_of, soft_light_of, curve_of, color_dodge_of, color_burn_of}
use Rattle.blends.specs.Hsl.{saturation_of, hue_of, hsl_by, upper_of, ramp_of, rgb_by, hsl_to_rgb_of}
use Rattle.pixels.specs.Channel.{over_union_of}
use Rattle.pixels.specs.Pixel.{straight_or_clear_of, over_by, kept_where_clear}
use Rattle.standards.specs.Compositing.{soft_light_b, D}
use Rattle.standards.specs.BlendSteps.{hard_light_by, color_dodge_by, color_burn_by}
use Rattle.standards.specs.Rows.{all, differs, rows, steps_shown}

pub rows_differ : T (all differs rows)
unfolding saturation_of hue_of hsl_by upper_of ramp_of rgb_by hsl_to_rgb_of rem_euclid_of rem straight_or_clear_of over_by kept_where_clear over_union_of hard_light_of soft_light_of curve_of color_dodge_of color_burn_of hard_light_by soft_light_b D color_dodge_by color_burn_by sqrt_of smaller_of larger_of clamp_of abs_of to_bits of_bits add sub mul div lt le eq is_nan
rows_differ = tt

-- and every step of every operator has such a row
pub steps_shown_lem : T steps_shown
steps_shown_lem = tt
