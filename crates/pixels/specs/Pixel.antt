-- `pixel` (composite.rs 650 to 852): one pixel of the source, s, on one of the destination, d, both straight RGBA.
-- One line an operator, with the Rust's names. Definitions only.
use Rattle.std.specs.Prelude.{Bool, cond, ◌&&◌, Float}
use Rattle.std.specs.Float.Ieee.{lt, le}
use Rattle.operators.specs.Operators.{convention}
use Rattle.operators.specs.declared.CompositeOp.{CompositeOp}
use Rattle.operators.specs.declared.CompositeOp.TheVariants as O
use Rattle.operators.specs.declared.Convention.{Convention}
use Rattle.float_steps.specs.Notation.{◌⊕◌, ◌⊖◌, ◌⊗◌, ◌⊘◌, f0, f1, f2, half}
use Rattle.float_steps.specs.Literals.{f3, intensity_red, intensity_green, intensity_blue}
use Rattle.float_steps.specs.Order.{smaller_of, larger_of, unit_of}
use Rattle.float_steps.specs.Remainder.{wrap_of}
use Rattle.float_steps.specs.Root.{sqrt_of}
use Rattle.float_steps.specs.Sign.{abs_of, square_of}
use Rattle.pictures.specs.declared.Rgba.{Rgba}
use Rattle.blends.specs.declared.Rgb.{Rgb}
use Rattle.blends.specs.declared.Hsl.{Hsl}
use Rattle.blends.specs.Blends.{hard_light_of, soft_light_of, color_dodge_of, color_burn_of, divide_of, vivid_light_of, pin_light_of, hard_mix_of, freeze_of, reflect_of}
use Rattle.blends.specs.Hsl.{hsl_of, rgb_to_hsl_of, hsl_to_rgb_of}
use Rattle.pixels.specs.declared.Params.{Params}
use Rattle.pixels.specs.Channel.{over_alpha_of, channel_of, over_channel, atop_channel, xor_channel, plus_channel, coloured_channel, within_fuzz, threshold_channel}

abbrev pub rgba_of : Float → Float → Float → Float → Rgba
rgba_of r g b a = record { r = r; g = g; b = b; a = a }

-- the pixel whose colour channels are f of those of s and d, with the alpha a
abbrev pub on_colours : (Float → Float → Float) → Rgba → Rgba → Float → Rgba
on_colours f s d a = rgba_of (f s.r d.r) (f s.g d.g) (f s.b d.b) a

-- ---- the helpers

-- `premult` (composite.rs 858 to 860): a colour scaled by its weight, which is its alpha too
abbrev pub premult_of : Rgba → Float → Rgba
premult_of c w = rgba_of (c.r ⊗ w) (c.g ⊗ w) (c.b ⊗ w) w

abbrev pub with_alpha : Rgba → Float → Rgba
with_alpha c a = rgba_of c.r c.g c.b a

abbrev pub clear : Rgba
clear = rgba_of f0 f0 f0 f0

-- `straight_or_clear` (composite.rs 864 to 870)
unfoldable pub straight_or_clear_of : Rgba → Float → Rgba
straight_or_clear_of c a = cond (le a f0) clear (with_alpha c a)

-- `over` (composite.rs 879 to 892), with its alpha a
unfoldable pub over_by : Float → Rgba → Rgba → Rgba
over_by a s d = cond (le a f0) (with_alpha d f0) (on_colours (λ x y. over_channel a x y s.a d.a) s d a)

abbrev pub over_of : Rgba → Rgba → Rgba
over_of s d = over_by (s.a ⊕ d.a ⊗ (f1 ⊖ s.a)) s d

-- `intensity` (composite.rs 902 to 904)
abbrev pub intensity_of : Rgba → Float
intensity_of p = intensity_red ⊗ p.r ⊕ intensity_green ⊗ p.g ⊕ intensity_blue ⊗ p.b

-- ---- the arms that take more than a line

-- `DstOver` (composite.rs 658 to 665): o is `over` with the two pictures exchanged
unfoldable pub kept_where_clear : Rgba → Rgba → Rgba
kept_where_clear o d = cond (le o.a f0) (with_alpha d f0) o

abbrev pub gray_of : Float → Float → Rgba
gray_of v a = rgba_of v v v a

-- `Rmse` (composite.rs 725 to 728). Its `sum` begins at a zero, which is left out here: a square is never -0, so that a zero of either sign plus the first
-- square is that square, NaN included.
abbrev pub rmse_of : Rgba → Rgba → Float
rmse_of s d = sqrt_of ((square_of (s.r ⊖ d.r) ⊕ square_of (s.g ⊖ d.g) ⊕ square_of (s.b ⊖ d.b)) ⊘ f3)

-- `DarkenIntensity` (composite.rs 729 to 735) and `LightenIntensity` (composite.rs 736 to 742): s where x is darker than y, else d
unfoldable pub where_darker : Rgba → Rgba → Rgba → Rgba → Rgba
where_darker x y s d = cond (lt (intensity_of x ⊗ x.a) (intensity_of y ⊗ y.a)) s d

-- `Hue` (composite.rs 743 to 765), Saturate, Luminize and Colorize
abbrev pub hsl_at : Rgba → Hsl
hsl_at p = rgb_to_hsl_of p.r p.g p.b

abbrev pub coloured_by : Rgb → Rgba → Rgba → Rgba
coloured_by c s d =
    rgba_of (coloured_channel c.r d.r s.a d.a) (coloured_channel c.g d.g s.a d.a) (coloured_channel c.b d.b s.a d.a)
    (over_alpha_of s.a d.a)

abbrev pub coloured_of : Hsl → Rgba → Rgba → Rgba
coloured_of c s d = coloured_by (hsl_to_rgb_of c) s d

-- `ChangeMask` (composite.rs 778 to 782): all four channels are compared
abbrev pub matches : Float → Rgba → Rgba → Bool
matches fuzz s d =
    within_fuzz fuzz s.r d.r && (within_fuzz fuzz s.g d.g && (within_fuzz fuzz s.b d.b && within_fuzz fuzz s.a d.a))

unfoldable pub change_mask_of : Float → Rgba → Rgba → Rgba
change_mask_of fuzz s d = cond (matches fuzz s d) (with_alpha d f0) d

-- `Modulate` (composite.rs 799 to 811): i is the source's intensity less a half, c the destination's hue, saturation and lightness
abbrev pub scaled_of : Float → Float → Float → Float
scaled_of v i by = unit_of (v ⊗ (f1 ⊕ f2 ⊗ i ⊗ by))

abbrev pub modulated_by : Float → Hsl → Params → Rgb
modulated_by i c p = hsl_to_rgb_of (hsl_of c.h (scaled_of c.s i p.b) (scaled_of c.l i p.a))

abbrev pub with_colour : Rgb → Float → Rgba
with_colour c a = rgba_of c.r c.g c.b a

-- ---- an operator's formula: of the two pixels; or, for a mathematical operator, of one colour channel of each; or, for a modulus, of the two alphas
pub data Formula : Type 0 where
  pixel : (Rgba → Rgba → Rgba) → Formula
  blend : (Float → Float → Float) → Formula
  modulus : (Float → Float → Float) → Formula

-- One line an operator: its arm of `pixel` (composite.rs 650 to 852), or of `blend_inner` (composite.rs 957 to 1031), which the last arm of `pixel` comes
-- to. The parameters p are the operator's arguments, with their defaults in place. Displace, Distort and Blur read the source as a map: their line is the
-- Rust's, and composition does not come here for them. Interpolate is refused (document 01, CURVE): its line is never used.
abbrev pub formula_of : CompositeOp → Params → Formula
formula_of O.Over p = pixel (λ s d. over_of s d)
formula_of O.In p = pixel (λ s d. premult_of s (s.a ⊗ d.a))
formula_of O.Out p = pixel (λ s d. premult_of s (s.a ⊗ (f1 ⊖ d.a)))
formula_of O.Atop p = pixel (λ s d. on_colours (λ x y. atop_channel x y s.a d.a) s d d.a)
formula_of O.Xor p = pixel (λ s d. on_colours (λ x y. xor_channel x y s.a d.a) s d (s.a ⊗ (f1 ⊖ d.a) ⊕ d.a ⊗ (f1 ⊖ s.a)))
formula_of O.Plus p = pixel (λ s d. on_colours (λ x y. plus_channel x y s.a d.a) s d (smaller_of (s.a ⊕ d.a) f1))
formula_of O.Multiply p = blend (λ s d. s ⊗ d)
formula_of O.Screen p = blend (λ s d. s ⊕ d ⊖ s ⊗ d)
formula_of O.Overlay p = blend (λ s d. hard_light_of d s)
formula_of O.Darken p = blend (λ s d. smaller_of s d)
formula_of O.Lighten p = blend (λ s d. larger_of s d)
formula_of O.Difference p = blend (λ s d. abs_of (s ⊖ d))
formula_of O.HardLight p = blend (λ s d. hard_light_of s d)
formula_of O.SoftLight p = blend (λ s d. soft_light_of s d)
formula_of O.ColorDodge p = blend (λ s d. color_dodge_of s d)
formula_of O.ColorBurn p = blend (λ s d. color_burn_of s d)
formula_of O.Clear p = pixel (λ s d. clear)
formula_of O.Src p = pixel (λ s d. s)
formula_of O.Dst p = pixel (λ s d. d)
formula_of O.DstOver p = pixel (λ s d. kept_where_clear (over_of d s) d)
formula_of O.DstIn p = pixel (λ s d. straight_or_clear_of d (s.a ⊗ d.a))
formula_of O.DstOut p = pixel (λ s d. straight_or_clear_of d (d.a ⊗ (f1 ⊖ s.a)))
formula_of O.DstAtop p = pixel (λ s d. on_colours (λ x y. atop_channel y x d.a s.a) s d s.a)
formula_of O.MinusDst p = blend (λ s d. s ⊖ d)
formula_of O.MinusSrc p = blend (λ s d. d ⊖ s)
formula_of O.DivideDst p = blend (λ s d. divide_of s d)
formula_of O.DivideSrc p = blend (λ s d. divide_of d s)
formula_of O.ModulusAdd p = modulus (λ sa da. sa ⊕ da)
formula_of O.ModulusSubtract p = modulus (λ sa da. sa ⊖ da)
formula_of O.Exclusion p = blend (λ s d. s ⊕ d ⊖ f2 ⊗ s ⊗ d)
formula_of O.LinearBurn p = blend (λ s d. s ⊕ d ⊖ f1)
formula_of O.LinearDodge p = blend (λ s d. s ⊕ d)
formula_of O.LinearLight p = blend (λ s d. d ⊕ f2 ⊗ s ⊖ f1)
formula_of O.VividLight p = blend (λ s d. vivid_light_of s d)
formula_of O.PinLight p = blend (λ s d. pin_light_of s d)
formula_of O.HardMix p = blend (λ s d. hard_mix_of s d)
formula_of O.PegtopLight p = blend (λ s d. (f1 ⊖ f2 ⊗ s) ⊗ d ⊗ d ⊕ f2 ⊗ s ⊗ d)
formula_of O.SoftBurn p = blend (λ s d. color_burn_of s d)
formula_of O.SoftDodge p = blend (λ s d. color_dodge_of s d)
formula_of O.Stamp p = blend (λ s d. s ⊕ d ⊖ f1)
formula_of O.Freeze p = blend (λ s d. freeze_of s d)
formula_of O.Reflect p = blend (λ s d. reflect_of s d)
formula_of O.Negate p = blend (λ s d. f1 ⊖ abs_of (f1 ⊖ s ⊖ d))
formula_of O.Interpolate p = pixel (λ s d. d)
formula_of O.Mathematics p = blend (λ s d. p.a ⊗ s ⊗ d ⊕ p.b ⊗ s ⊕ p.c ⊗ d ⊕ p.d)
formula_of O.Blend p = pixel (λ s d. on_colours (λ x y. x ⊗ p.a ⊕ y ⊗ p.b) s d (smaller_of (s.a ⊗ p.a ⊕ d.a ⊗ p.b) f1))
formula_of O.Dissolve p = pixel (λ s d. over_of (with_alpha s (smaller_of (s.a ⊗ p.a) f1)) (with_alpha d (smaller_of (d.a ⊗ p.b) f1)))
formula_of O.Rmse p = pixel (λ s d. gray_of (rmse_of s d) (over_alpha_of s.a d.a))
formula_of O.DarkenIntensity p = pixel (λ s d. where_darker s d s d)
formula_of O.LightenIntensity p = pixel (λ s d. where_darker d s s d)
formula_of O.Hue p = pixel (λ s d. coloured_of (hsl_of (hsl_at s).h (hsl_at d).s (hsl_at d).l) s d)
formula_of O.Saturate p = pixel (λ s d. coloured_of (hsl_of (hsl_at d).h (hsl_at s).s (hsl_at d).l) s d)
formula_of O.Luminize p = pixel (λ s d. coloured_of (hsl_of (hsl_at d).h (hsl_at d).s (hsl_at s).l) s d)
formula_of O.Colorize p = pixel (λ s d. coloured_of (hsl_of (hsl_at s).h (hsl_at s).s (hsl_at d).l) s d)
formula_of O.CopyRed p = pixel (λ s d. rgba_of s.r d.g d.b d.a)
formula_of O.CopyGreen p = pixel (λ s d. rgba_of d.r s.g d.b d.a)
formula_of O.CopyBlue p = pixel (λ s d. rgba_of d.r d.g s.b d.a)
formula_of O.CopyAlpha p = pixel (λ s d. rgba_of d.r d.g d.b s.a)
formula_of O.CopyCyan p = pixel (λ s d. rgba_of s.r d.g d.b d.a)
formula_of O.CopyMagenta p = pixel (λ s d. rgba_of d.r s.g d.b d.a)
formula_of O.CopyYellow p = pixel (λ s d. rgba_of d.r d.g s.b d.a)
formula_of O.CopyBlack p = pixel (λ s d. gray_of (intensity_of s) d.a)
formula_of O.ChangeMask p = pixel (λ s d. change_mask_of p.a s d)
formula_of O.Bumpmap p = pixel (λ s d. rgba_of (d.r ⊗ intensity_of s) (d.g ⊗ intensity_of s) (d.b ⊗ intensity_of s) d.a)
formula_of O.Threshold p = pixel (λ s d. on_colours (threshold_channel p.a p.b) s d d.a)
formula_of O.Displace p = pixel (λ s d. d)
formula_of O.Distort p = pixel (λ s d. d)
formula_of O.Blur p = pixel (λ s d. d)
formula_of O.Intensity p = pixel (λ s d. gray_of (intensity_of s) (over_alpha_of s.a d.a))
formula_of O.Modulate p = pixel (λ s d. with_colour (modulated_by (intensity_of s ⊖ half) (hsl_at d) p) d.a)

-- ---- the mathematical operators, the arm `op` (composite.rs 824 to 850)

-- where an operator takes no arguments
abbrev pub unused : Params
unused = record { a = f0; b = f0; c = f0; d = f0 }

-- `blend_inner` (composite.rs 957 to 1031): what the operator makes of one colour channel of the source, s, and of the destination, d. One that is not
-- mathematical, or is a modulus, has the Rust's `_ => s`, and so has Interpolate, whose line is never used.
abbrev pub blend_in : Formula → Float → Float → Float
blend_in (pixel f) s d = s
blend_in (blend B) s d = B s d
blend_in (modulus f) s d = s

abbrev pub blend_of : CompositeOp → Params → Float → Float → Float
blend_of op p s d = blend_in (formula_of op p) s d

-- its colours under a convention, beside an alpha of its own
abbrev pub under_convention : Convention → CompositeOp → Params → Rgba → Rgba → Float → Rgba
under_convention by op p s d a = on_colours (λ x y. channel_of by (blend_of op p) x y s.a d.a) s d a

abbrev pub mathematical_by : CompositeOp → Params → Rgba → Rgba → Float → Rgba
mathematical_by op p s d a = under_convention (convention op) op p s d a

abbrev pub mathematical_of : CompositeOp → Params → Rgba → Rgba → Rgba
mathematical_of op p s d = mathematical_by op p s d (over_alpha_of s.a d.a)

-- ---- `pixel`

abbrev pub pixel_by : Formula → CompositeOp → Params → Rgba → Rgba → Rgba
pixel_by (pixel f) op p s d = f s d
pixel_by (blend B) op p s d = mathematical_of op p s d
pixel_by (modulus f) op p s d = mathematical_by op p s d (wrap_of (f s.a d.a))

abbrev pub pixel_of : CompositeOp → Params → Rgba → Rgba → Rgba
pixel_of op p s d = pixel_by (formula_of op p) op p s d
