-- The two colour conversions, `rgb_to_hsl` (composite.rs 1090 to 1111) and `hsl_to_rgb` (composite.rs 1113 to 1136). A colour triple is one value:
-- hue, saturation and lightness, or red, green and blue. Definitions only.
use Rattle.std.specs.Prelude.{cond, Float}
use Rattle.std.specs.Float.Ieee.{lt, le, eq}
use Rattle.float_steps.specs.Notation.{◌⊕◌, ◌⊖◌, ◌⊗◌, ◌⊘◌, f0, f1, f2, half}
use Rattle.float_steps.specs.Literals.{f3, f4, f6, millionth}
use Rattle.float_steps.specs.Order.{smaller_of, larger_of}
use Rattle.float_steps.specs.Remainder.{rem_euclid_of}
use Rattle.blends.specs.declared.Hsl.{Hsl}
use Rattle.blends.specs.declared.Rgb.{Rgb}

abbrev pub hsl_of : Float → Float → Float → Hsl
hsl_of h s l = record { h = h; s = s; l = l }

abbrev pub rgb_of : Float → Float → Float → Rgb
rgb_of r g b = record { r = r; g = g; b = b }

-- `s` (composite.rs 1098 to 1102)
unfoldable pub saturation_of : Float → Float → Float → Float → Float
saturation_of max min l d = cond (lt half l) (d ⊘ (f2 ⊖ max ⊖ min)) (d ⊘ (max ⊕ min))

-- `h` (composite.rs 1103 to 1109)
unfoldable pub hue_of : Float → Float → Float → Float → Float → Float
hue_of r g b max d =
    cond (eq max r) (rem_euclid_of ((g ⊖ b) ⊘ d) f6)
    (cond (eq max g) ((b ⊖ r) ⊘ d ⊕ f2)
    ((r ⊖ g) ⊘ d ⊕ f4))

-- `rgb_to_hsl` (composite.rs 1090 to 1111) of the largest and the smallest channel
unfoldable pub hsl_by : Float → Float → Float → Float → Float → Hsl
hsl_by r g b max min =
    let l = (max ⊕ min) ⊗ half in
    let d = max ⊖ min in
    cond (le d millionth) (hsl_of f0 f0 l) (hsl_of (hue_of r g b max d ⊘ f6) (saturation_of max min l d) l)

abbrev pub rgb_to_hsl_of : Float → Float → Float → Hsl
rgb_to_hsl_of r g b = hsl_by r g b (larger_of (larger_of r g) b) (smaller_of (smaller_of r g) b)

-- `q` (composite.rs 1117 to 1121)
unfoldable pub upper_of : Float → Float → Float
upper_of s l = cond (lt l half) (l ⊗ (f1 ⊕ s)) (l ⊕ s ⊖ l ⊗ s)

-- the closure `f` (composite.rs 1123 to 1134), after its remainder
unfoldable pub ramp_of : Float → Float → Float → Float
ramp_of p q t =
    cond (lt t (f1 ⊘ f6)) (p ⊕ (q ⊖ p) ⊗ f6 ⊗ t)
    (cond (lt t half) q
    (cond (lt t (f2 ⊘ f3)) (p ⊕ (q ⊖ p) ⊗ (f2 ⊘ f3 ⊖ t) ⊗ f6)
    p))

abbrev pub channel_at : Float → Float → Float → Float
channel_at p q h = ramp_of p q (rem_euclid_of h f1)

-- 1.0 / 3.0
abbrev pub third : Float
third = f1 ⊘ f3

unfoldable pub rgb_by : Hsl → Float → Float → Rgb
rgb_by c p q = rgb_of (channel_at p q (c.h ⊕ third)) (channel_at p q c.h) (channel_at p q (c.h ⊖ third))

unfoldable pub hsl_to_rgb_of : Hsl → Rgb
hsl_to_rgb_of c =
    cond (le c.s f0) (rgb_of c.l c.l c.l)
    (let q = upper_of c.s c.l in rgb_by c (f2 ⊗ c.l ⊖ q) q)
