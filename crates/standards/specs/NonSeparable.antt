-- W3C, "Compositing and Blending Level 1": the four non-separable modes, on two opaque colours. Document 01: Hue, Saturate, Luminize and Colorize use HSL,
-- unlike these. They are here for the input at which each differs. Definitions only.
use Rattle.std.specs.Prelude.{cond, Float}
use Rattle.std.specs.Float.Ieee.{lt, eq}
use Rattle.float_steps.specs.Notation.{◌⊕◌, ◌⊖◌, ◌⊗◌, ◌⊘◌, f0, f1}
use Rattle.float_steps.specs.Literals.{lum_red, lum_green, lum_blue}
use Rattle.float_steps.specs.Order.{smaller_of, larger_of}
use Rattle.blends.specs.declared.Rgb.{Rgb}
use Rattle.blends.specs.Hsl.{rgb_of}

pub data NonSeparable : Type 0 where
  hue saturation luminosity color : NonSeparable

abbrev pub each : (Float → Float) → Rgb → Rgb
each f C = rgb_of (f C.r) (f C.g) (f C.b)

abbrev pub Lum : Rgb → Float
Lum C = lum_red ⊗ C.r ⊕ lum_green ⊗ C.g ⊕ lum_blue ⊗ C.b

abbrev pub least : Rgb → Float
least C = smaller_of (smaller_of C.r C.g) C.b

abbrev pub most : Rgb → Float
most C = larger_of (larger_of C.r C.g) C.b

-- L, n and x are those of the colour before it is clipped
abbrev pub clip_by : Float → Float → Float → Rgb → Rgb
clip_by L n x C =
    let low = cond (lt n f0) (each (λ c. L ⊕ (c ⊖ L) ⊗ L ⊘ (L ⊖ n)) C) C in
    cond (lt f1 x) (each (λ c. L ⊕ (c ⊖ L) ⊗ (f1 ⊖ L) ⊘ (x ⊖ L)) low) low

abbrev pub ClipColor : Rgb → Rgb
ClipColor C = clip_by (Lum C) (least C) (most C) C

abbrev pub SetLum : Rgb → Float → Rgb
SetLum C l = let d = l ⊖ Lum C in ClipColor (each (λ c. c ⊕ d) C)

abbrev pub Sat : Rgb → Float
Sat C = most C ⊖ least C

abbrev pub SetSat : Rgb → Float → Rgb
SetSat C s =
    let n = least C in
    let x = most C in
    cond (lt n x) (each (λ c. cond (eq c x) s (cond (eq c n) f0 ((c ⊖ n) ⊗ s ⊘ (x ⊖ n)))) C) (rgb_of f0 f0 f0)

abbrev pub B : NonSeparable → Rgb → Rgb → Rgb
B hue Cb Cs = SetLum (SetSat Cs (Sat Cb)) (Lum Cb)
B saturation Cb Cs = SetLum (SetSat Cb (Sat Cs)) (Lum Cb)
B luminosity Cb Cs = SetLum Cb (Lum Cs)
B color Cb Cs = SetLum Cs (Lum Cb)
