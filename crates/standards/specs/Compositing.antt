-- W3C, "Compositing and Blending Level 1": the separable blend modes and source-over compositing. Written from the recommendation, with its names.
-- Each operation is rounded once to binary32, and grouped as it is printed, from left to right; Screen, which is printed in two forms, is taken in the
-- second one, Cb + Cs − (Cb × Cs). Definitions only.
-- Colours are straight: Cs and αs are the source's, Cb and αb the backdrop's, which is the destination here.
use Rattle.std.specs.Prelude.{cond, Float}
use Rattle.std.specs.Float.Ieee.{le, eq}
use Rattle.float_steps.specs.Notation.{◌⊕◌, ◌⊖◌, ◌⊗◌, ◌⊘◌, f0, f1, f2, half}
use Rattle.float_steps.specs.Literals.{f4, f12, f16, quarter}
use Rattle.float_steps.specs.Order.{smaller_of, larger_of, unit_of}
use Rattle.float_steps.specs.Root.{sqrt_of}
use Rattle.float_steps.specs.Sign.{abs_of}

pub data Mode : Type 0 where
  multiply screen overlay darken lighten color_dodge color_burn hard_light soft_light difference exclusion : Mode

-- ---- the blend functions that branch, or that another one cites
abbrev pub multiply_b : Float → Float → Float
multiply_b Cb Cs = Cb ⊗ Cs

abbrev pub screen_b : Float → Float → Float
screen_b Cb Cs = Cb ⊕ Cs ⊖ Cb ⊗ Cs

unfoldable pub hard_light_b : Float → Float → Float
hard_light_b Cb Cs = cond (le Cs half) (multiply_b Cb (f2 ⊗ Cs)) (screen_b Cb (f2 ⊗ Cs ⊖ f1))

unfoldable pub color_dodge_b : Float → Float → Float
color_dodge_b Cb Cs = cond (eq Cb f0) f0 (cond (eq Cs f1) f1 (smaller_of f1 (Cb ⊘ (f1 ⊖ Cs))))

unfoldable pub color_burn_b : Float → Float → Float
color_burn_b Cb Cs = cond (eq Cb f1) f1 (cond (eq Cs f0) f0 (f1 ⊖ smaller_of f1 ((f1 ⊖ Cb) ⊘ Cs)))

unfoldable pub D : Float → Float
D Cb = cond (le Cb quarter) (((f16 ⊗ Cb ⊖ f12) ⊗ Cb ⊕ f4) ⊗ Cb) (sqrt_of Cb)

unfoldable pub soft_light_b : Float → Float → Float
soft_light_b Cb Cs = cond (le Cs half) (Cb ⊖ (f1 ⊖ f2 ⊗ Cs) ⊗ Cb ⊗ (f1 ⊖ Cb)) (Cb ⊕ (f2 ⊗ Cs ⊖ f1) ⊗ (D Cb ⊖ Cb))

-- ---- B(Cb, Cs)
abbrev pub B : Mode → Float → Float → Float
B multiply Cb Cs = multiply_b Cb Cs
B screen Cb Cs = screen_b Cb Cs
B overlay Cb Cs = hard_light_b Cs Cb
B darken Cb Cs = smaller_of Cb Cs
B lighten Cb Cs = larger_of Cb Cs
B color_dodge Cb Cs = color_dodge_b Cb Cs
B color_burn Cb Cs = color_burn_b Cb Cs
B hard_light Cb Cs = hard_light_b Cb Cs
B soft_light Cb Cs = soft_light_b Cb Cs
B difference Cb Cs = abs_of (Cb ⊖ Cs)
B exclusion Cb Cs = Cb ⊕ Cs ⊖ f2 ⊗ Cb ⊗ Cs

-- ---- the result, premultiplied: Cs' = (1 − αb) × Cs + αb × B(Cb, Cs), clamped to the range of colours as the text says, and co = αs × Cs' + (1 − αs) × αb × Cb
abbrev pub co : Mode → Float → Float → Float → Float → Float
co m Cs αs Cb αb = αs ⊗ unit_of ((f1 ⊖ αb) ⊗ Cs ⊕ αb ⊗ B m Cb Cs) ⊕ (f1 ⊖ αs) ⊗ αb ⊗ Cb

abbrev pub αo : Float → Float → Float
αo αs αb = αs ⊕ αb ⊗ (f1 ⊖ αs)
