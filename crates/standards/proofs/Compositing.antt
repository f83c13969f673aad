-- The operators that W3C defines, in theorems over the eleven modes. s is the source's pixel, d the destination's, and c any of the three colours. Assumes
-- nothing.   mode-is        a colour, but for a zero's sign, and the alpha are W3C's formula with the mode's steps exchanged (`steps`,
-- specs/BlendSteps.antt) and nothing                  else, for all values, NaN and the infinities included   mode-with      a colour with W3C's B as
-- printed, outside the inputs at which the blend functions differ   mode_in_range  the same on numbers from 0 to 1, but for ColorBurn of black on white
-- mode-empty     the colour of a mode that divides is 0 where its alpha is not above 0
use mathlib.Core.Path.{◌≡◌, refl, sym, ap, ◌∙◌}
use mathlib.Core.Logic.{inl}
use mathlib.Core.Bool.{Bool, false, cond}
use lib.Dec.{T}
use lib.Ieee.{Float, of_bits, lt}
use Rattle.float_steps.specs.Notation.{◌⊘◌, f0}
use Rattle.float_steps.specs.Order.{clamp_of, unit_of}
use Rattle.ieee_laws.specs.Same.{plain, Same}
use Rattle.pictures.specs.declared.Rgba.{Rgba}
use Rattle.pixels.specs.declared.Params.{Params}
use Rattle.pixels.specs.Pixel.{pixel_of}
use Rattle.standards.specs.Compositing.{Mode, multiply, screen, overlay, darken, lighten, color_dodge, color_burn, hard_light, soft_light, difference, exclusion, B}
use Rattle.standards.specs.Operators.{Colour, at, Held, blend_op}
use Rattle.standards.specs.BlendSteps.{divided, among, argument, mixed_by, blend_by, steps, colour_with, colour_by, alpha_by}
use Rattle.standards.specs.BlendDifferences.{BlendOutside, burns}
use Rattle.standards.specs.Range.{InUnits}
use Rattle.standards.proofs.InRange.{unit_at, held_of}
use Rattle.standards.proofs.Domain.{stored_outside}
use Rattle.standards.proofs.Stored.{colour_by_lem, colour_with_lem, alpha_by_lem}

pub mode_is : (m : Mode) (p : Params) (s d : Rgba) → Held s → Held d → (c : Colour)
    → Same (at c (pixel_of (blend_op m) p s d)) (colour_by (steps m) m (at c s) s.a (at c d) d.a)
    × ((pixel_of (blend_op m) p s d).a ≡ alpha_by (steps m) s.a d.a)
mode_is m p s d hs hd c = (colour_by_lem p s d m hs hd c, alpha_by_lem p s d m)

-- ---- with B as printed
pub mode_with : (m : Mode) (p : Params) (s d : Rgba) → Held s → Held d → (c : Colour)
    → BlendOutside m (argument (steps m) (at c s) s.a) (argument (steps m) (at c d) d.a)
    → Same (at c (pixel_of (blend_op m) p s d)) (colour_with (steps m) (B m) (at c s) s.a (at c d) d.a)
mode_with multiply p s d hs hd c x = colour_with_lem p s d multiply hs hd c (inl x)
mode_with screen p s d hs hd c x = colour_with_lem p s d screen hs hd c (inl x)
mode_with overlay p s d hs hd c x = colour_with_lem p s d overlay hs hd c (inl x)
mode_with darken p s d hs hd c x = colour_with_lem p s d darken hs hd c (inl x)
mode_with lighten p s d hs hd c x = colour_with_lem p s d lighten hs hd c (inl x)
mode_with color_dodge p s d hs hd c x = colour_with_lem p s d color_dodge hs hd c (inl x)
mode_with color_burn p s d hs hd c x = colour_with_lem p s d color_burn hs hd c (inl x)
mode_with hard_light p s d hs hd c x = colour_with_lem p s d hard_light hs hd c (inl x)
mode_with soft_light p s d hs hd c x = colour_with_lem p s d soft_light hs hd c (inl x)
mode_with difference p s d hs hd c x = colour_with_lem p s d difference hs hd c (inl x)
mode_with exclusion p s d hs hd c x = colour_with_lem p s d exclusion hs hd c (inl x)

pub mode_in_range : (m : Mode) (p : Params) (s d : Rgba) → InUnits s → InUnits d → (c : Colour) → burns m (at c s) s.a (at c d) d.a ≡ false
    → Same (at c (pixel_of (blend_op m) p s d)) (colour_with (steps m) (B m) (at c s) s.a (at c d) d.a)
mode_in_range m p s d ps pd c n = colour_with_lem p s d m (held_of s ps) (held_of d pd) c (stored_outside (unit_at c s ps) ps.a (unit_at c d pd) pd.a m n)

-- ---- where nothing is covered
zero_kept : unit_of f0 ≡ f0
unfolding clamp_of lt of_bits
zero_kept = refl

-- over an alpha that is not above 0
empty : (x a : Float) → lt f0 a ≡ false → Same (unit_of (cond (lt f0 a) (x ⊘ a) f0)) f0
empty x a e = ap (λ (b : Bool). plain (unit_of (cond b (x ⊘ a) f0))) e ∙ ap plain zero_kept

pub mode_empty : (m : Mode) → T (among divided (steps m)) → (p : Params) (s d : Rgba) → Held s → Held d → (c : Colour)
    → lt f0 (pixel_of (blend_op m) p s d).a ≡ false → Same (at c (pixel_of (blend_op m) p s d)) f0
mode_empty m w p s d hs hd c e = colour_by_lem p s d m hs hd c ∙ go m w (ap (λ (a : Float). lt f0 a) (sym (alpha_by_lem p s d m)) ∙ e)
  where
    mixed : Mode → Float
    mixed m = mixed_by (steps m) (blend_by (steps m) m (at c d) (at c s)) (at c s) s.a (at c d) d.a

    go : (m : Mode) → T (among divided (steps m)) → lt f0 (alpha_by (steps m) s.a d.a) ≡ false → Same (colour_by (steps m) m (at c s) s.a (at c d) d.a) f0
    go multiply w e = absurd w
    go screen w e = absurd w
    go overlay w e = empty (mixed overlay) (alpha_by (steps overlay) s.a d.a) e
    go darken w e = absurd w
    go lighten w e = absurd w
    go color_dodge w e = empty (mixed color_dodge) (alpha_by (steps color_dodge) s.a d.a) e
    go color_burn w e = empty (mixed color_burn) (alpha_by (steps color_burn) s.a d.a) e
    go hard_light w e = empty (mixed hard_light) (alpha_by (steps hard_light) s.a d.a) e
    go soft_light w e = empty (mixed soft_light) (alpha_by (steps soft_light) s.a d.a) e
    go difference w e = absurd w
    go exclusion w e = absurd w
