-- `bilinear_into` (deep.rs 244 to 274): a picture of w by h pixels, neither side 0, read at (x, y). Three parts: where, which the two axes
-- say; the four neighbours, p00, p10, p01 and p11; and their mixture. Definitions only.
use Rattle.std.specs.Prelude.{ℕ, ◌+◌, ◌*◌, List, [], ◌∷◌, get_or, Float}
use Rattle.std.specs.Float.{nan}
use Rattle.float_steps.specs.Notation.{◌⊕◌, ◌⊖◌, ◌⊗◌, f1}
use Rattle.float_steps.specs.Axis.{axis_of}
use Rattle.float_steps.specs.declared.axis.Axis.{Axis}
use Rattle.pictures.specs.declared.Rgba.{Rgba}

abbrev pub channels_of : Rgba → List Float
channels_of p = p.r ∷ p.g ∷ p.b ∷ p.a ∷ []

-- the four neighbours, of a picture whose pixel j is `at j`
abbrev pub neighbours_of : (ℕ → Rgba) → ℕ → Axis → Axis → List (List Float)
neighbours_of at w x y =
    channels_of (at (y.at * w + x.at))
    ∷ channels_of (at (y.at * w + x.next))
    ∷ channels_of (at (y.next * w + x.at))
    ∷ channels_of (at (y.next * w + x.next))
    ∷ []

-- channel c of the mixture
abbrev pub mixed_of : List (List Float) → ℕ → Float → Float → Float
mixed_of p c fx fy =
    get_or (get_or p 0 []) c nan ⊗ (f1 ⊖ fx) ⊗ (f1 ⊖ fy)
    ⊕ get_or (get_or p 1 []) c nan ⊗ fx ⊗ (f1 ⊖ fy)
    ⊕ get_or (get_or p 2 []) c nan ⊗ (f1 ⊖ fx) ⊗ fy
    ⊕ get_or (get_or p 3 []) c nan ⊗ fx ⊗ fy

abbrev pub mix_of : List (List Float) → Float → Float → Rgba
mix_of p fx fy = record { r = mixed_of p 0 fx fy; g = mixed_of p 1 fx fy; b = mixed_of p 2 fx fy; a = mixed_of p 3 fx fy }

unfoldable pub bilinear_of : (ℕ → Rgba) → ℕ → ℕ → Float → Float → Rgba
bilinear_of at w h x y = mix_of (neighbours_of at w (axis_of x w) (axis_of y h)) (axis_of x w).along (axis_of y h).along
