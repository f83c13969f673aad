-- The blend functions that branch: the helpers of `blend_inner` (composite.rs 957 to 1031) and its arms with an `if`. s is one colour
-- channel of the source, d that of the destination. One rounding an operation, in the Rust's order. Definitions only.
use Rattle.std.specs.Prelude.{cond, Float}
use Rattle.std.specs.Float.Ieee.{lt, le}
use Rattle.float_steps.specs.Notation.{◌⊕◌, ◌⊖◌, ◌⊗◌, ◌⊘◌, f0, f1, f2, half}
use Rattle.float_steps.specs.Literals.{f4, f12, f16, quarter}
use Rattle.float_steps.specs.Order.{smaller_of, larger_of, unit_of}
use Rattle.float_steps.specs.Root.{sqrt_of}

-- ---- the helpers

-- `hard_light` (composite.rs 1034 to 1041)
unfoldable pub hard_light_of : Float → Float → Float
hard_light_of s d = cond (lt s half) (f2 ⊗ s ⊗ d) (let s2 = f2 ⊗ s ⊖ f1 in s2 ⊕ d ⊖ s2 ⊗ d)

-- `dd` (composite.rs 1049 to 1053) of soft_light
unfoldable pub curve_of : Float → Float
curve_of d = cond (le d quarter) (((f16 ⊗ d ⊖ f12) ⊗ d ⊕ f4) ⊗ d) (sqrt_of d)

-- `soft_light` (composite.rs 1045 to 1056)
unfoldable pub soft_light_of : Float → Float → Float
soft_light_of s d = cond (le s half) (d ⊖ (f1 ⊖ f2 ⊗ s) ⊗ d ⊗ (f1 ⊖ d)) (d ⊕ (f2 ⊗ s ⊖ f1) ⊗ (curve_of d ⊖ d))

-- `color_dodge` (composite.rs 1059 to 1067)
unfoldable pub color_dodge_of : Float → Float → Float
color_dodge_of s d = cond (le d f0) f0 (cond (le f1 s) f1 (smaller_of (d ⊘ (f1 ⊖ s)) f1))

-- `color_burn` (composite.rs 1070 to 1079): black is tested before white
unfoldable pub color_burn_of : Float → Float → Float
color_burn_of s d = cond (le s f0) f0 (cond (le f1 d) f1 (f1 ⊖ smaller_of ((f1 ⊖ d) ⊘ s) f1))

-- `divide` (composite.rs 1082 to 1088)
unfoldable pub divide_of : Float → Float → Float
divide_of num den = cond (le den f0) (cond (le num f0) f0 f1) (num ⊘ den)

-- ---- the arms that branch

-- `VividLight` (composite.rs 978 to 984)
unfoldable pub vivid_light_of : Float → Float → Float
vivid_light_of s d = cond (lt s half) (color_burn_of (f2 ⊗ s) d) (color_dodge_of (f2 ⊗ s ⊖ f1) d)

-- `PinLight` (composite.rs 985 to 991)
unfoldable pub pin_light_of : Float → Float → Float
pin_light_of s d = cond (lt s half) (smaller_of d (f2 ⊗ s)) (larger_of d (f2 ⊗ s ⊖ f1))

-- `HardMix` (composite.rs 992 to 998): `blend`, with its clamp, of VividLight
unfoldable pub hard_mix_of : Float → Float → Float
hard_mix_of s d = cond (lt (unit_of (vivid_light_of s d)) half) f0 f1

-- `Freeze` (composite.rs 1006 to 1012)
unfoldable pub freeze_of : Float → Float → Float
freeze_of s d = cond (le d f0) f0 (f1 ⊖ (f1 ⊖ s) ⊗ (f1 ⊖ s) ⊘ d)

-- `Reflect` (composite.rs 1013 to 1019)
unfoldable pub reflect_of : Float → Float → Float
reflect_of s d = cond (le f1 d) f1 (s ⊗ s ⊘ (f1 ⊖ d))
