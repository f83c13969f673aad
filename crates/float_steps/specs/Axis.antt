-- One coordinate of `bilinear_into` (deep.rs 244 to 274): from `x` (deep.rs 247) to `fy` (deep.rs 262) it does the same for x and for y.
use Rattle.std.specs.Prelude.{ℕ, ◌+◌, ◌-◌, min, cond, pos, is_nan, Float}
use Rattle.std.specs.Float.{binary32}
use Rattle.std.specs.Float.Ieee.{of_int}
use Rattle.float_steps.specs.Notation.{◌⊖◌, f0}
use Rattle.float_steps.specs.Order.{clamp_of}
use Rattle.float_steps.specs.Whole.{floor_of}
use Rattle.float_steps.specs.declared.axis.Axis.{Axis}

-- a NaN counts as 0, and any other coordinate is clamped to 0 and hi
unfoldable pub held_of : Float → Float → Float
held_of x hi = cond (is_nan x) f0 (clamp_of x f0 hi)

-- the pixel at or before the coordinate v, the one after it, and how far v is along
unfoldable pub axis_at : Float → ℕ → Axis
axis_at v last = record { at = floor_of v; next = min (floor_of v + 1) last; along = v ⊖ of_int binary32 (pos (floor_of v)) }

-- where x falls on a side that has pixels
unfoldable pub axis_of : Float → (side : ℕ) → Axis
unfolding axis_at
axis_of x side = axis_at (held_of x (of_int binary32 (pos (side - 1)))) (side - 1)
