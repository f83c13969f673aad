-- Document 01, "Float steps": smaller and larger (`min` and `max` of the Rust), clamp, and `is_finite`, which `arg` asks.
use Rattle.std.specs.Prelude.{Bool, true, false, cond, is_nan, Float}
use Rattle.std.specs.Float.{nan, inf, fin}
use Rattle.std.specs.Float.Ieee.{lt}
use Rattle.float_steps.specs.Notation.{f0, f1}

-- a NaN yields the other operand; equal values yield the first
unfoldable pub smaller_of : Float → Float → Float
smaller_of a b = cond (is_nan a) b (cond (lt b a) b a)

unfoldable pub larger_of : Float → Float → Float
larger_of a b = cond (is_nan a) b (cond (lt a b) b a)

-- clamp keeps NaN
unfoldable pub clamp_of : Float → Float → Float → Float
clamp_of v lo hi = cond (lt v lo) lo (cond (lt hi v) hi v)

-- clamp to 0 and 1
abbrev pub unit_of : Float → Float
unit_of v = clamp_of v f0 f1

-- neither a NaN nor an infinity
unfoldable pub finite_of : Float → Bool
finite_of nan = false
finite_of (inf s) = false
finite_of (fin s m e) = true
