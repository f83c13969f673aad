-- Document 01, "Float steps": `rem_euclid` by m is the remainder %, plus m if it is below zero. The remainder % itself is `rem` of `lib.Ieee`.
-- `wrap_of` is `wrap` (composite.rs 895 to 898).
use Rattle.std.specs.Prelude.{cond, ◌&&◌, Float}
use Rattle.std.specs.Float.{binary32}
use Rattle.std.specs.Float.Ieee.{rem, lt, le, eq}
use Rattle.float_steps.specs.Notation.{◌⊕◌, f0, f1}

unfoldable pub rem_euclid_of : Float → Float → Float
rem_euclid_of v m = let r = rem binary32 v m in cond (lt r f0) (r ⊕ m) r

unfoldable pub wrap_of : Float → Float
wrap_of v = let w = rem_euclid_of v f1 in cond (le f1 v && eq w f0) f1 w
