-- Document 01, "Float steps": the absolute value clears the sign bit; `powi(2)` is the product v × v.
use Rattle.std.specs.Prelude.{◌%◌, from_bits, to_bits, Float}
use Rattle.std.specs.Float.{binary32}
use Rattle.float_steps.specs.Notation.{◌⊗◌}

unfoldable pub abs_of : Float → Float
abs_of v = from_bits binary32 (to_bits binary32 v % 0x8000_0000)

abbrev pub square_of : Float → Float
square_of v = v ⊗ v
