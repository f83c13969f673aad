-- Document 01, "Float steps": floor and the byte step `round` (halves away from zero) act on the exact value, which is m * up e / down e.
-- `byte_of` is `narrow_u8` (deep.rs 857 to 874) of one sample.
use Rattle.std.specs.Prelude.{ℕ, ◌+◌, ◌*◌, ◌/◌, min, cond, Float}
use Rattle.std.specs.Float.{nan, inf, fin}
use Rattle.std.specs.Float.Ieee.{up, down}
use Rattle.float_steps.specs.Notation.{◌⊗◌}
use Rattle.float_steps.specs.Literals.{f255}
use Rattle.float_steps.specs.Order.{unit_of}

-- `v.floor() as usize`: the whole part, brought into the range
unfoldable pub floor_of : Float → ℕ
floor_of nan = 0
floor_of (inf s) = cond s 0 0xffff_ffff_ffff_ffff
floor_of (fin s m e) = cond s 0 (min (m * up e / down e) 0xffff_ffff_ffff_ffff)

-- `v.round() as u8`: the nearest whole number, a half going away from zero, brought into the range
unfoldable pub round_byte_of : Float → ℕ
round_byte_of nan = 0
round_byte_of (inf s) = cond s 0 255
round_byte_of (fin s m e) = cond s 0 (min ((2 * (m * up e) + down e) / (2 * down e)) 255)

-- the byte of a sample; a NaN is kept by the clamp and gives 0
unfoldable pub byte_of : Float → ℕ
unfolding round_byte_of
byte_of v = round_byte_of (unit_of v ⊗ f255)
