-- A picture's sides and channels as a caller gives them, any numbers, and which of them are accepted (document 01: sides of 0 to 2,048, channels 1, 3 or 4).
-- Definitions only.
use Rattle.std.specs.Prelude.{Bool, true, not, ◌||◌, ℕ, ◌*◌, eqb, ℤ, pos, negsuc}
use Rattle.std.specs.Int.Signed.{lt_z}
use Rattle.pictures.specs.declared.Shape.{Shape}

-- a number that is not negative, as a natural number; a negative one as 0
unfoldable pub nat_of : ℤ → ℕ
nat_of (pos n) = n
nat_of (negsuc n) = 0

-- z is not from lo to hi
unfoldable pub outside_z : ℤ → ℤ → ℤ → Bool
outside_z lo hi z = lt_z z lo || lt_z hi z

-- z is none of 1, 3 and 4, which a picture's channels may be
unfoldable pub bad_channels : ℤ → Bool
bad_channels (pos n) = not (eqb n 1 || eqb n 3 || eqb n 4)
bad_channels (negsuc n) = true

-- the largest side; `Shape::SIDE` has the same value
abbrev pub most_side : ℕ
most_side = 2048

abbrev pub shape_of : ℤ → ℤ → ℤ → Shape
shape_of width height channels = record { width = width; height = height; channels = channels }

-- a side or the channels of a picture are out of their range
unfoldable pub bad_shape : Shape → Bool
bad_shape s =
    outside_z (pos 0) (pos most_side) s.width
    || outside_z (pos 0) (pos most_side) s.height
    || bad_channels s.channels

-- the samples of a picture
abbrev pub sample_count : Shape → ℕ
sample_count s = nat_of s.width * nat_of s.height * nat_of s.channels
