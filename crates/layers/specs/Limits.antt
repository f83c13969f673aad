-- The numbers of a job, each once: its limits, the columns of a layer's row and the bits of its flags (document 01, "Why a
-- job is turned down" and the line on flags). The associated constants of the layer type and of `ChannelMask` have the
-- same values. The largest side stands in pictures/specs/Shapes, the last gravity in places/specs/Gravities.
use Rattle.std.specs.Prelude.{ℕ}
use Rattle.pictures.specs.Shapes.{most_side}

-- the numbers that the layer table has for a layer, and the words of its arguments
abbrev pub columns : ℕ
columns = 14

abbrev pub arg_words : ℕ
arg_words = 4

-- the most layers, the largest offset either way, the largest flags
abbrev pub most_layers : ℕ
most_layers = 16

abbrev pub most_offset : ℕ
most_offset = 1000000

abbrev pub most_flags : ℕ
most_flags = 63

-- the largest number of a window, as large as the largest side
abbrev pub most_window : ℕ
most_window = most_side

-- the columns of a layer's row
abbrev pub at_operator : ℕ
at_operator = 0

abbrev pub at_gravity : ℕ
at_gravity = 1

abbrev pub at_right : ℕ
at_right = 2

abbrev pub at_down : ℕ
at_down = 3

abbrev pub at_flags : ℕ
at_flags = 4

abbrev pub at_first : ℕ
at_first = 5

abbrev pub at_width : ℕ
at_width = 6

abbrev pub at_height : ℕ
at_height = 7

abbrev pub at_channels : ℕ
at_channels = 8

abbrev pub at_count : ℕ
at_count = 9

abbrev pub at_left : ℕ
at_left = 10

abbrev pub at_top : ℕ
at_top = 11

abbrev pub at_window_width : ℕ
at_window_width = 12

abbrev pub at_window_height : ℕ
at_window_height = 13

-- the bits of the flags
abbrev pub tile_bit : ℕ
tile_bit = 1

abbrev pub overlay_bit : ℕ
overlay_bit = 2

abbrev pub red_bit : ℕ
red_bit = 4

abbrev pub green_bit : ℕ
green_bit = 8

abbrev pub blue_bit : ℕ
blue_bit = 16

abbrev pub alpha_bit : ℕ
alpha_bit = 32
