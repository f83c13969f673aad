-- A layer as one value, from its row of the layer table and its words of the arguments (document 01: "ten signed 64-bit numbers a layer", and document
-- 02's four; flags; arguments, of which "those past the count are not read"). Every row decodes to a layer; that the numbers are in their ranges is asked
-- in Faults.
use Rattle.std.specs.Prelude.{Bool, cond, List, [], ◌∷◌, ℕ, ◌/◌, ◌%◌, eqb, ltb, ℤ, get_or}
use Rattle.operators.specs.Operators.{op_at}
use Rattle.pictures.specs.Shapes.{nat_of}
use Rattle.places.specs.Gravities.{gravity_at}
use Rattle.layers.specs.declared.Args.{Args}
use Rattle.layers.specs.declared.ChannelMask.{ChannelMask}
use Rattle.layers.specs.declared.Layer.{Layer}
use Rattle.layers.specs.declared.Source.{Source}
use Rattle.layers.specs.declared.Window.{Window}
use Rattle.layers.specs.Cells.{row_at, words_at, cell_of}
use Rattle.layers.specs.Windows.{window_in}
use Rattle.layers.specs.Limits.{at_operator, at_gravity, at_right, at_down, at_flags, at_first, at_width, at_height, at_channels, at_count, tile_bit, overlay_bit, red_bit, green_bit, blue_bit, alpha_bit}

-- a bit, a power of two, stands in the flags
unfoldable pub flagged : ℕ → ℕ → Bool
flagged flags bit = eqb (flags / bit % 2) 1

abbrev pub mask_of : ℕ → ChannelMask
mask_of flags = record {
  red = flagged flags red_bit;
  green = flagged flags green_bit;
  blue = flagged flags blue_bit;
  alpha = flagged flags alpha_bit;
}

abbrev pub source_in : (row : List ℤ) → Source
source_in row = record {
  first = nat_of (cell_of row at_first);
  width = nat_of (cell_of row at_width);
  height = nat_of (cell_of row at_height);
  channels = nat_of (cell_of row at_channels);
}

-- argument i of a layer's words; past the count it is not read and stands as 0
unfoldable pub arg_of : (words : List ℕ) → (count i : ℕ) → ℕ
arg_of words count i = cond (ltb i count) (get_or words i 0) 0

abbrev pub args_of : (words : List ℕ) → (count : ℕ) → Args
args_of words count = record {
  count = count;
  words = arg_of words count 0 ∷ arg_of words count 1 ∷ arg_of words count 2 ∷ arg_of words count 3 ∷ [];
}

unfoldable pub layer_of : (row : List ℤ) → (words : List ℕ) → Layer
layer_of row words = record {
  op = op_at (nat_of (cell_of row at_operator));
  gravity = gravity_at (nat_of (cell_of row at_gravity));
  right = cell_of row at_right;
  down = cell_of row at_down;
  tile = flagged (nat_of (cell_of row at_flags)) tile_bit;
  outside_overlay = flagged (nat_of (cell_of row at_flags)) overlay_bit;
  mask = mask_of (nat_of (cell_of row at_flags));
  source = source_in row;
  args = args_of words (nat_of (cell_of row at_count));
  window = window_in row;
}

-- layer k of a job
unfoldable pub layer_at : (table : List ℤ) → (args : List ℕ) → (k : ℕ) → Layer
layer_at table args k = layer_of (row_at table k) (words_at args k)

-- the layer with another window
abbrev pub with_window : Window → Layer → Layer
with_window w l = record {
  op = l.op;
  gravity = l.gravity;
  right = l.right;
  down = l.down;
  tile = l.tile;
  outside_overlay = l.outside_overlay;
  mask = l.mask;
  source = l.source;
  args = l.args;
  window = w;
}
