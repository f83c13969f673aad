-- A layer from its fields, each as the code reads it from the row: the definition's. And a row's first ten numbers decide all of a layer but its window.
-- Assumes nothing.
use mathlib.Core.Path.{◌≡◌}
use mathlib.Core.Bool.{Bool}
use mathlib.Core.List.{List, ◌++◌}
use Prim.Native.Nat.{ℕ, ◌<◌}
use native.Mathlib.Omega.{arith}
use lib.Dec.{lit<}
use lib.IntN.{ℤ, pos}
use lib.ListN.{length, get_or-append}
use Rattle.operators.specs.Operators.{op_at}
use Rattle.operators.specs.declared.CompositeOp.{CompositeOp}
use Rattle.pictures.specs.Shapes.{nat_of}
use Rattle.places.specs.Gravities.{gravity_at}
use Rattle.places.specs.declared.Gravity.{Gravity}
use Rattle.layers.specs.declared.Args.{Args}
use Rattle.layers.specs.declared.ChannelMask.{ChannelMask}
use Rattle.layers.specs.declared.Source.{Source}
use Rattle.layers.specs.declared.Window.{Window}
use Rattle.layers.specs.Cells.{cell_of}
use Rattle.layers.specs.Layers.{flagged, mask_of, source_in, args_of, layer_of, with_window}
use Rattle.layers.specs.Limits.{at_operator, at_gravity, at_right, at_down, at_flags, at_first, at_width, at_height, at_channels, at_count, at_left}
use Rattle.layers.specs.Limits.{tile_bit, overlay_bit}
use Rattle.layers.specs.Windows.{window_in}

-- the numbers that the code reads of a row on the way
module _ (row : List ℤ) (words : List ℕ) {number gravity flags count : ℕ} (en : number ≡ nat_of (cell_of row at_operator))
    (eg : gravity ≡ nat_of (cell_of row at_gravity)) (ef : flags ≡ nat_of (cell_of row at_flags)) (ec : count ≡ nat_of (cell_of row at_count)) where
  pub made : {op : CompositeOp} {g : Gravity} {right down : ℤ} {tile overlay : Bool} {mask : ChannelMask} {source : Source} {args : Args} {window : Window}
      → op ≡ op_at number → g ≡ gravity_at gravity → right ≡ cell_of row at_right → down ≡ cell_of row at_down
      → tile ≡ flagged flags tile_bit → overlay ≡ flagged flags overlay_bit → mask ≡ mask_of flags → source ≡ source_in row → args ≡ args_of words count
      → window ≡ window_in row
      → record {
        op = op;
        gravity = g;
        right = right;
        down = down;
        tile = tile;
        outside_overlay = overlay;
        mask = mask;
        source = source;
        args = args;
        window = window;
      } ≡ layer_of row words
  unfolding layer_of
  made a b c d e f g h i j = rw (a, b, c, d, e, f, g, h, i, j, en, eg, ef, ec)

-- ten numbers, and others after them
module _ (row rest : List ℤ) (h : length row ≡ at_left) where
  cell : (c : ℕ) → c < at_left → cell_of (row ++ rest) c ≡ cell_of row c
  cell c k = get_or-append row rest (pos 0) c (omega arith)

  pub ten_numbers : (words : List ℕ) → layer_of (row ++ rest) words ≡ with_window (window_in (row ++ rest)) (layer_of row words)
  unfolding layer_of
  ten_numbers words = rw (
    cell at_operator (lit< tt),
    cell at_gravity (lit< tt),
    cell at_right (lit< tt),
    cell at_down (lit< tt),
    cell at_flags (lit< tt),
    cell at_first (lit< tt),
    cell at_width (lit< tt),
    cell at_height (lit< tt),
    cell at_channels (lit< tt),
    cell at_count (lit< tt),
  )
