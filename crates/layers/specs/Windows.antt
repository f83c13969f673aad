-- A layer's window (document 02, A.3: "left, top, width and height of a window in tray pixels"), and the pixels that it holds, in exact integers. It may
-- reach past the destination; one without a column or without a row holds nothing. Definitions only.
use Rattle.std.specs.Prelude.{◌≡◌, Bool, true, ◌&&◌, List, ℕ, ◌+◌, ◌<◌, leb, ltb, ℤ}
use Rattle.pictures.specs.Shapes.{nat_of}
use Rattle.layers.specs.declared.Window.{Window}
use Rattle.layers.specs.Cells.{cell_of}
use Rattle.layers.specs.Limits.{at_left, at_top, at_window_width, at_window_height}

abbrev pub window_in : (row : List ℤ) → Window
window_in row = record {
  left = nat_of (cell_of row at_left);
  top = nat_of (cell_of row at_top);
  width = nat_of (cell_of row at_window_width);
  height = nat_of (cell_of row at_window_height);
}

-- along one side: first ≤ at < first + extent
abbrev pub within : (first extent at : ℕ) → Bool
within first extent at = leb first at && ltb at (first + extent)

-- the pixel in column x and row y
unfoldable pub holds : Window → (x y : ℕ) → Bool
holds w x y = within w.left w.width x && within w.top w.height y

-- every pixel of a destination of dw by dh
abbrev pub HoldsAll : Window → (dw dh : ℕ) → Type 0
HoldsAll w dw dh = (x y : ℕ) → x < dw → y < dh → holds w x y ≡ true
