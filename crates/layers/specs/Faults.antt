-- The faults of a layer's row, OPERATOR to ARGUMENTS of document 01's table and document 02's WINDOW after them, in exact integers: the number of the first
-- one. A further check of the row is one more line at the end of `layer_checks`.
use Rattle.std.specs.Prelude.{Bool, cond, ◌||◌, List, [], ◌∷◌, ℕ, ◌+◌, eqb, ltb, ℤ, pos, neg_ℤ, Result}
use Rattle.std.specs.Int.Signed.{lt_z}
use Rattle.faults.specs.declared.Fault.{Fault}
use Rattle.faults.specs.Numbers.{number_in}
use Rattle.faults.specs.Faults.{NONE, PLACING, FLAGS, SOURCE, ARGUMENTS, WINDOW}
use Rattle.operators.specs.Numbers.{op_of}
use Rattle.operators.specs.declared.CompositeOp.{CompositeOp}
use Rattle.pictures.specs.declared.Shape.{Shape}
use Rattle.pictures.specs.Shapes.{nat_of, outside_z, shape_of, bad_shape, sample_count}
use Rattle.places.specs.Gravities.{last_gravity}
use Rattle.layers.specs.Cells.{cell_of}
use Rattle.layers.specs.Limits.{most_offset, most_flags, most_window, arg_words, at_operator, at_gravity, at_right, at_down, at_flags, at_first, at_width, at_height, at_channels, at_count, at_left, at_top, at_window_width, at_window_height}

-- the first fault of a list of checks
abbrev pub first_of : List ℕ → ℕ
first_of [] = NONE
first_of (f ∷ fs) = cond (eqb f NONE) (first_of fs) f

-- a fault where a test holds
abbrev pub fault_if : Bool → ℕ → ℕ
fault_if t number = cond t number NONE

-- the fault of what a row's operator names, which operators/specs/Numbers says: OPERATOR or CURVE
abbrev pub op_fault : Result CompositeOp Fault → ℕ
op_fault r = number_in r

-- an offset is outside its range
abbrev pub bad_offset : ℤ → Bool
bad_offset z = outside_z (neg_ℤ (pos most_offset)) (pos most_offset) z

-- a number of a window is outside its range
abbrev pub bad_extent : ℤ → Bool
bad_extent z = outside_z (pos 0) (pos most_window) z

-- PLACING
unfoldable pub bad_placing : (row : List ℤ) → Bool
bad_placing row =
    outside_z (pos 0) (pos last_gravity) (cell_of row at_gravity)
    || bad_offset (cell_of row at_right)
    || bad_offset (cell_of row at_down)

-- the shape of the source, as a row gives it
abbrev pub source_shape : (row : List ℤ) → Shape
source_shape row = shape_of (cell_of row at_width) (cell_of row at_height) (cell_of row at_channels)

-- SOURCE, for the number of the source samples
unfoldable pub bad_source : (row : List ℤ) → (samples : ℕ) → Bool
bad_source row samples =
    lt_z (cell_of row at_first) (pos 0)
    || bad_shape (source_shape row)
    || ltb samples (nat_of (cell_of row at_first) + sample_count (source_shape row))

-- WINDOW: each of the window's numbers by itself
unfoldable pub bad_window : (row : List ℤ) → Bool
bad_window row =
    bad_extent (cell_of row at_left)
    || bad_extent (cell_of row at_top)
    || bad_extent (cell_of row at_window_width)
    || bad_extent (cell_of row at_window_height)

-- the checks of a row, for the number of the source samples
abbrev pub layer_checks : (row : List ℤ) → (samples : ℕ) → List ℕ
layer_checks row samples =
    op_fault (op_of (cell_of row at_operator))
    ∷ fault_if (bad_placing row) PLACING
    ∷ fault_if (outside_z (pos 0) (pos most_flags) (cell_of row at_flags)) FLAGS
    ∷ fault_if (bad_source row samples) SOURCE
    ∷ fault_if (outside_z (pos 0) (pos arg_words) (cell_of row at_count)) ARGUMENTS
    ∷ fault_if (bad_window row) WINDOW
    ∷ []

unfoldable pub layer_fault : (row : List ℤ) → (samples : ℕ) → ℕ
layer_fault row samples = first_of (layer_checks row samples)
