-- A layer's plan, which the code works out once a layer, and a pixel computed from it. Compose says what the layer asks for; that the plan gives the same
-- is part of the contract of `plan` (`Planned`, Ready). Definitions only.
use Rattle.std.specs.Prelude.{Bool, cond, ◌&&◌, ◌||◌, List, ℕ, ◌+◌, ◌/◌, ◌%◌, Option}
use Rattle.float_steps.specs.Axis.{axis_of}
use Rattle.float_steps.specs.declared.axis.Axis.{Axis}
use Rattle.operators.specs.Operators.{same_op}
use Rattle.operators.specs.declared.CompositeOp.TheVariants as O
use Rattle.places.specs.Indices.{source_index}
use Rattle.layers.specs.declared.Layer.{Layer}
use Rattle.layers.specs.Windows.{holds}
use Rattle.pictures.specs.Widen.{values_of}
use Rattle.pictures.specs.Bilinear.{neighbours_of, mix_of}
use Rattle.pictures.specs.declared.Rgba.{Rgba}
use Rattle.pictures.specs.declared.Words.{Words}
use Rattle.pixels.specs.Pixel.{pixel_of}
use Rattle.compose.specs.Arguments.{params_of}
use Rattle.compose.specs.Compose.{corner_of, inside, source_pixel, reads_through, map_coordinate, written_of}
use Rattle.compose.specs.declared.Plan.{Plan}

-- a layer on a destination of dw by dh pixels
unfoldable pub plan_of : Layer → (dw dh : ℕ) → Plan
plan_of l dw dh = record {
  op = l.op;
  params = params_of l.op l.args;
  map = reads_through l.op;
  displace = same_op l.op O.Displace;
  corner = corner_of l dw dh;
  tile = l.tile;
  overlay = l.outside_overlay;
  mask = l.mask;
  width = l.source.width;
  height = l.source.height;
  channels = l.source.channels;
  dw = dw;
  dh = dh;
  window = l.window;
}

-- ---- the pixel in column x and row y by the plan, as Compose has it by the layer

abbrev pub index_by : Plan → (x y : ℕ) → Option ℕ
index_by p x y = source_index p.tile p.width p.height p.corner x y

abbrev pub covers_by : Plan → (x y : ℕ) → Bool
covers_by p x y = inside (index_by p x y) || p.overlay

abbrev pub writes_by : Plan → (x y : ℕ) → Bool
writes_by p x y = holds p.window x y && covers_by p x y

abbrev pub map_column_by : Plan → (s : Rgba) → (x : ℕ) → Axis
map_column_by p s x = axis_of (map_coordinate p.displace x s.r p.params.a) p.dw

abbrev pub map_row_by : Plan → (s : Rgba) → (y : ℕ) → Axis
map_row_by p s y = axis_of (map_coordinate p.displace y s.g p.params.b) p.dh

abbrev pub painted_by : Plan → (s d : Rgba) → Rgba
painted_by p s d = pixel_of p.op p.params s d

abbrev pub mapped_by : Plan → (ℕ → Rgba) → (s : Rgba) → (x y : ℕ) → Rgba
mapped_by p beneath s x y =
    let column = map_column_by p s x in
    let row = map_row_by p s y in
    mix_of (neighbours_of beneath p.dw column row) column.along row.along

unfoldable pub result_by : Plan → (ℕ → Rgba) → (s d : Rgba) → (x y : ℕ) → Rgba
result_by p beneath s d x y = cond p.map (mapped_by p beneath s x y) (painted_by p s d)

-- from its own words beneath and, for a map, the values of the whole picture beneath
unfoldable pub composed_by : Plan → (source : List ℕ) → (ℕ → Rgba) → (own : Words) → (x y : ℕ) → Words
composed_by p source beneath own x y =
    let s = source_pixel source p.channels (index_by p x y) in
    cond (writes_by p x y) (written_of p.mask (result_by p beneath s (values_of own) x y) own) own

-- ---- pixels by their numbers, row by row

-- pixel i of a run that begins at pixel `from`; its own words beneath are `own i`
abbrev pub pixels_from : Plan → (source : List ℕ) → (ℕ → Rgba) → (own : ℕ → Words) → (from i : ℕ) → Words
pixels_from p source beneath own from i = composed_by p source beneath (own i) ((from + i) % p.dw) ((from + i) / p.dw)

-- pixel j on the picture beneath, whose pixel i is `beneath i`
abbrev pub pixel_on : Plan → (source : List ℕ) → (ℕ → Words) → (j : ℕ) → Words
pixel_on p source beneath j = composed_by p source (λ i. values_of (beneath i)) (beneath j) (j % p.dw) (j / p.dw)
