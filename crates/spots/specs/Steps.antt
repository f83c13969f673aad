-- What the functions beneath the call ask and answer: a layer by its plan, and the recursion. Definitions only.
use Rattle.std.specs.Prelude.{◌≡◌, Bool, cond, ◌&&◌, ◌||◌, List, ℕ, ◌+◌, ◌*◌, ◌^◌, ◌<◌, ◌≤◌, length}
use Rattle.faults.specs.Faults.{NONE}
use Rattle.operators.specs.Operators.{same_op}
use Rattle.operators.specs.declared.CompositeOp.{CompositeOp}
use Rattle.operators.specs.declared.CompositeOp.TheVariants as O
use Rattle.layers.specs.Inputs.{Inputs, job_fault}
use Rattle.float_steps.specs.declared.axis.Axis.{Axis}
use Rattle.places.specs.Bounds.{slack}
use Rattle.pictures.specs.Shapes.{nat_of}
use Rattle.pictures.specs.declared.Rgba.{Rgba}
use Rattle.pictures.specs.declared.Words.{Words}
use Rattle.compose.specs.Compose.{source_of, source_pixel}
use Rattle.compose.specs.Plans.{index_by, writes_by, map_column_by, map_row_by, pixel_on}
use Rattle.compose.specs.Ready.{Planned, Ready}
use Rattle.compose.specs.declared.Plan.{Plan}
use Rattle.spots.specs.declared.Needs.{Needs}
use Rattle.spots.specs.declared.Needs.TheVariants.{Kept, Nothing, Own, Around}
use Rattle.spots.specs.Spots.{layer_in, all_on, around, reads_of, sum_of}

-- ---- a layer by its plan

-- its operator's result is of the source alone
abbrev pub source_alone : CompositeOp → Bool
source_alone op = same_op op O.Src || same_op op O.Clear

-- a map, at the source's pixel s
abbrev pub around_by : Plan → (s : Rgba) → (x y : ℕ) → Needs
around_by p s x y = Around (map_column_by p s x) (map_row_by p s y) (all_on p.mask)

-- where the layer writes the pixel (x, y)
unfoldable pub written_needs : Plan → (source : List ℕ) → (x y : ℕ) → Needs
written_needs p source x y =
    cond (source_alone p.op && all_on p.mask) Nothing
    (cond p.map (around_by p (source_pixel source p.channels (index_by p x y)) x y) Own)

unfoldable pub needs_by : Plan → (source : List ℕ) → (x y : ℕ) → Needs
needs_by p source x y = cond (writes_by p x y) (written_needs p source x y) Kept

-- pixel j of a plan's destination
pub record On (p : Plan) (j : ℕ) : Type 0 where
  pub width : p.dw ≤ slack
  pub height : p.dh ≤ slack
  pub inside : j < p.dw * p.dh

-- pixel j where the layer is no map, on its own words
abbrev pub painted_by : Plan → (source : List ℕ) → (own : Words) → (j : ℕ) → Words
painted_by p source own j = pixel_on p source (λ i. own) j

-- layer n's plan on the destination, and its source
pub record Laid (i : Inputs) (n : ℕ) (p : Plan) (source : List ℕ) : Type 0 where
  pub planned : Planned (layer_in i n) (nat_of i.shape.width) (nat_of i.shape.height) p
  pub own : source ≡ source_of i.samples (layer_in i n).source
  pub ready : Ready p (length source)

-- ---- the recursion

-- a pixel of picture k of a job without a fault can be asked for
pub record Asked (i : Inputs) (k : ℕ) : Type 0 where
  pub fit : (job_fault i).number ≡ NONE
  pub picture : k ≤ nat_of i.count

-- pixel j of it, where the count has room for its reads
pub record AskedAt (i : Inputs) (k j reads : ℕ) : Type 0 where
  pub asked : Asked i k
  pub inside : j < nat_of i.shape.width * nat_of i.shape.height
  pub room : reads + reads_of i k j < 2 ^ 64

-- the pixel of it in a column and a row
pub record AskedPlace (i : Inputs) (k column row reads : ℕ) : Type 0 where
  pub asked : Asked i k
  pub across : column < nat_of i.shape.width
  pub down : row < nat_of i.shape.height
  pub room : reads + reads_of i k (row * nat_of i.shape.width + column) < 2 ^ 64

-- the four neighbours of a column and a row
pub record AskedAround (i : Inputs) (k : ℕ) (x y : Axis) (reads : ℕ) : Type 0 where
  pub asked : Asked i k
  pub left : x.at < nat_of i.shape.width
  pub right : x.next < nat_of i.shape.width
  pub upper : y.at < nat_of i.shape.height
  pub lower : y.next < nat_of i.shape.height
  pub room : reads + sum_of (reads_of i k) (around (nat_of i.shape.width) x y) < 2 ^ 64
