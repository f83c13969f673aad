-- What a pixel that can be asked for has of its layer, and what it may ask of the picture beneath. Assumes nothing.
use Rattle.std.proofs.Common.{◌≡◌, ℕ, suc, ◌+◌, ◌*◌, ◌^◌, ◌<◌, ◌≤◌, Bool, false, length, arith}
use native.Mathlib.Nat.{mul-le-mul}
use Rattle.float_steps.specs.declared.axis.Axis.{Axis}
use Rattle.float_steps.proofs.AxisInside.{axis_inside}
use Rattle.places.specs.Bounds.{slack, Measured}
use Rattle.layers.specs.declared.Layer.{Layer}
use Rattle.layers.specs.GoodLayers.{GoodLayer, Picture}
use Rattle.layers.specs.Inputs.{Inputs, job_fault}
use Rattle.layers.specs.Limits.{columns, arg_words}
use Rattle.layers.proofs.Accepted.{accepted, measured, destination}
use Rattle.pictures.specs.Shapes.{nat_of}
use Rattle.pictures.specs.declared.Rgba.{Rgba}
use Rattle.pictures.specs.declared.Words.{Words}
use Rattle.pictures.proofs.Inside.{pixel_inside, words_inside}
use Rattle.pictures.proofs.Ranges.{channels_least, channels_most}
use Rattle.compose.specs.Compose.{reads_through, written_of}
use Rattle.compose.specs.Plans.{plan_of}
use Rattle.compose.specs.declared.Plan.{Plan}
use Rattle.compose.proofs.Pixels.{column_row}
use Rattle.spots.specs.Spots.{layer_in, around, sum_of, reads_of}
use Rattle.spots.specs.Steps.{On, Asked, AskedAround}
use Rattle.spots.proofs.Needed.{MappedAt}

-- ---- the picture

abbrev wide : Inputs → ℕ
wide i = nat_of i.shape.width

abbrev high : Inputs → ℕ
high i = nat_of i.shape.height

module _ (i : Inputs) (fit : (job_fault i).number ≡ 0) where
  pub picture : Picture (wide i) (high i) (nat_of i.shape.channels) (length i.dst)
  picture = destination i (accepted i fit)

  -- a pixel of the destination has its words
  pub words_held : (j : ℕ) → j < wide i * high i → nat_of i.shape.channels * j + nat_of i.shape.channels ≤ length i.dst
  words_held j h = rw picture.whole (words_inside (nat_of i.shape.channels) j (wide i * high i) h)

  -- the number of a pixel, and that of the first of its row, fit
  pub number_fits : (x y : ℕ) → x < wide i → y < high i → (y * wide i + x < wide i * high i) × (y * wide i + x < 2 ^ 64)
  number_fits x y a b =
      let inside = pixel_inside (wide i) (high i) x y a b in
      let pixels : wide i * high i ≤ slack * slack = mul-le-mul picture.width picture.height in
      (inside, omega arith)

-- ---- a layer

module _ (i : Inputs) (n : ℕ) (fit : (job_fault i).number ≡ 0) (below : n < nat_of i.count) where
  pub good : GoodLayer (length i.samples) (layer_in i n)
  good = (accepted i fit).layer n below

  pub rows_held : (n * columns + columns ≤ length i.table) × (n * arg_words + arg_words ≤ length i.args)
  rows_held = let a = accepted i fit in (rw a.table (omega arith), rw a.args (omega arith))

  pub placed : let l = layer_in i n in Measured (wide i) (high i) l.source.width l.source.height l.right l.down × (1 ≤ l.source.channels) × (l.source.channels ≤ 4)
  placed =
      let d = picture i fit in (
        measured (wide i) (high i) (length i.samples) (layer_in i n) d.width d.height good,
        channels_least _ good.channels,
        channels_most _ good.channels,
      )

-- a layer's plan on the destination, at one of its pixels
pub on_plan : (i : Inputs) (l : Layer) (p : Plan) (j : ℕ) → (job_fault i).number ≡ 0 → p ≡ plan_of l (wide i) (high i) → j < wide i * high i → On p j
unfolding plan_of
on_plan i l p j fit e h = let d = picture i fit in rw e record { width = d.width; height = d.height; inside = h }

-- the plan of a layer that is no map
pub no_map_by : (l : Layer) (dw dh : ℕ) {p : Plan} → p ≡ plan_of l dw dh → reads_through l.op ≡ false → p.map ≡ false
unfolding plan_of
no_map_by l dw dh e h = rw (e, h)

-- it writes into the layer's channels
pub masked : (l : Layer) (dw dh : ℕ) {p : Plan} (v : Rgba) (own : Words) → p ≡ plan_of l dw dh → written_of p.mask v own ≡ written_of l.mask v own
unfolding plan_of
masked l dw dh v own e = rw e

-- ---- the picture beneath

module _ (i : Inputs) (k n j : ℕ) (up : k ≡ suc n) (asked : Asked i k) where
  pub beneath : Asked i n
  beneath = let h = asked.picture in record { fit = asked.fit; picture = omega arith }

  -- a map's four neighbours lie in it
  pub asked_around : (l : Layer) (x y : Axis) (all : Bool) (reads : ℕ) → j < wide i * high i → MappedAt i.samples l (wide i) (high i) j x y all
      → reads + sum_of (reads_of i n) (around (wide i) x y) < 2 ^ 64 → AskedAround i n x y reads
  asked_around l x y all reads h m room =
      let d = picture i asked.fit in
      let at = column_row (wide i) (high i) j h in
      let some_wide : 1 ≤ wide i = omega (arith, at.0) in
      let some_high : 1 ≤ high i = omega (arith, at.1) in
      record {
        asked = beneath;
        left = rw m.column (axis_inside _ (wide i) some_wide d.width).0;
        right = rw m.column (axis_inside _ (wide i) some_wide d.width).1;
        upper = rw m.row (axis_inside _ (high i) some_high d.height).0;
        lower = rw m.row (axis_inside _ (high i) some_high d.height).1;
        room = room;
      }
