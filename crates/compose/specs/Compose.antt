-- `compose_float` (composite.rs 594 to 647) restated over values and their words, pixel by pixel and in its order: one pixel of the result from the layer, the
-- destination's sides dw and dh, a reader of the picture beneath, and the pixel's number j, row by row: its column x is j % dw, its row y is j / dw.
-- Document 01: "Where a source lands", "Float steps" on what is stored. Document 02, A.3: the pixels off a layer's window are kept, which the Rust does not
-- know; specs/Unwindowed has the Rust's own result. Definitions only.
use Rattle.std.specs.Prelude.{Bool, true, false, cond, ◌&&◌, ◌||◌, List, ℕ, ◌*◌, ◌/◌, ◌%◌, pos, take, drop, Float, Option, Some, None}
use Rattle.std.specs.Float.{binary32}
use Rattle.std.specs.Float.Ieee.{of_int}
use Rattle.float_steps.specs.Axis.{axis_of}
use Rattle.float_steps.specs.Notation.{◌⊕◌, ◌⊖◌, ◌⊗◌, half}
use Rattle.float_steps.specs.Words.{word_of}
use Rattle.float_steps.specs.declared.axis.Axis.{Axis}
use Rattle.operators.specs.Operators.{same_op}
use Rattle.operators.specs.declared.CompositeOp.{CompositeOp}
use Rattle.operators.specs.declared.CompositeOp.TheVariants as O
use Rattle.places.specs.Placement.{placement_of}
use Rattle.places.specs.Indices.{source_index}
use Rattle.places.specs.declared.Corner.{Corner}
use Rattle.layers.specs.declared.ChannelMask.{ChannelMask}
use Rattle.layers.specs.declared.Layer.{Layer}
use Rattle.layers.specs.declared.Source.{Source}
use Rattle.layers.specs.Windows.{holds}
use Rattle.pictures.specs.Widen.{words_of, rgba_at, values_of}
use Rattle.pictures.specs.FlatWords.{flat}
use Rattle.pictures.specs.Bilinear.{neighbours_of, mix_of}
use Rattle.pictures.specs.declared.Rgba.{Rgba}
use Rattle.pictures.specs.declared.Words.{Words}
use Rattle.pixels.specs.Pixel.{pixel_of, clear}
use Rattle.compose.specs.Arguments.{params_of}

-- ---- before the rows: from `d` (composite.rs 595) to `tile` (composite.rs 603)

-- `src`: the source's picture, a part of the source samples
abbrev pub source_of : List ℕ → Source → List ℕ
source_of samples source = take (source.width * source.height * source.channels) (drop source.first samples)

-- `ox` (composite.rs 598) and `oy`: the source's top left corner
abbrev pub corner_of : Layer → (dw dh : ℕ) → Corner
corner_of l dw dh = placement_of l.gravity dw dh l.source.width l.source.height l.right l.down

-- ---- one pixel of a `row` (composite.rs 608 to 644): where it reads

-- `sx` (composite.rs 610) and `sy`: the source's pixel on pixel j, if there is one
abbrev pub index_on : Layer → (dw dh j : ℕ) → Option ℕ
index_on l dw dh j = source_index l.tile l.source.width l.source.height (corner_of l dw dh) (j % dw) (j / dw)

-- `inside` (composite.rs 615)
abbrev pub inside : Option ℕ → Bool
inside (Some n) = true
inside None = false

-- whether a layer covers pixel j, as `outside_overlay` (composite.rs 616 to 618) has it: it lies on the source, or overlay is on
abbrev pub covers : Layer → (dw dh j : ℕ) → Bool
covers l dw dh j = inside (index_on l dw dh j) || l.outside_overlay

-- whether a layer writes pixel j: its window holds the pixel (document 02, A.3), and it covers it
unfoldable pub writes : Layer → (dw dh j : ℕ) → Bool
writes l dw dh j = holds l.window (j % dw) (j / dw) && covers l dw dh j

-- `sp` (composite.rs 619 to 624): the source's pixel, of so many channels; off the source (0, 0, 0, 0)
unfoldable pub source_pixel : List ℕ → (channels : ℕ) → Option ℕ → Rgba
source_pixel source channels (Some n) = values_of (rgba_at source channels n)
source_pixel source channels None = clear

-- Whether the operator is a map, which reads the picture beneath through the source. The Rust's `is_map` comprises Blur
-- besides: a layer with Blur is refused (fault 4) and never gets here.
abbrev pub reads_through : CompositeOp → Bool
reads_through op = same_op op O.Displace || same_op op O.Distort

-- a whole number as an f32
abbrev pub float_of : ℕ → Float
float_of n = of_int binary32 (pos n)

-- `px` and `py` of `Displace` (composite.rs 1156 to 1162) and of `Distort` (composite.rs 1163 to 1169): at is x or y, v the source's red or green, by X or Y
unfoldable pub map_coordinate : (displace : Bool) → (at : ℕ) → (v by : Float) → Float
map_coordinate displace at v by = cond displace (float_of at ⊕ (v ⊖ half) ⊗ by) (v ⊗ by)

-- where a map reads the picture beneath for pixel j, on which the source's pixel s lies: the columns by its red, the rows by its green
abbrev pub map_column : Layer → (dw : ℕ) → (s : Rgba) → (j : ℕ) → Axis
map_column l dw s j = axis_of (map_coordinate (same_op l.op O.Displace) (j % dw) s.r (params_of l.op l.args).a) dw

abbrev pub map_row : Layer → (dw dh : ℕ) → (s : Rgba) → (j : ℕ) → Axis
map_row l dw dh s j = axis_of (map_coordinate (same_op l.op O.Displace) (j / dw) s.g (params_of l.op l.args).b) dh

-- ---- its result

-- without a map, from the source's pixel s and its own pixel d beneath
abbrev pub painted : Layer → (s d : Rgba) → Rgba
painted l s d = pixel_of l.op (params_of l.op l.args) s d

-- `r` (composite.rs 627 to 631) with the arms of `sample` (composite.rs 1154): a map mixes the four neighbours of the place where it reads the picture
-- beneath. That this is `bilinear_into` at `px` and `py` is a law (proofs/Maps).
unfoldable pub result_of : Layer → (dw dh : ℕ) → (ℕ → Rgba) → (s d : Rgba) → (j : ℕ) → Rgba
result_of l dw dh beneath s d j =
    let x = map_column l dw s j in
    let y = map_row l dw dh s j in
    cond (reads_through l.op) (mix_of (neighbours_of beneath dw x y) x.along y.along) (painted l s d)

-- ---- what is written of it

-- a channel, as `red` (composite.rs 632 to 634): written where its flag is on, a NaN as 7FC00000; else kept with all its bits
abbrev pub written_word : Bool → Float → ℕ → ℕ
written_word on v kept = cond on (word_of v) kept

unfoldable pub written_of : ChannelMask → Rgba → Words → Words
written_of m v kept =
    words_of (written_word m.red v.r kept.r) (written_word m.green v.g kept.g)
    (written_word m.blue v.b kept.b) (written_word m.alpha v.a kept.a)

-- pixel j where it is written, on the picture beneath, whose pixel i is `beneath i`
abbrev pub written_at : List ℕ → Layer → (dw dh : ℕ) → (ℕ → Words) → (j : ℕ) → Words
written_at samples l dw dh beneath j =
    let s = source_pixel (source_of samples l.source) l.source.channels (index_on l dw dh j) in
    written_of l.mask (result_of l dw dh (λ i. values_of (beneath i)) s (values_of (beneath j)) j) (beneath j)

-- Pixel j of a layer on the picture beneath.
unfoldable pub composed_at : List ℕ → Layer → (dw dh : ℕ) → (ℕ → Words) → (j : ℕ) → Words
composed_at samples l dw dh beneath j = cond (writes l dw dh j) (written_at samples l dw dh beneath j) (beneath j)

-- ---- the picture

-- the whole result: a layer on a destination of so many channels
abbrev pub composed_of : List ℕ → Layer → (dw dh channels : ℕ) → List ℕ → List ℕ
composed_of samples l dw dh channels dst = flat (composed_at samples l dw dh (rgba_at dst channels)) 0 (dw * dh)
