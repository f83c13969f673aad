-- One spot without the tray (document 02, A.6): the colour of a pixel of picture k of a job, what of picture k - 1 it needs, and how often the destination
-- (document 02: tray) is read for it. Picture 0 is the widened destination; a pixel is counted row by row, from 0. Definitions only.
use Rattle.std.specs.Prelude.{Bool, cond, ◌&&◌, ◌||◌, List, [], ◌∷◌, ◌++◌, ℕ, zero, suc, ◌+◌, ◌*◌, ℤ}
use Rattle.float_steps.specs.declared.axis.Axis.{Axis}
use Rattle.operators.specs.Operators.{same_op}
use Rattle.operators.specs.declared.CompositeOp.TheVariants as O
use Rattle.layers.specs.declared.ChannelMask.{ChannelMask}
use Rattle.layers.specs.declared.Layer.{Layer}
use Rattle.layers.specs.Inputs.{Inputs}
use Rattle.layers.specs.Layers.{layer_at}
use Rattle.pictures.specs.Shapes.{nat_of}
use Rattle.pictures.specs.Widen.{rgba_at}
use Rattle.pictures.specs.declared.Words.{Words}
use Rattle.compose.specs.Compose.{source_of, index_on, writes, source_pixel, reads_through, map_column, map_row, composed_at}

-- layer k of a job
abbrev pub layer_in : Inputs → (k : ℕ) → Layer
layer_in i k = layer_at i.table i.args k

-- ---- the colour

-- pixel j of picture k: picture 0 is the widened destination, picture k + 1 what demand 2's definition gives for layer k on picture k
unfoldable pub colour_of : Inputs → (k : ℕ) → (j : ℕ) → Words
colour_of i zero = rgba_at i.dst (nat_of i.shape.channels)
colour_of i (suc k) = composed_at i.samples (layer_in i k) (nat_of i.shape.width) (nat_of i.shape.height) (colour_of i k)

-- ---- what a layer needs

abbrev pub all_on : ChannelMask → Bool
all_on m = m.red && m.green && m.blue && m.alpha

-- "a Src or Clear layer with all channels on"
unfoldable pub stops : Layer → Bool
stops l = (same_op l.op O.Src || same_op l.op O.Clear) && all_on l.mask

-- the four neighbours of a column and a row, "counted as four even where they coincide": p00, p10, p01, p11 of bilinear sampling
abbrev pub around : (dw : ℕ) → (x y : Axis) → List ℕ
around dw x y = (y.at * dw + x.at) ∷ (y.at * dw + x.next) ∷ (y.next * dw + x.at) ∷ (y.next * dw + x.next) ∷ []

-- of a map at pixel j: the four neighbours of the place where it reads, "and also the spot itself if a channel is off"
abbrev pub map_needs : List ℕ → Layer → (dw dh j : ℕ) → List ℕ
map_needs samples l dw dh j =
    let s = source_pixel (source_of samples l.source) l.source.channels (index_on l dw dh j) in
    around dw (map_column l dw s j) (map_row l dw dh s j) ++ cond (all_on l.mask) [] (j ∷ [])

-- the pixels of the picture beneath that pixel j of a layer needs, each as often as it is asked for
unfoldable pub needed_of : List ℕ → Layer → (dw dh j : ℕ) → List ℕ
needed_of samples l dw dh j =
    cond (writes l dw dh j)
    (cond (stops l) []
    (cond (reads_through l.op) (map_needs samples l dw dh j)
    (j ∷ [])))
    (j ∷ [])

-- ---- the reads

-- the sum of f over a list
abbrev pub sum_of : (ℕ → ℕ) → List ℕ → ℕ
sum_of f [] = 0
sum_of f (j ∷ js) = f j + sum_of f js

-- layer k's, of a job
abbrev pub needed_in : Inputs → (k j : ℕ) → List ℕ
needed_in i k j = needed_of i.samples (layer_in i k) (nat_of i.shape.width) (nat_of i.shape.height) j

-- how often a pixel of the destination is read for pixel j of picture k, repeats included
unfoldable pub reads_of : Inputs → (k j : ℕ) → ℕ
reads_of i zero j = 1
reads_of i (suc k) j = sum_of (reads_of i k) (needed_in i k j)

-- the map layers among the first k of a layer table
unfoldable pub maps_of : (table : List ℤ) → (args : List ℕ) → (k : ℕ) → ℕ
maps_of table args zero = 0
maps_of table args (suc k) = maps_of table args k + cond (reads_through (layer_at table args k).op) 1 0
