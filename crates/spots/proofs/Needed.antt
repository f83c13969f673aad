-- What a pixel of a layer needs of the picture beneath: the needs by the plan are those of the layer, and each of them says what the layer does. Assumes
-- nothing.
use Rattle.std.proofs.Common.{◌≡◌, ℕ, ◌/◌, ◌%◌, Bool, true, false, cond, List, refl, ◌∙◌}
use Rattle.float_steps.specs.declared.axis.Axis.{Axis}
use Rattle.layers.specs.declared.Layer.{Layer}
use Rattle.pictures.specs.declared.Rgba.{Rgba}
use Rattle.compose.specs.Compose.{source_of, index_on, writes, source_pixel, reads_through, map_column, map_row}
use Rattle.compose.specs.Plans.{plan_of}
use Rattle.compose.specs.declared.Plan.{Plan}
use Rattle.spots.specs.Spots.{all_on, stops}
use Rattle.spots.specs.Steps.{written_needs, needs_by}
use Rattle.spots.specs.declared.Needs.{Needs}
use Rattle.spots.specs.declared.Needs.TheVariants.{Kept, Nothing, Own, Around}

-- by three tests: the layer writes the pixel, it takes all from its source, it is a map
abbrev picked : (write stop map : Bool) → (x y : Axis) → (all : Bool) → Needs
picked write stop map x y all = cond write (cond stop Nothing (cond map (Around x y all) Own)) Kept

picked_kept : (w s m : Bool) (x y : Axis) (a : Bool) → picked w s m x y a ≡ Kept → w ≡ false
picked_kept false s m x y a e = refl
picked_kept true true m x y a e = absurd (cc)
picked_kept true false true x y a e = absurd (cc)
picked_kept true false false x y a e = absurd (cc)

picked_nothing : (w s m : Bool) (x y : Axis) (a : Bool) → picked w s m x y a ≡ Nothing → (w ≡ true) × (s ≡ true)
picked_nothing false s m x y a e = absurd (cc)
picked_nothing true true m x y a e = (refl, refl)
picked_nothing true false true x y a e = absurd (cc)
picked_nothing true false false x y a e = absurd (cc)

picked_own : (w s m : Bool) (x y : Axis) (a : Bool) → picked w s m x y a ≡ Own → (w ≡ true) × (s ≡ false) × (m ≡ false)
picked_own false s m x y a e = absurd (cc)
picked_own true true m x y a e = absurd (cc)
picked_own true false true x y a e = absurd (cc)
picked_own true false false x y a e = (refl, refl, refl)

-- the tests of a map, whose column and row are x and y
pub record Mapped (w s m : Bool) (x y : Axis) (a : Bool) (x' y' : Axis) (a' : Bool) : Type 0 where
  pub written : w ≡ true
  pub goes_on : s ≡ false
  pub map : m ≡ true
  pub column : x' ≡ x
  pub row : y' ≡ y
  pub all : a' ≡ a

picked_around : (w s m : Bool) (x y : Axis) (a : Bool) (x' y' : Axis) (a' : Bool) → picked w s m x y a ≡ Around x' y' a' → Mapped w s m x y a x' y' a'
picked_around false s m x y a x' y' a' e = absurd (cc)
picked_around true true m x y a x' y' a' e = absurd (cc)
picked_around true false true x y a x' y' a' e = record { written = refl; goes_on = refl; map = refl; column = cc; row = cc; all = cc }
picked_around true false false x y a x' y' a' e = absurd (cc)

-- ---- of a layer

-- the source's pixel on pixel j
abbrev pub pixel_in : List ℕ → Layer → (dw dh j : ℕ) → Rgba
pixel_in samples l dw dh j = source_pixel (source_of samples l.source) l.source.channels (index_on l dw dh j)

-- the layer is a map at pixel j, and reads in column x and row y
abbrev pub MappedAt : List ℕ → Layer → (dw dh j : ℕ) → (x y : Axis) → (all : Bool) → Type 0
MappedAt samples l dw dh j x y all =
    let s = pixel_in samples l dw dh j in
    Mapped (writes l dw dh j) (stops l) (reads_through l.op) (map_column l dw s j) (map_row l dw dh s j) (all_on l.mask) x y all

abbrev needs_on : List ℕ → Layer → (dw dh j : ℕ) → Needs
needs_on samples l dw dh j =
    let s = pixel_in samples l dw dh j in
    picked (writes l dw dh j) (stops l) (reads_through l.op) (map_column l dw s j) (map_row l dw dh s j) (all_on l.mask)

needs_are : (samples : List ℕ) (l : Layer) (dw dh j : ℕ) → needs_by (plan_of l dw dh) (source_of samples l.source) (j % dw) (j / dw) ≡ needs_on samples l dw dh j
unfolding needs_by written_needs plan_of writes stops
needs_are samples l dw dh j = refl

-- by a plan that is the layer's, and a source that is its own
module _ (samples : List ℕ) (l : Layer) (dw dh j : ℕ) {p : Plan} (made : p ≡ plan_of l dw dh) {source : List ℕ} (own : source ≡ source_of samples l.source) {needs : Needs} (asked : needs ≡ needs_by p source (j % p.dw) (j / p.dw)) where
  by_layer : needs ≡ needs_on samples l dw dh j
  unfolding plan_of
  by_layer = rw (made, own) at asked ∙ needs_are samples l dw dh j

  pub is_kept : needs ≡ Kept → writes l dw dh j ≡ false
  is_kept e = let f : needs_on samples l dw dh j ≡ Kept = cc (by_layer, e) in picked_kept _ _ _ _ _ _ f

  pub is_nothing : needs ≡ Nothing → (writes l dw dh j ≡ true) × (stops l ≡ true)
  is_nothing e = let f : needs_on samples l dw dh j ≡ Nothing = cc (by_layer, e) in picked_nothing _ _ _ _ _ _ f

  pub is_own : needs ≡ Own → (writes l dw dh j ≡ true) × (stops l ≡ false) × (reads_through l.op ≡ false)
  is_own e = let f : needs_on samples l dw dh j ≡ Own = cc (by_layer, e) in picked_own _ _ _ _ _ _ f

  pub is_around : (x y : Axis) (all : Bool) → needs ≡ Around x y all → MappedAt samples l dw dh j x y all
  is_around x y all e = let f : needs_on samples l dw dh j ≡ Around x y all = cc (by_layer, e) in picked_around _ _ _ _ _ _ x y all f
