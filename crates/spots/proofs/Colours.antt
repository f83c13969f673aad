-- The colour of a pixel of the picture above and its reads, from what the layer needs of the picture beneath. Assumes nothing.
use Rattle.std.proofs.Common.{◌≡◌, ℕ, suc, ◌+◌, ◌≤◌, Bool, true, false, ◌&&◌, ◌||◌, ◌⊎◌, inl, inr, List, Float, refl, sym, ap, ◌∙◌, arith, true≢false, eqb-true}
use Rattle.float_steps.specs.declared.axis.Axis.{Axis}
use Rattle.operators.specs.Operators.{same_op, number_of}
use Rattle.operators.specs.declared.CompositeOp.{CompositeOp}
use Rattle.operators.specs.declared.CompositeOp.TheVariants as O
use Rattle.operators.proofs.Places.{one_number}
use Rattle.layers.specs.declared.ChannelMask.{ChannelMask}
use Rattle.layers.specs.declared.Layer.{Layer}
use Rattle.layers.specs.Inputs.{Inputs}
use Rattle.pictures.specs.Shapes.{nat_of}
use Rattle.pictures.specs.Widen.{values_of}
use Rattle.pictures.specs.Bilinear.{neighbours_of, mix_of}
use Rattle.pictures.specs.declared.Rgba.{Rgba}
use Rattle.pictures.specs.declared.Words.{Words}
use Rattle.compose.specs.Compose.{source_of, writes, reads_through, result_of, written_of, composed_at}
use Rattle.compose.specs.Ready.{Planned}
use Rattle.compose.specs.declared.Plan.{Plan}
use Rattle.compose.proofs.Maps.{own_alone}
use Rattle.spots.specs.Spots.{layer_in, colour_of, all_on, stops, around, needed_of, sum_of, reads_of}
use Rattle.spots.specs.Steps.{painted_by}
use Rattle.spots.proofs.Needed.{pixel_in, MappedAt}

-- ---- a layer that takes all from its source

both_hold : (a b : Bool) → (a && b) ≡ true → (a ≡ true) × (b ≡ true)
both_hold true b e = (refl, e)
both_hold false b e = absurd (true≢false (sym e))

-- with all channels on nothing is kept of a pixel's own words
written_whole : (m : ChannelMask) (v : Rgba) (own other : Words) → all_on m ≡ true → written_of m v own ≡ written_of m v other
unfolding written_of
written_whole m v own other e =
    let a = both_hold (m.red && m.green && m.blue) m.alpha e in
    let b = both_hold (m.red && m.green) m.blue a.0 in
    let c = both_hold m.red m.green b.0 in
    rw (c.0, c.1, b.1, a.1)

alone : (o : CompositeOp) → (same_op o O.Src || same_op o O.Clear) ≡ true → (o ≡ O.Src) ⊎ (o ≡ O.Clear)
alone o e = cases (same_op o O.Src) (same_op o O.Clear) refl refl e
  where
    cases : (a b : Bool) → same_op o O.Src ≡ a → same_op o O.Clear ≡ b → (a || b) ≡ true → (o ≡ O.Src) ⊎ (o ≡ O.Clear)
    cases true b p q h = inl (one_number o O.Src (eqb-true (number_of o) (number_of O.Src) p))
    cases false true p q h = inr (one_number o O.Clear (eqb-true (number_of o) (number_of O.Clear) q))
    cases false false p q h = absurd (true≢false (sym h))

-- it is no map, and its result is of the source alone
no_map_by : (l : Layer) → (l.op ≡ O.Src) ⊎ (l.op ≡ O.Clear) → reads_through l.op ≡ false
no_map_by l (inl e) = rw e
no_map_by l (inr e) = rw e

result_alone : (l : Layer) (dw dh : ℕ) (f g : ℕ → Rgba) (s c d : Rgba) (j : ℕ) → (l.op ≡ O.Src) ⊎ (l.op ≡ O.Clear) → result_of l dw dh f s c j ≡ result_of l dw dh g s d j
unfolding result_of
result_alone l dw dh f g s c d j (inl e) = rw e
result_alone l dw dh f g s c d j (inr e) = rw e

stop_parts : (l : Layer) → stops l ≡ true → ((l.op ≡ O.Src) ⊎ (l.op ≡ O.Clear)) × (all_on l.mask ≡ true)
unfolding stops
stop_parts l e = let p = both_hold (same_op l.op O.Src || same_op l.op O.Clear) (all_on l.mask) e in (alone l.op p.0, p.1)

pub no_map : (l : Layer) → stops l ≡ true → reads_through l.op ≡ false
no_map l e = no_map_by l (stop_parts l e).0

stopped : (samples : List ℕ) (l : Layer) (dw dh : ℕ) (f g : ℕ → Words) (j : ℕ) → writes l dw dh j ≡ true → stops l ≡ true → composed_at samples l dw dh f j ≡ composed_at samples l dw dh g j
unfolding composed_at
stopped samples l dw dh f g j w e =
    let p = stop_parts l e in
    let s = pixel_in samples l dw dh j in
    rw w
    (ap (λ (v : Rgba). written_of l.mask v (f j)) (result_alone l dw dh (λ i. values_of (f i)) (λ i. values_of (g i)) s (values_of (f j)) (values_of (g j)) j p.0)
    ∙ written_whole l.mask (result_of l dw dh (λ i. values_of (g i)) s (values_of (g j)) j) (f j) (g j) p.1)

-- ---- a map

mixed_at : (samples : List ℕ) (l : Layer) (dw dh j : ℕ) (f : ℕ → Words) {x y : Axis} {all : Bool} {neighbours : List (List Float)} → MappedAt samples l dw dh j x y all
    → neighbours ≡ neighbours_of (λ i. values_of (f i)) dw x y
    → written_of l.mask (mix_of neighbours x.along y.along) (f j) ≡ composed_at samples l dw dh f j
unfolding composed_at result_of
mixed_at samples l dw dh j f m e = rw (e, m.written, m.map, m.column, m.row)

-- ---- the picture above

module _ (i : Inputs) (k n j : ℕ) (up : k ≡ suc n) where
  abbrev l : Layer
  l = layer_in i n

  abbrev dw : ℕ
  dw = nat_of i.shape.width

  abbrev dh : ℕ
  dh = nat_of i.shape.height

  above : colour_of i k j ≡ composed_at i.samples l dw dh (colour_of i n) j
  unfolding colour_of
  above = rw up

  needed_above : reads_of i k j ≡ sum_of (reads_of i n) (needed_of i.samples l dw dh j)
  unfolding reads_of
  needed_above = rw up

  -- what the layer's plan makes of the pixel's own words
  pub painted_colour : {p : Plan} {source : List ℕ} (own : Words) → Planned l dw dh p → source ≡ source_of i.samples l.source → painted_by p source own j ≡ composed_at i.samples l dw dh (λ _. own) j
  painted_colour own h s = rw s (h.composes i.samples (λ _. own) j)

  -- the pixel is kept
  pub kept_colour : {own : Words} → own ≡ colour_of i n j → writes l dw dh j ≡ false → own ≡ colour_of i k j
  unfolding composed_at
  kept_colour e w = e ∙ sym (above ∙ rw w)

  pub kept_reads : writes l dw dh j ≡ false → reads_of i k j ≡ reads_of i n j
  unfolding needed_of
  kept_reads w = needed_above ∙ rw w (omega arith)

  -- nothing is needed
  pub nothing_colour : (own : Words) → (writes l dw dh j ≡ true) × (stops l ≡ true) → composed_at i.samples l dw dh (λ _. own) j ≡ colour_of i k j
  nothing_colour own h = stopped i.samples l dw dh (λ _. own) (colour_of i n) j h.0 h.1 ∙ sym above

  pub nothing_reads : (writes l dw dh j ≡ true) × (stops l ≡ true) → reads_of i k j ≡ 0
  unfolding needed_of
  nothing_reads h = needed_above ∙ rw (h.0, h.1)

  -- its own pixel is needed
  pub own_colour : {own : Words} → own ≡ colour_of i n j → (writes l dw dh j ≡ true) × (stops l ≡ false) × (reads_through l.op ≡ false) → composed_at i.samples l dw dh (λ _. own) j ≡ colour_of i k j
  own_colour {own} e h = own_alone i.samples l dw dh (λ _. own) (colour_of i n) j h.2 e ∙ sym above

  pub own_reads : (writes l dw dh j ≡ true) × (stops l ≡ false) × (reads_through l.op ≡ false) → reads_of i k j ≡ reads_of i n j
  unfolding needed_of
  own_reads h = needed_above ∙ rw (h.0, h.1, h.2) (omega arith)

  -- four neighbours are needed, and nothing else where all channels are on
  module _ {x y : Axis} {all : Bool} (m : MappedAt i.samples l dw dh j x y all) where
    pub mixed_colour : {neighbours : List (List Float)} {own : Words} → neighbours ≡ neighbours_of (λ a. values_of (colour_of i n a)) dw x y → own ≡ colour_of i n j
        → written_of l.mask (mix_of neighbours x.along y.along) own ≡ colour_of i k j
    mixed_colour {neighbours} e o = ap (λ (w : Words). written_of l.mask (mix_of neighbours x.along y.along) w) o ∙ mixed_at i.samples l dw dh j (colour_of i n) m e ∙ sym above

    pub whole_colour : {neighbours : List (List Float)} (own : Words) → neighbours ≡ neighbours_of (λ a. values_of (colour_of i n a)) dw x y → all ≡ true
        → written_of l.mask (mix_of neighbours x.along y.along) own ≡ colour_of i k j
    whole_colour {neighbours} own e a =
        written_whole l.mask (mix_of neighbours x.along y.along) own (colour_of i n j) (sym m.all ∙ a)
        ∙ mixed_at i.samples l dw dh j (colour_of i n) m e
        ∙ sym above

    pub whole_reads : all ≡ true → reads_of i k j ≡ sum_of (reads_of i n) (around dw x y)
    unfolding needed_of
    whole_reads a = let on : all_on l.mask ≡ true = sym m.all ∙ a in needed_above ∙ rw (m.written, m.goes_on, m.map, on, m.column, m.row)

    pub mixed_reads : all ≡ false → reads_of i k j ≡ sum_of (reads_of i n) (around dw x y) + reads_of i n j
    unfolding needed_of
    mixed_reads a =
        let off : all_on l.mask ≡ false = sym m.all ∙ a in
        needed_above ∙ rw (m.written, m.goes_on, m.map, off, m.column, m.row) (omega arith)

    pub around_reads : sum_of (reads_of i n) (around dw x y) ≤ reads_of i k j
    around_reads = cases all refl
      where
        cases : (a : Bool) → all ≡ a → sum_of (reads_of i n) (around dw x y) ≤ reads_of i k j
        cases true e = omega (arith, whole_reads e)
        cases false e = omega (arith, mixed_reads e)
