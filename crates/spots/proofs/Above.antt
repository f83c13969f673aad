-- Pixel j of picture k, the work of the layer beneath it: what may be asked of the picture beneath, and that the answers make the pixel's colour and its
-- reads. Assumes nothing.
use Rattle.std.proofs.Common.{◌≡◌, ℕ, suc, ◌+◌, ◌-◌, ◌/◌, ◌%◌, Bool, true, false, List, Float, length, ◌∙◌, arith}
use Rattle.float_steps.specs.declared.axis.Axis.{Axis}
use Rattle.layers.specs.declared.Layer.{Layer}
use Rattle.layers.specs.Inputs.{Inputs}
use Rattle.pictures.specs.Shapes.{nat_of}
use Rattle.pictures.specs.Widen.{values_of}
use Rattle.pictures.specs.Bilinear.{neighbours_of, mix_of}
use Rattle.pictures.specs.declared.Words.{Words}
use Rattle.compose.specs.Compose.{written_of}
use Rattle.compose.specs.Ready.{Ready}
use Rattle.compose.specs.declared.Plan.{Plan}
use Rattle.spots.specs.Spots.{layer_in, around, colour_of, reads_of, sum_of}
use Rattle.spots.specs.Steps.{needs_by, painted_by, On, Laid, Asked, AskedAt, AskedAround}
use Rattle.spots.specs.declared.Needs.{Needs}
use Rattle.spots.specs.declared.Needs.TheVariants.{Kept, Nothing, Own, Around}
use Rattle.spots.proofs.Asked.{beneath, on_plan, asked_around, no_map_by, masked}
use Rattle.spots.proofs.Colours.{no_map, kept_colour, kept_reads, nothing_colour, nothing_reads, own_colour, own_reads, mixed_colour, mixed_reads, whole_colour, whole_reads, painted_colour, around_reads}
use Rattle.spots.proofs.Needed.{MappedAt, is_kept, is_nothing, is_own, is_around}

-- the pixel's colour is c, and the count has gone from `before` to `after`
abbrev Worked : Inputs → (k j : ℕ) → (before : ℕ) → (c : Words) → (after : ℕ) → Type 0
Worked i k j before c after = (c ≡ colour_of i k j) × (after ≡ before + reads_of i k j)

module _ (i : Inputs) {k j before : ℕ} (r : AskedAt i k j before) (some : k ≡ 0 → ⊥) where
  up : k ≡ suc (k - 1)
  up = omega arith

  -- its layer can be laid out
  pub layered : Asked i (k - 1 + 1)
  layered = let h = r.asked.picture in record { fit = r.asked.fit; picture = omega arith }

  module _ {p : Plan} {source : List ℕ} (laid : Laid i (k - 1) p source) where
    -- what it needs can be asked
    pub on : Ready p (length source) × On p j
    on = (laid.ready, on_plan i (layer_in i (k - 1)) p j r.asked.fit laid.planned.made r.inside)

    module _ {needs : Needs} (asks : needs ≡ needs_by p source (j % p.dw) (j / p.dw)) where
      abbrev l : Layer
      l = layer_in i (k - 1)

      abbrev dw : ℕ
      dw = nat_of i.shape.width

      abbrev dh : ℕ
      dh = nat_of i.shape.height

      below : Asked i (k - 1)
      below = beneath i k (k - 1) j up r.asked

      -- ---- the pixel is kept

      pub kept_asked : needs ≡ Kept → AskedAt i (k - 1) j before
      kept_asked e =
          let w = is_kept i.samples l dw dh j laid.planned.made laid.own asks e in
          record { asked = below; inside = r.inside; room = omega (arith, kept_reads i k (k - 1) j up w) }

      pub kept : needs ≡ Kept → {c : Words} {after : ℕ} → Worked i (k - 1) j before c after → Worked i k j before c after
      kept e h =
          let w = is_kept i.samples l dw dh j laid.planned.made laid.own asks e in
          (kept_colour i k (k - 1) j up h.0 w, omega (arith, h.1, kept_reads i k (k - 1) j up w))

      -- ---- nothing is needed

      pub nothing_on : needs ≡ Nothing → Ready p (length source) × On p j × (p.map ≡ false)
      nothing_on e =
          let w = is_nothing i.samples l dw dh j laid.planned.made laid.own asks e in
          (on.0, on.1, no_map_by l dw dh laid.planned.made (no_map l w.1))

      pub nothing : needs ≡ Nothing → (own : Words) {c : Words} → c ≡ painted_by p source own j → Worked i k j before c before
      nothing e own h =
          let w = is_nothing i.samples l dw dh j laid.planned.made laid.own asks e in (
            h ∙ painted_colour i k (k - 1) j up own laid.planned laid.own ∙ nothing_colour i k (k - 1) j up own w,
            omega (arith, nothing_reads i k (k - 1) j up w),
          )

      -- ---- its own pixel is needed

      pub own_asked : needs ≡ Own → AskedAt i (k - 1) j before
      own_asked e =
          let w = is_own i.samples l dw dh j laid.planned.made laid.own asks e in
          record { asked = below; inside = r.inside; room = omega (arith, own_reads i k (k - 1) j up w) }

      pub own_on : needs ≡ Own → Ready p (length source) × On p j × (p.map ≡ false)
      own_on e =
          let w = is_own i.samples l dw dh j laid.planned.made laid.own asks e in
          (on.0, on.1, no_map_by l dw dh laid.planned.made w.2)

      pub own : needs ≡ Own → {o c : Words} {after : ℕ} → Worked i (k - 1) j before o after → c ≡ painted_by p source o j → Worked i k j before c after
      own e {o} h d =
          let w = is_own i.samples l dw dh j laid.planned.made laid.own asks e in (
            d ∙ painted_colour i k (k - 1) j up o laid.planned laid.own ∙ own_colour i k (k - 1) j up h.0 w,
            omega (arith, h.1, own_reads i k (k - 1) j up w),
          )

      -- ---- four neighbours are needed, and nothing else where all channels are on

      module _ {x y : Axis} {all : Bool} (e : needs ≡ Around x y all) where
        mapped : MappedAt i.samples l dw dh j x y all
        mapped = is_around i.samples l dw dh j laid.planned.made laid.own asks x y all e

        pub around_asked : AskedAround i (k - 1) x y before
        around_asked =
            asked_around i k (k - 1) j up r.asked l x y all before r.inside mapped (omega (arith, around_reads i k (k - 1) j up mapped))

        module _ {four : List (List Float)} {between : ℕ} (h : (four ≡ neighbours_of (λ a. values_of (colour_of i (k - 1) a)) dw x y) × (between ≡ before + sum_of (reads_of i (k - 1)) (around dw x y))) where
          pub mixed_asked : all ≡ false → AskedAt i (k - 1) j between
          mixed_asked a = record { asked = below; inside = r.inside; room = omega (arith, h.1, mixed_reads i k (k - 1) j up mapped a) }

          pub whole : all ≡ true → (o : Words) {c : Words} → c ≡ written_of p.mask (mix_of four x.along y.along) o → Worked i k j before c between
          whole a o d = (
            d ∙ masked l dw dh (mix_of four x.along y.along) o laid.planned.made ∙ whole_colour i k (k - 1) j up mapped o h.0 a,
            omega (arith, h.1, whole_reads i k (k - 1) j up mapped a),
          )

          pub mixed : all ≡ false → {o c : Words} {after : ℕ} → Worked i (k - 1) j between o after → c ≡ written_of p.mask (mix_of four x.along y.along) o → Worked i k j before c after
          mixed a {o} g d = (
            d ∙ masked l dw dh (mix_of four x.along y.along) o laid.planned.made ∙ mixed_colour i k (k - 1) j up mapped h.0 g.0,
            omega (arith, h.1, g.1, mixed_reads i k (k - 1) j up mapped a),
          )
