-- A layer on a destination within the slack: its plan is ready, and what is computed from it is what the layer's definition says. Assumes nothing.
use mathlib.Core.Path.{◌≡◌, refl, ◌∙◌}
use mathlib.Core.List.{List}
use Prim.Native.Nat.{ℕ, ◌+◌, ◌*◌, ◌≤◌}
use native.Mathlib.Nat.{mul-le-mul}
use native.Mathlib.Omega.{arith}
use Rattle.places.specs.Bounds.{slack, Measured}
use Rattle.places.proofs.Anchors.{corner_x, corner_y}
use Rattle.layers.specs.declared.Layer.{Layer}
use Rattle.layers.specs.GoodLayers.{Picture}
use Rattle.pictures.specs.Widen.{rgba_at}
use Rattle.pictures.specs.FlatWords.{flat}
use Rattle.pictures.proofs.FlatWords.{flat_same}
use Rattle.pictures.specs.declared.Words.{Words}
use Rattle.compose.specs.Compose.{source_of, writes, result_of, composed_at, composed_of}
use Rattle.compose.specs.Plans.{plan_of, result_by, composed_by, pixel_on}
use Rattle.compose.specs.declared.Plan.{Plan}
use Rattle.compose.specs.Ready.{Ready, Planned, Span}

-- a product of two sides
pub plane : (w h : ℕ) → w ≤ slack → h ≤ slack → w * h ≤ slack * slack
plane w h a b = mul-le-mul a b

module _ (l : Layer) (dw dh : ℕ) where
  composes : (samples : List ℕ) (beneath : ℕ → Words) (j : ℕ)
      → pixel_on (plan_of l dw dh) (source_of samples l.source) beneath j ≡ composed_at samples l dw dh beneath j
  unfolding plan_of writes result_by result_of composed_by composed_at
  composes samples beneath j = refl

module _ (l : Layer) (dw dh : ℕ) (m : Measured dw dh l.source.width l.source.height l.right l.down) where
  ready : 1 ≤ l.source.channels → l.source.channels ≤ 4 → Ready (plan_of l dw dh) (l.source.width * l.source.height * l.source.channels)
  unfolding plan_of
  ready least most = record {
    width = m.width;
    height = m.height;
    corner_x = corner_x l.gravity dw dh l.source.width l.source.height l.right l.down m;
    corner_y = corner_y l.gravity dw dh l.source.width l.source.height l.right l.down m;
    some = least;
    most = most;
    whole = refl;
  }

  pub planned : (p : Plan) → 1 ≤ l.source.channels → l.source.channels ≤ 4 → p ≡ plan_of l dw dh → Planned l dw dh p
  planned p least most e = record { made = e; ready = rw e (ready least most); composes = rw e (composes l dw dh) }

-- the whole of a picture is a span, and what it then holds is the layer's
module _ {l : Layer} {dw dh : ℕ} {p : Plan} (e : Planned l dw dh p) where
  pub whole_span : {words channels : ℕ} → Picture dw dh channels words → Span p words channels 0 (dw * dh)
  unfolding plan_of
  whole_span b = rw e.made record { picture = b; inside = omega arith }

  pub picture : (samples dst : List ℕ) (channels : ℕ) {source out : List ℕ} → source ≡ source_of samples l.source
      → out ≡ flat (pixel_on p source (rgba_at dst channels)) 0 (dw * dh)
      → out ≡ composed_of samples l dw dh channels dst
  picture samples dst channels es g = g ∙ rw es (flat_same _ _ 0 0 (dw * dh) (λ j h. e.composes samples (rgba_at dst channels) (0 + j)))
