-- What a layer's plan is, and what composing with it asks: bounds that an accepted layer meets. They are slack, as those of places are.
use Rattle.std.specs.Prelude.{◌≡◌, true, List, ℕ, ◌+◌, ◌*◌, ◌<◌, ◌≤◌}
use Rattle.std.specs.Int.Signed.{mag}
use Rattle.places.specs.Bounds.{slack, reach}
use Rattle.layers.specs.declared.Layer.{Layer}
use Rattle.layers.specs.GoodLayers.{Picture}
use Rattle.pictures.specs.declared.Words.{Words}
use Rattle.compose.specs.Compose.{source_of, composed_at}
use Rattle.compose.specs.Plans.{plan_of, pixel_on}
use Rattle.compose.specs.declared.Plan.{Plan}

-- the plan's source, whose samples are so many, lies within reach of the destination
pub record Ready (p : Plan) (source : ℕ) : Type 0 where
  pub width : p.width ≤ slack
  pub height : p.height ≤ slack
  pub corner_x : mag p.corner.x ≤ reach
  pub corner_y : mag p.corner.y ≤ reach
  pub some : 1 ≤ p.channels
  pub most : p.channels ≤ 4
  pub whole : source ≡ p.width * p.height * p.channels

-- the layer's plan: what is computed from it and from the layer's source is what the layer's definition says
pub record Planned (l : Layer) (dw dh : ℕ) (p : Plan) : Type 0 where
  pub made : p ≡ plan_of l dw dh
  pub ready : Ready p (l.source.width * l.source.height * l.source.channels)
  pub composes : (samples : List ℕ) (beneath : ℕ → Words) (j : ℕ) → pixel_on p (source_of samples l.source) beneath j ≡ composed_at samples l dw dh beneath j

-- the pixel in column x and row y of the destination; only a map asks for the picture beneath, of so many words and channels
pub record Beneath (p : Plan) (words channels x y : ℕ) : Type 0 where
  pub width : p.dw ≤ slack
  pub height : p.dh ≤ slack
  pub picture : p.map ≡ true → Picture p.dw p.dh channels words
  pub column : x < p.dw
  pub row : y < p.dh

-- a run of count pixels of the destination, from pixel `from` on; only a map asks for the picture beneath
pub record Run (p : Plan) (words channels from count : ℕ) : Type 0 where
  pub width : p.dw ≤ slack
  pub height : p.dh ≤ slack
  pub picture : p.map ≡ true → Picture p.dw p.dh channels words
  pub inside : from + count ≤ p.dw * p.dh

-- a run of a picture that is lent whole, whatever the operator
pub record Span (p : Plan) (words channels from count : ℕ) : Type 0 where
  pub picture : Picture p.dw p.dh channels words
  pub inside : from + count ≤ p.dw * p.dh
