-- What is known of a layer whose row has no fault (document 01, checks 3 to 8; nothing is asked of its window), and of a picture that it may lie on: facts
-- that the crates above ask for.
-- Sides and offsets are bounded by the slack of the crate places, not by the job's own limits. Definitions only.
use Rattle.std.specs.Prelude.{◌≡◌, ℕ, ◌+◌, ◌*◌, ◌≤◌}
use Rattle.std.specs.Int.Signed.{mag}
use Rattle.operators.specs.declared.CompositeOp.{CompositeOp}
use Rattle.operators.specs.declared.CompositeOp.TheVariants.{Interpolate, Blur}
use Rattle.pictures.specs.Steps.{Channels}
use Rattle.places.specs.Bounds.{slack}
use Rattle.layers.specs.declared.Layer.{Layer}
use Rattle.layers.specs.Limits.{arg_words}

-- an operator that is carried, which 4, CURVE, does not refuse
pub record Carried (o : CompositeOp) : Type 0 where
  pub not_interpolate : o ≡ Interpolate → ⊥
  pub not_blur : o ≡ Blur → ⊥

-- for the number of the source samples
pub record GoodLayer (samples : ℕ) (l : Layer) : Type 0 where
  pub op : Carried l.op
  pub right : mag l.right ≤ slack
  pub down : mag l.down ≤ slack
  pub width : l.source.width ≤ slack
  pub height : l.source.height ≤ slack
  pub channels : Channels l.source.channels
  pub held : l.source.first + l.source.width * l.source.height * l.source.channels ≤ samples
  pub count : l.args.count ≤ arg_words

-- a picture of dw by dh pixels and so many channels, whose words are so many
pub record Picture (dw dh channels words : ℕ) : Type 0 where
  pub width : dw ≤ slack
  pub height : dh ≤ slack
  pub some : 1 ≤ channels
  pub most : channels ≤ 4
  pub whole : words ≡ dw * dh * channels
