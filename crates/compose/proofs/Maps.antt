-- A map's result, which Compose has in three parts (where, four neighbours, their mixture), is `bilinear_into` (deep.rs 244 to 274) at the place that the
-- Rust's `Displace` (composite.rs 1156 to 1162) or `Distort` (composite.rs 1163 to 1169) works out, from its arguments X, 20 unless given, and Y, X unless
-- given. Both sides are made of the same `axis_of`, `neighbours_of` and `mix_of`, which are read beside the Rust. And only a map reads more of the picture
-- beneath than its own pixel. No function's proof cites this. Assumes nothing.
use mathlib.Core.Path.{◌≡◌}
use mathlib.Core.Bool.{false}
use mathlib.Core.List.{List}
use Prim.Native.Nat.{ℕ, ◌/◌, ◌%◌}
use Rattle.operators.specs.declared.CompositeOp.TheVariants as O
use Rattle.layers.specs.declared.Layer.{Layer}
use Rattle.pictures.specs.Bilinear.{bilinear_of}
use Rattle.pictures.specs.declared.Rgba.{Rgba}
use Rattle.pictures.specs.declared.Words.{Words}
use Rattle.float_steps.specs.Notation.{◌⊕◌, ◌⊖◌, ◌⊗◌, half}
use Rattle.float_steps.specs.Literals.{f20}
use Rattle.compose.specs.Arguments.{params_of, arg_or}
use Rattle.compose.specs.Compose.{reads_through, float_of, map_coordinate, result_of, composed_at}

module _ (l : Layer) (dw dh : ℕ) (beneath : ℕ → Rgba) (s d : Rgba) (j : ℕ) where
  pub displace_is : l.op ≡ O.Displace
      → let x = arg_or l.args 0 f20 in let y = arg_or l.args 1 x in
      result_of l dw dh beneath s d j ≡ bilinear_of beneath dw dh (float_of (j % dw) ⊕ (s.r ⊖ half) ⊗ x) (float_of (j / dw) ⊕ (s.g ⊖ half) ⊗ y)
  unfolding result_of map_coordinate bilinear_of params_of
  displace_is e = rw e

  pub distort_is : l.op ≡ O.Distort
      → let x = arg_or l.args 0 f20 in let y = arg_or l.args 1 x in
      result_of l dw dh beneath s d j ≡ bilinear_of beneath dw dh (s.r ⊗ x) (s.g ⊗ y)
  unfolding result_of map_coordinate bilinear_of params_of
  distort_is e = rw e

-- without a map: of two pictures with the same pixel j the result's pixel j is the same
pub own_alone : (samples : List ℕ) (l : Layer) (dw dh : ℕ) (f g : ℕ → Words) (j : ℕ) → reads_through l.op ≡ false → f j ≡ g j
    → composed_at samples l dw dh f j ≡ composed_at samples l dw dh g j
unfolding composed_at result_of
own_alone samples l dw dh f g j e h = rw (e, h)
