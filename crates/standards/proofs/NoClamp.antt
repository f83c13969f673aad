-- Multiply, Screen, Lighten, Difference and Exclusion on numbers from 0 to 1: the clamps have nothing to do. The stored colour of the first four is W3C's
-- formula with the four steps of its mixing alone, and where an alpha is 0 or 1 it is W3C's co as printed. Assumes nothing.
use mathlib.Core.Path.{◌≡◌, ap, ◌∙◌}
use mathlib.Core.Logic.{inl}
use mathlib.Core.Bool.{Bool, not, ◌&&◌, ◌||◌}
use lib.Dec.{T}
use lib.Ieee.{Float}
use Rattle.float_steps.specs.Notation.{◌⊗◌}
use Rattle.float_steps.specs.Order.{unit_of}
use Rattle.ieee_laws.specs.Same.{plain, Same}
use Rattle.ieee_laws.proofs.Clamp.{unit_kept}
use Rattle.pictures.specs.declared.Rgba.{Rgba}
use Rattle.pixels.specs.declared.Params.{Params}
use Rattle.pixels.specs.Pixel.{pixel_of}
use Rattle.standards.specs.Compositing.{Mode, multiply, screen, overlay, darken, lighten, color_dodge, color_burn, hard_light, soft_light, difference, exclusion, B, co}
use Rattle.standards.specs.Operators.{Colour, at, blend_op}
use Rattle.standards.specs.BlendSteps.{blend_grouped, divided, among, steps, regrouped, mixed_by}
use Rattle.standards.proofs.Conventions.{spread, co_by, spread_is}
use Rattle.standards.specs.Range.{InUnit, InUnits, opaque, absent}
use Rattle.standards.proofs.InRange.{unit_at, held_of, product_in, doubles_in}
use Rattle.standards.proofs.BlendRange.{blend_in_lem}
use Rattle.standards.proofs.Blends.{doubled_alike}
use Rattle.standards.proofs.MixtureRange.{mixed_in}
use Rattle.standards.proofs.AtEdges.{mixed_at_edge, co_unclamped}
use Rattle.standards.proofs.Stored.{stored_is}

-- the modes that store co as it is
abbrev pub mixes : Mode → Bool
mixes m = among blend_grouped (steps m) && not (among divided (steps m))

-- a clamp of what lies within 0 and 1
kept : (v : Float) → InUnit v → unit_of v ≡ v
kept v p = unit_kept v p.low p.high

module _ (p : Params) (s d : Rgba) (ps : InUnits s) (pd : InUnits d) (c : Colour) where
  twice_kept : (v : Float) → InUnit v → unit_of (co_by spread (unit_of v) (at c s) s.a (at c d) d.a) ≡ co_by spread v (at c s) s.a (at c d) d.a
  twice_kept v pv =
      ap (λ (z : Float). unit_of (co_by spread z (at c s) s.a (at c d) d.a)) (kept v pv)
      ∙ kept (co_by spread v (at c s) s.a (at c d) d.a) (mixed_in pv (unit_at c s ps) ps.a (unit_at c d pd) pd.a)

  spread_alone : (m : Mode) → T (mixes m) → Same (at c (pixel_of (blend_op m) p s d)) (co_by spread (B m (at c d) (at c s)) (at c s) s.a (at c d) d.a)
  spread_alone multiply w = stored_is p s d multiply (held_of s ps) (held_of d pd) c (inl tt) ∙ ap plain (twice_kept (B multiply (at c d) (at c s)) (blend_in_lem multiply (at c d) (at c s) (unit_at c d pd) (unit_at c s ps)))
  spread_alone screen w = stored_is p s d screen (held_of s ps) (held_of d pd) c (inl tt) ∙ ap plain (twice_kept (B screen (at c d) (at c s)) (blend_in_lem screen (at c d) (at c s) (unit_at c d pd) (unit_at c s ps)))
  spread_alone lighten w = stored_is p s d lighten (held_of s ps) (held_of d pd) c (inl tt) ∙ ap plain (twice_kept (B lighten (at c d) (at c s)) (blend_in_lem lighten (at c d) (at c s) (unit_at c d pd) (unit_at c s ps)))
  spread_alone difference w = stored_is p s d difference (held_of s ps) (held_of d pd) c (inl tt) ∙ ap plain (twice_kept (B difference (at c d) (at c s)) (blend_in_lem difference (at c d) (at c s) (unit_at c d pd) (unit_at c s ps)))
  spread_alone overlay w = absurd w
  spread_alone darken w = absurd w
  spread_alone color_dodge w = absurd w
  spread_alone color_burn w = absurd w
  spread_alone hard_light w = absurd w
  spread_alone soft_light w = absurd w
  spread_alone exclusion w = absurd w

  -- W3C's formula with the four steps of the mixing alone
  pub no_clamp : (m : Mode) → T (mixes m) → Same (at c (pixel_of (blend_op m) p s d)) (mixed_by regrouped (B m (at c d) (at c s)) (at c s) s.a (at c d) d.a)
  no_clamp m w = spread_alone m w ∙ ap plain (spread_is (at c s) s.a (at c d) d.a (B m (at c d) (at c s)))

  pub exact_at_edge : (m : Mode) → T (mixes m) → T (opaque s.a d.a || absent s.a d.a)
      → Same (at c (pixel_of (blend_op m) p s d)) (co m (at c s) s.a (at c d) d.a)
  exact_at_edge m w o =
      let b = unit_at c d pd in
      let f = unit_at c s ps in
      spread_alone m w
      ∙ mixed_at_edge (at c s) s.a (at c d) d.a f ps.a b pd.a (B m (at c d) (at c s)) (blend_in_lem m (at c d) (at c s) b f) o
      ∙ ap plain (co_unclamped (at c s) s.a (at c d) d.a f ps.a b pd.a m)

  pub exclusion_no_clamp : Same (at c (pixel_of (blend_op exclusion) p s d)) (B exclusion (at c d ⊗ d.a) (at c s ⊗ s.a))
  exclusion_no_clamp =
      let x = product_in (unit_at c s ps) ps.a in
      let y = product_in (unit_at c d pd) pd.a in
      let v = B exclusion (at c d ⊗ d.a) (at c s ⊗ s.a) in
      stored_is p s d exclusion (held_of s ps) (held_of d pd) c (inl (doubled_alike (at c s ⊗ s.a) (at c d ⊗ d.a) x.held y.held (doubles_in x) (doubles_in y))) ∙ ap plain (kept v (blend_in_lem exclusion (at c d ⊗ d.a) (at c s ⊗ s.a) y x))
