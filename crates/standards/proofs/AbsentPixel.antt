-- A pixel of numbers from 0 to 1 with an alpha of 0 is W3C's as printed, in every mode: co itself in the six modes that do not divide, and co over W3C's
-- alpha in the five that do, where the other alpha is not 0. Assumes nothing.
use mathlib.Core.Path.{◌≡◌, refl, sym, ap, ◌∙◌, subst}
use mathlib.Core.Logic.{inl, inr}
use mathlib.Core.Bool.{Bool, true, false, not, ◌&&◌}
use lib.Dec.{T}
use lib.Ieee.{Float, binary32, eq}
use Rattle.float_steps.specs.Notation.{◌⊗◌, ◌⊘◌, f0, f1}
use Rattle.ieee_laws.specs.Same.{plain, Same, Zero}
use Rattle.ieee_laws.proofs.Zero.{times_zero, zero_times}
use Rattle.ieee_laws.proofs.Order.{eq_zeros}
use Rattle.operators.specs.declared.Convention.TheVariants.{Divided}
use Rattle.operators.specs.Operators.{convention}
use Rattle.pictures.specs.declared.Rgba.{Rgba}
use Rattle.pixels.specs.declared.Params.{Params}
use Rattle.pixels.specs.Pixel.{pixel_of}
use Rattle.standards.specs.Compositing.{Mode, multiply, screen, overlay, darken, lighten, color_dodge, color_burn, hard_light, soft_light, difference, exclusion, B, co, αo}
use Rattle.standards.specs.Operators.{Colour, at, blend_op}
use Rattle.standards.specs.BlendSteps.{black_first, divided, among, steps}
use Rattle.standards.specs.BlendDifferences.{burns}
use Rattle.standards.specs.Range.{InUnits, opaque, absent, OneAbsent}
use Rattle.standards.proofs.Conventions.{printed, co_by, stored_by}
use Rattle.standards.proofs.Constants.{zero_is, is_zero}
use Rattle.standards.proofs.InRange.{finite_of_lem, unit_at, held_of}
use Rattle.standards.proofs.BlendRange.{blend_in_lem}
use Rattle.standards.proofs.Domain.{stored_outside}
use Rattle.standards.proofs.AtEdges.{or_split, co_unclamped, stored_at_edge}
use Rattle.standards.proofs.NoClamp.{exact_at_edge}
use Rattle.standards.proofs.Absent.{or_left, or_right, darken_absent, exclusion_absent, divided_absent}
use Rattle.standards.proofs.Stored.{stored_is}

module _ (p : Params) (s d : Rgba) (ps : InUnits s) (pd : InUnits d) (c : Colour) where
  abbrev S : Float
  S = at c s

  abbrev D : Float
  D = at c d

  -- W3C's co of a mode, its sum clamped or not
  unclamped : (m : Mode) → co_by printed (B m (at c d) (at c s)) (at c s) s.a (at c d) d.a ≡ co m (at c s) s.a (at c d) d.a
  unclamped m = co_unclamped S s.a D d.a (unit_at c s ps) ps.a (unit_at c d pd) pd.a m

  pub absent_exact : (m : Mode) → T (not (among divided (steps m))) → T (absent s.a d.a)
      → Same (at c (pixel_of (blend_op m) p s d)) (co m (at c s) s.a (at c d) d.a)
  absent_exact multiply w o = exact_at_edge p s d ps pd c multiply tt (or_right (opaque s.a d.a) (absent s.a d.a) o)
  absent_exact screen w o = exact_at_edge p s d ps pd c screen tt (or_right (opaque s.a d.a) (absent s.a d.a) o)
  absent_exact overlay w o = absurd w
  absent_exact darken w o =
      stored_is p s d darken (held_of s ps) (held_of d pd) c (inl tt)
      ∙ darken_absent S s.a D d.a (unit_at c s ps) ps.a (unit_at c d pd) pd.a o
      ∙ ap plain (unclamped darken)
  absent_exact lighten w o = exact_at_edge p s d ps pd c lighten tt (or_right (opaque s.a d.a) (absent s.a d.a) o)
  absent_exact color_dodge w o = absurd w
  absent_exact color_burn w o = absurd w
  absent_exact hard_light w o = absurd w
  absent_exact soft_light w o = absurd w
  absent_exact difference w o = exact_at_edge p s d ps pd c difference tt (or_right (opaque s.a d.a) (absent s.a d.a) o)
  absent_exact exclusion w o =
      stored_is p s d exclusion (held_of s ps) (held_of d pd) c (stored_outside (unit_at c s ps) ps.a (unit_at c d pd) pd.a exclusion refl)
      ∙ exclusion_absent S s.a D d.a (unit_at c s ps) ps.a (unit_at c d pd) pd.a o
      ∙ ap plain (unclamped exclusion)

  -- ---- the modes that divide
  one_is_absent : OneAbsent s.a d.a → T (absent s.a d.a)
  one_is_absent (inl (e, h)) = or_left (eq s.a f0) (eq d.a f0) (subst T (sym e) tt)
  one_is_absent (inr (e, h)) = or_right (eq s.a f0) (eq d.a f0) (subst T (sym e) tt)

  -- black on white does not show: the pictures do not overlap
  no_overlap : T (absent s.a d.a) → Zero (s.a ⊗ d.a)
  no_overlap o = elim (or_split (eq s.a f0) (eq d.a f0) o) [
    | inl e ↦ zero_times binary32 s.a d.a (finite_of_lem pd.a) (is_zero s.a ps.a.held e)
    | inr e ↦ times_zero binary32 s.a d.a (finite_of_lem ps.a) (is_zero d.a pd.a.held e)
  ]

  not_burnt : T (absent s.a d.a) → (m : Mode) → burns m (at c s) s.a (at c d) d.a ≡ false
  not_burnt o m =
      let k = among black_first (steps m) in
      ap (λ (b : Bool). k && (eq S f0 && (eq D f1 && not b))) (eq_zeros (s.a ⊗ d.a) f0 (no_overlap o) zero_is) ∙ none k (eq S f0) (eq D f1)
    where
      none : (u v w : Bool) → u && (v && (w && false)) ≡ false
      none true true true = refl
      none true true false = refl
      none true false w = refl
      none false v w = refl

  -- what a mode that divides stores there, mixed as printed
  at_edge : T (absent s.a d.a) → (m : Mode) → Same (at c (pixel_of (blend_op m) p s d)) (stored_by printed (convention (blend_op m)) m (at c s) s.a (at c d) d.a)
  at_edge o m =
      stored_at_edge p s d ps pd c m (stored_outside (unit_at c s ps) ps.a (unit_at c d pd) pd.a m (not_burnt o m))
      (or_right (opaque s.a d.a) (absent s.a d.a) o)

  quotient : (m : Mode) → OneAbsent s.a d.a
      → Same (stored_by printed Divided m (at c s) s.a (at c d) d.a) (co m (at c s) s.a (at c d) d.a ⊘ αo s.a d.a)
  quotient m o =
      divided_absent S s.a D d.a (unit_at c s ps) ps.a (unit_at c d pd) pd.a (B m D S) (blend_in_lem m D S (unit_at c d pd) (unit_at c s ps)) o
      ∙ ap (λ (z : Float). plain (z ⊘ αo s.a d.a)) (unclamped m)

  pub absent_divided : (m : Mode) → T (among divided (steps m)) → OneAbsent s.a d.a
      → Same (at c (pixel_of (blend_op m) p s d)) (co m (at c s) s.a (at c d) d.a ⊘ αo s.a d.a)
  absent_divided multiply w o = absurd w
  absent_divided screen w o = absurd w
  absent_divided overlay w o = at_edge (one_is_absent o) overlay ∙ quotient overlay o
  absent_divided darken w o = absurd w
  absent_divided lighten w o = absurd w
  absent_divided color_dodge w o = at_edge (one_is_absent o) color_dodge ∙ quotient color_dodge o
  absent_divided color_burn w o = at_edge (one_is_absent o) color_burn ∙ quotient color_burn o
  absent_divided hard_light w o = at_edge (one_is_absent o) hard_light ∙ quotient hard_light o
  absent_divided soft_light w o = at_edge (one_is_absent o) soft_light ∙ quotient soft_light o
  absent_divided difference w o = absurd w
  absent_divided exclusion w o = absurd w
