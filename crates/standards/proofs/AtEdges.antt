-- On numbers from 0 to 1: what W3C mixes needs no clamp; with one alpha 0 or 1 the four steps of the mixing make no difference; with one alpha 0 alpha is
-- W3C's. Assumes nothing.
use mathlib.Core.Path.{◌≡◌, refl, sym, ap, ◌∙◌, subst}
use mathlib.Core.Logic.{◌⊎◌, inl, inr}
use mathlib.Core.Bool.{Bool, true, false, ◌||◌}
use mathlib.Core.List.{[]}
use lib.Dec.{T, lit≤}
use lib.Ieee.{Float, binary32, eq}
use lib.Ieee.Fits.{add-fits}
use Rattle.float_steps.specs.Notation.{◌⊕◌, ◌⊖◌, ◌⊗◌, f0, f1}
use Rattle.float_steps.specs.Order.{unit_of}
use Rattle.ieee_laws.specs.Same.{plain, Same}
use Rattle.ieee_laws.proofs.Bound.{at_most_finite, mul_bound, add_bound}
use Rattle.ieee_laws.proofs.Clamp.{unit_same, unit_kept}
use Rattle.operators.specs.declared.Convention.{Convention}
use Rattle.operators.specs.declared.Convention.TheVariants.{Premult, Divided, OnPremult, PremultOnly}
use Rattle.operators.specs.Operators.{convention}
use Rattle.pictures.specs.declared.Rgba.{Rgba}
use Rattle.pixels.specs.declared.Params.{Params}
use Rattle.pixels.specs.Pixel.{pixel_of}
use Rattle.standards.specs.Compositing.{Mode, B, co, αo}
use Rattle.standards.specs.Operators.{Colour, at, blend_op}
use Rattle.standards.specs.BlendSteps.{regrouped, mixed_by}
use Rattle.standards.proofs.Conventions.{spread_is, union, printed, spread, co_by, over_union, stored_by, StoredOutside}
use Rattle.standards.specs.Range.{InUnit, InUnits, opaque, absent}
use Rattle.standards.proofs.Constants.{is_zero, is_one}
use Rattle.standards.proofs.InRange.{at_most_one, finite_of_lem, same_in, zero_in, one_in, complement_in, unit_at, held_of}
use Rattle.standards.proofs.BlendRange.{blend_in_lem}
use Rattle.standards.proofs.BlendEdges.{source_whole, source_one, backdrop_one, source_zero, backdrop_zero, union_source_zero, union_backdrop_zero}
use Rattle.standards.proofs.MixtureRange.{mixed_in}
use Rattle.standards.proofs.Stored.{stored_is, union_alpha_lem, over_union_same}

pub or_split : (a b : Bool) → T (a || b) → T a ⊎ T b
or_split true b t = inl tt
or_split false b t = inr t

-- what W3C mixes needs no clamp: it is what an opaque source's mixture comes to
sum_in : {v s da : Float} → InUnit v → InUnit s → InUnit da → InUnit ((f1 ⊖ da) ⊗ s ⊕ da ⊗ v)
sum_in {v} {s} {da} pv ps pda =
    same_in ((f1 ⊖ da) ⊗ s ⊕ da ⊗ v) (co_by spread v s f1 f0 da) (add-fits binary32 ((f1 ⊖ da) ⊗ s) (da ⊗ v))
    (sym (source_whole v s f0 da pda.held (finite_of_lem pda) (finite_of_lem zero_in))) (mixed_in pv ps one_in zero_in pda)

module _ (s sa d da : Float) (ps : InUnit s) (psa : InUnit sa) (pd : InUnit d) (pda : InUnit da) where
  unclamped : (v : Float) → InUnit v → co_by printed v s sa d da ≡ mixed_by [] v s sa d da
  unclamped v pv =
      let p = sum_in pv ps pda in
      ap (λ (z : Float). sa ⊗ z ⊕ (f1 ⊖ sa) ⊗ da ⊗ d) (sym (unit_kept ((f1 ⊖ da) ⊗ s ⊕ da ⊗ v) p.low p.high))

  pub co_unclamped : (m : Mode) → co_by printed (B m d s) s sa d da ≡ co m s sa d da
  co_unclamped m = unclamped (B m d s) (blend_in_lem m d s pd ps)

  -- ---- the mixing of a blended colour v
  full : (v : Float) → InUnit v → T (opaque sa da) → Same (co_by spread v s sa d da) (co_by printed v s sa d da)
  full v h o = elim (or_split (eq sa f1) (eq da f1) o) [
    | inl e ↦ subst (λ (x : Float). Same (co_by spread v s x d da) (co_by printed v s x d da)) (sym (is_one sa psa.held e)) (source_one v s d da pda.held (finite_of_lem pda) (finite_of_lem pd))
    | inr e ↦ subst (λ (x : Float). Same (co_by spread v s sa d x) (co_by printed v s sa d x)) (sym (is_one da pda.held e)) (backdrop_one v s d sa psa.held h.held (finite_of_lem psa) (finite_of_lem ps))
  ]

  none : (v : Float) → InUnit v → T (absent sa da) → Same (co_by spread v s sa d da) (co_by printed v s sa d da)
  none v u o = elim (or_split (eq sa f0) (eq da f0) o) [
    | inl e ↦
        source_zero v s d sa da (is_zero sa psa.held e) pda.held (finite_of_lem pda) (finite_of_lem (complement_in pda)) (finite_of_lem ps) (finite_of_lem u)
        (at_most_finite 2 ((f1 ⊖ da) ⊗ s ⊕ da ⊗ v)
        (add_bound binary32 1 1 (lit≤ tt) ((f1 ⊖ da) ⊗ s) (da ⊗ v) (mul_bound binary32 1 1 (lit≤ tt) (f1 ⊖ da) s (at_most_one (complement_in pda)) (at_most_one ps)) (mul_bound binary32 1 1 (lit≤ tt) da v (at_most_one pda) (at_most_one u))))
    | inr e ↦ backdrop_zero v s d sa da (is_zero da pda.held e) psa.held ps.held (finite_of_lem psa) (finite_of_lem (complement_in psa)) (finite_of_lem u) (finite_of_lem pd)
  ]

  pub mixed_at_edge : (v : Float) → InUnit v → T (opaque sa da || absent sa da) → Same (co_by spread v s sa d da) (co_by printed v s sa d da)
  mixed_at_edge v u o = elim (or_split (opaque sa da) (absent sa da) o) [ inl e ↦ full v u e | inr e ↦ none v u e ]

  -- W3C's mixing with its steps, and as printed
  pub mixing_at_edge : (v : Float) → InUnit v → T (opaque sa da || absent sa da) → Same (mixed_by regrouped v s sa d da) (mixed_by [] v s sa d da)
  mixing_at_edge v u o = ap plain (sym (spread_is s sa d da v)) ∙ mixed_at_edge v u o ∙ ap plain (unclamped v u)

  stored_regrouped : (m : Mode) → T (opaque sa da || absent sa da) → (k : Convention) → Same (stored_by spread k m s sa d da) (stored_by printed k m s sa d da)
  stored_regrouped m o Premult =
      let v = B m d s in
      let u = blend_in_lem m d s pd ps in
      unit_same (co_by spread (unit_of v) s sa d da) (co_by printed (unit_of v) s sa d da)
      (mixed_at_edge (unit_of v) (subst InUnit (sym (unit_kept v u.low u.high)) u) o)
  stored_regrouped m o Divided =
      let v = B m d s in
      let x = co_by spread v s sa d da in
      let y = co_by printed v s sa d da in
      let a = union sa da in
      unit_same (over_union x a) (over_union y a) (over_union_same s sa d da x y a (mixed_at_edge v (blend_in_lem m d s pd ps) o))
  stored_regrouped m o OnPremult = refl
  stored_regrouped m o PremultOnly = refl

  -- ---- alpha
  pub union_absent : T (absent sa da) → Same (union sa da) (αo sa da)
  union_absent o = elim (or_split (eq sa f0) (eq da f0) o) [
    | inl e ↦ union_source_zero sa da (is_zero sa psa.held e) pda.held (finite_of_lem pda)
    | inr e ↦ union_backdrop_zero sa da (is_zero da pda.held e) (finite_of_lem psa) (finite_of_lem (complement_in psa))
  ]

-- ---- the pixel
module _ (p : Params) (s d : Rgba) (ps : InUnits s) (pd : InUnits d) (c : Colour) where
  pub stored_at_edge : (m : Mode) → StoredOutside m (at c s) s.a (at c d) d.a → T (opaque s.a d.a || absent s.a d.a)
      → Same (at c (pixel_of (blend_op m) p s d)) (stored_by printed (convention (blend_op m)) m (at c s) s.a (at c d) d.a)
  stored_at_edge m x o =
      stored_is p s d m (held_of s ps) (held_of d pd) c x ∙ stored_regrouped (at c s) s.a (at c d) d.a (unit_at c s ps) ps.a (unit_at c d pd) pd.a m o (convention (blend_op m))

  pub alpha_at_edge : (m : Mode) → T (absent s.a d.a) → Same (pixel_of (blend_op m) p s d).a (αo s.a d.a)
  alpha_at_edge m o = ap plain (union_alpha_lem p s d m) ∙ union_absent (at c s) s.a (at c d) d.a (unit_at c s ps) ps.a (unit_at c d pd) pd.a o
