-- A pixel of numbers from 0 to 1, where an alpha is 0 or 1, is Porter and Duff's as printed. Its colour is, in its form, with every operator but Over and
-- DstOver, which divide: a product that is regrouped has a factor of 0 or 1. Its alpha is with all thirteen, but for a zero's sign; Plus's is cut at 1.
-- Assumes nothing.
use mathlib.Core.Path.{◌≡◌, refl, sym, ap, ◌∙◌}
use mathlib.Core.Logic.{◌⊎◌, inl, inr, ⊎_swap, ⊎_map}
use mathlib.Core.Bool.{false, ◌||◌}
use lib.IntN.{pos}
use lib.Dec.{T}
use lib.Ieee.{Float, binary32, eq}
use Rattle.float_steps.specs.Notation.{◌⊖◌, ◌⊗◌, f0, f1}
use Rattle.ieee_laws.specs.Same.{plain, Same, Zero}
use Rattle.ieee_laws.proofs.Commute.{add_commutes}
use Rattle.ieee_laws.proofs.Zero.{of_plain, add_same}
use Rattle.pictures.specs.declared.Rgba.{Rgba}
use Rattle.pixels.specs.declared.Params.{Params}
use Rattle.pixels.specs.Pixel.{pixel_of}
use Rattle.standards.specs.PorterDuff.{Fraction, none, whole, inside, outside, fraction, FA, FB, colour, coverage}
use Rattle.standards.specs.PorterDuff.{Operator, clear, A, B, AoverB, BoverA, AinB, BinA, AoutB, BoutA, AatopB, BatopA, AxorB, AplusB}
use Rattle.standards.specs.FractionSteps.{cut_by, steps}
use Rattle.standards.specs.FractionDifferences.{form, IsColour, IsAlpha}
use Rattle.standards.specs.FractionDifferences.{Grouping, printed, coverage_first, part, group_a, group_b, colour_by, coverage_by}
use Rattle.standards.specs.Operators.{Colour, at, porter_duff_op}
use Rattle.standards.specs.Range.{InUnit, InUnits, opaque, absent}
use Rattle.standards.proofs.Constants.{one_is, zero_is, nought, less_zero, is_zero, is_one}
use Rattle.standards.proofs.InRange.{finite_of_lem, zero_in, one_in, product_in, complement_in, unit_at, held_of}
use Rattle.standards.proofs.Domain.{undivided, alpha_outside, colour_outside}
use Rattle.standards.proofs.AtEdges.{or_split}
use Rattle.standards.proofs.FractionEdges.{full_coverage, full_fraction, no_coverage, no_fraction, atop_full, atop_none, atop_bare}
use Rattle.standards.proofs.Complement.{atop_opaque}
use Rattle.standards.proofs.Fractions.{alpha_is, colour_is}

-- ---- 1, or a zero
abbrev End : Float → Type 0
End x = (x ≡ f1) ⊎ Zero x

-- one of two alphas is
ends : {x y : Float} → InUnit x → InUnit y → T (opaque x y || absent x y) → End x ⊎ End y
ends {x} {y} p q o = elim (or_split (opaque x y) (absent x y) o) [
  | inl h ↦ elim (or_split (eq x f1) (eq y f1) h) [ inl e ↦ inl (inl (is_one x p.held e)) | inr e ↦ inr (inl (is_one y q.held e)) ]
  | inr h ↦ elim (or_split (eq x f0) (eq y f0) h) [ inl e ↦ inl (inr (is_zero x p.held e)) | inr e ↦ inr (inr (is_zero y q.held e)) ]
]

-- and so is a fraction of one that is
fraction_end : (f : Fraction) {β : Float} → End β → End (fraction f β)
fraction_end none e = inr zero_is
fraction_end whole e = inl refl
fraction_end inside e = e
fraction_end outside (inl e) = inr (ap (λ (z : Float). plain (f1 ⊖ z)) e ∙ nought)
fraction_end outside {β} (inr z) = inl (of_plain (f1 ⊖ β) false 0 (pos 0) (less_zero β z ∙ ap plain one_is) ∙ sym one_is)

fraction_in : (f : Fraction) {β : Float} → InUnit β → InUnit (fraction f β)
fraction_in none q = zero_in
fraction_in whole q = one_in
fraction_in inside q = q
fraction_in outside q = complement_in q

-- ---- a term of the paper's colour
regrouped : (g : Grouping) {C α F : Float} → InUnit C → InUnit α → InUnit F → End α ⊎ End F → Same (part g C α F) (part printed C α F)
regrouped printed p q r e = refl
regrouped coverage_first {C} {α} {F} p q r (inl (inl e)) = ap plain (full_coverage C α F p.held r.held e)
regrouped coverage_first {C} {α} {F} p q r (inl (inr z)) = no_coverage C α F (finite_of_lem p) (finite_of_lem r) z
regrouped coverage_first {C} {α} {F} p q r (inr (inl e)) = ap plain (full_fraction C α F q.held e)
regrouped coverage_first {C} {α} {F} p q r (inr (inr z)) = no_fraction C α F (finite_of_lem p) (finite_of_lem q) (finite_of_lem (product_in p q)) z

as_printed : (g : Grouping) (f : Fraction) {C α β : Float} → InUnit C → InUnit α → InUnit β → End α ⊎ End β
    → Same (part g C α (fraction f β)) (part printed C α (fraction f β))
as_printed g f p q r e = regrouped g p q (fraction_in f r) (⊎_map (λ h. h) (fraction_end f) e)

-- ---- Atop's coverage
atop_kept : {x y : Float} → InUnit x → InUnit y → End x ⊎ End y → Same y (coverage AatopB x y)
atop_kept {x} {y} p q (inl (inl e)) = atop_full x y q.held (finite_of_lem q) e
atop_kept {x} {y} p q (inl (inr z)) = atop_none x y q.held (finite_of_lem q) z
atop_kept {x} {y} p q (inr (inl e)) = atop_opaque x y p e
atop_kept {x} {y} p q (inr (inr z)) = atop_bare x y (finite_of_lem p) (finite_of_lem (complement_in p)) z

module _ (p : Params) (s d : Rgba) (ps : InUnits s) (pd : InUnits d) (c : Colour) where
  abbrev S : Float
  S = at c s

  abbrev sa : Float
  sa = s.a

  abbrev D : Float
  D = at c d

  abbrev da : Float
  da = d.a

  -- ---- the colours
  colour_as_printed : (o : Operator) → T (opaque s.a d.a || absent s.a d.a)
      → Same (colour_by o (at c s) s.a (at c d) d.a) (colour o (at c s) s.a (at c d) d.a)
  colour_as_printed o e =
      let h = ends ps.a pd.a e in
      let F = fraction (FA o) da in
      let G = fraction (FB o) sa in
      add_same binary32 (part (group_a o) S sa F) (S ⊗ sa ⊗ F) (part (group_b o) D da G) (D ⊗ da ⊗ G)
      (as_printed (group_a o) (FA o) (unit_at c s ps) ps.a pd.a h) (as_printed (group_b o) (FB o) (unit_at c d pd) pd.a ps.a (⊎_swap h))

  -- in range, with the step of the grouping
  pub fraction_in_range : (o : Operator) → T (undivided o)
      → IsColour (form o) (at c (pixel_of (porter_duff_op o) p s d)) (pixel_of (porter_duff_op o) p s d).a
      (colour_by o (at c s) s.a (at c d) d.a) (coverage o s.a d.a)
  fraction_in_range o w = colour_is p s d (held_of s ps) (held_of d pd) c o (colour_outside (unit_at c s ps) ps.a (unit_at c d pd) pd.a o w)

  pub fraction_at_edge : (o : Operator) → T (undivided o) → T (opaque s.a d.a || absent s.a d.a)
      → IsColour (form o) (at c (pixel_of (porter_duff_op o) p s d)) (pixel_of (porter_duff_op o) p s d).a
      (colour o (at c s) s.a (at c d) d.a) (coverage o s.a d.a)
  fraction_at_edge clear w e = fraction_in_range clear w
  fraction_at_edge A w e = fraction_in_range A w
  fraction_at_edge B w e = fraction_in_range B w
  fraction_at_edge AoverB w e = absurd w
  fraction_at_edge BoverA w e = absurd w
  fraction_at_edge AinB w e = fraction_in_range AinB w ∙ colour_as_printed AinB e
  fraction_at_edge BinA w e = fraction_in_range BinA w ∙ colour_as_printed BinA e
  fraction_at_edge AoutB w e = fraction_in_range AoutB w ∙ colour_as_printed AoutB e
  fraction_at_edge BoutA w e = fraction_in_range BoutA w ∙ colour_as_printed BoutA e
  fraction_at_edge AatopB w e = fraction_in_range AatopB w
  fraction_at_edge BatopA w e = fraction_in_range BatopA w
  fraction_at_edge AxorB w e = fraction_in_range AxorB w
  fraction_at_edge AplusB w e = fraction_in_range AplusB w

  -- ---- alpha
  -- in range, with one alpha kept in Atop and DstAtop
  pub fraction_alpha_in_range : (o : Operator) → IsAlpha (form o) (pixel_of (porter_duff_op o) p s d).a (coverage_by o s.a d.a)
  fraction_alpha_in_range o = alpha_is p s d (held_of s ps) (held_of d pd) o (alpha_outside (unit_at c s ps) ps.a (unit_at c d pd) pd.a o)

  pub fraction_alpha_at_edge : (o : Operator) → T (opaque s.a d.a || absent s.a d.a)
      → Same (pixel_of (porter_duff_op o) p s d).a (cut_by (steps o) (coverage o s.a d.a))
  fraction_alpha_at_edge clear e = fraction_alpha_in_range clear
  fraction_alpha_at_edge A e = fraction_alpha_in_range A
  fraction_alpha_at_edge B e = fraction_alpha_in_range B
  fraction_alpha_at_edge AoverB e = fraction_alpha_in_range AoverB
  fraction_alpha_at_edge BoverA e = fraction_alpha_in_range BoverA
  fraction_alpha_at_edge AinB e = fraction_alpha_in_range AinB
  fraction_alpha_at_edge BinA e = fraction_alpha_in_range BinA
  fraction_alpha_at_edge AoutB e = fraction_alpha_in_range AoutB
  fraction_alpha_at_edge BoutA e = fraction_alpha_in_range BoutA
  fraction_alpha_at_edge AatopB e = ap plain (fraction_alpha_in_range AatopB) ∙ atop_kept ps.a pd.a (ends ps.a pd.a e)
  fraction_alpha_at_edge BatopA e =
      ap plain (fraction_alpha_in_range BatopA)
      ∙ atop_kept pd.a ps.a (⊎_swap (ends ps.a pd.a e))
      ∙ ap plain (add_commutes binary32 (da ⊗ sa) (sa ⊗ (f1 ⊖ da)))
  fraction_alpha_at_edge AxorB e = ap plain (fraction_alpha_in_range AxorB)
  fraction_alpha_at_edge AplusB e = ap plain (fraction_alpha_in_range AplusB)
