-- Two opaque pixels of numbers from 0 to 1: every mode is W3C's formula as printed, but for ColorBurn of black on white. Alpha is W3C's. Assumes nothing.
use mathlib.Core.Path.{◌≡◌, refl, sym, ap, ◌∙◌}
use mathlib.Core.Bool.{Bool, false, cond}
use lib.Dec.{T}
use lib.Ieee.{Float, binary32, of_bits, add, sub, mul, fits, lt}
use lib.Ieee.Fits.{mul-fits, add-fits}
use Rattle.float_steps.specs.Notation.{◌⊕◌, ◌⊖◌, ◌⊗◌, ◌⊘◌, f0, f1}
use Rattle.float_steps.specs.Order.{unit_of}
use Rattle.ieee_laws.specs.Same.{plain, Same, Zero}
use Rattle.ieee_laws.proofs.Zero.{plus_zero, zero_plus}
use Rattle.ieee_laws.proofs.Clamp.{unit_same, unit_fits, unit_twice, unit_kept, one_fits}
use Rattle.operators.specs.declared.Convention.{Convention}
use Rattle.operators.specs.declared.Convention.TheVariants.{Premult, Divided, OnPremult, PremultOnly}
use Rattle.operators.specs.Operators.{convention}
use Rattle.pictures.specs.declared.Rgba.{Rgba}
use Rattle.pixels.specs.declared.Params.{Params}
use Rattle.pixels.specs.Pixel.{pixel_of}
use Rattle.standards.specs.Compositing.{Mode, B, co, αo}
use Rattle.standards.specs.Operators.{Colour, at, blend_op}
use Rattle.standards.proofs.Conventions.{union, uncovered, spread, co_by, over_union, stored_by}
use Rattle.standards.specs.BlendDifferences.{burns}
use Rattle.standards.specs.Range.{InUnit, InUnits}
use Rattle.standards.proofs.Constants.{zero_below_one, by_one, one_by, divided_by_one, nought}
use Rattle.standards.proofs.InRange.{finite_of_lem, one_in, unit_at, held_of}
use Rattle.standards.proofs.BlendRange.{blend_in_lem}
use Rattle.standards.proofs.BlendEdges.{second, source_one, union_both_one}
use Rattle.standards.proofs.Domain.{stored_outside}
use Rattle.standards.proofs.AtEdges.{co_unclamped}
use Rattle.standards.proofs.Stored.{stored_is, union_alpha_lem}

union_one : union f1 f1 ≡ f1
unfolding of_bits add sub mul
union_one = refl

undivided : (x : Float) → T (fits binary32 x) → over_union x (union f1 f1) ≡ x
undivided x h = (λ i. cond (lt f0 (union_one i)) (x ⊘ union_one i) f0) ∙ ap (λ (b : Bool). cond b (x ⊘ f1) f0) zero_below_one ∙ divided_by_one x h

module _ (s d : Float) (ps : InUnit s) (pd : InUnit d) where
  abbrev t : Float
  t = uncovered s f1 d f1

  all_covered : Zero t
  all_covered =
      let one = finite_of_lem one_in in
      let x = f1 ⊗ (f1 ⊖ f1) ⊗ s in
      let y = f1 ⊗ (f1 ⊖ f1) ⊗ d in
      zero_plus binary32 x y (mul-fits binary32 (f1 ⊗ (f1 ⊖ f1)) d) (second f1 (f1 ⊖ f1) s one nought (finite_of_lem ps)) ∙ second f1 (f1 ⊖ f1) d one nought (finite_of_lem pd)

  just : (v : Float) → T (fits binary32 v) → Same (co_by spread v s f1 d f1) v
  just v h = ap (λ (x : Float). plain (x ⊗ v ⊕ t)) (one_by f1 one_fits) ∙ ap (λ (x : Float). plain (x ⊕ t)) (one_by v h) ∙ plus_zero binary32 v t h all_covered

  -- W3C's own formula gives B
  co_is : (m : Mode) → Same (co m s f1 d f1) (B m d s)
  co_is m =
      let v = B m d s in
      ap plain (sym (co_unclamped s f1 d f1 ps one_in pd one_in m)) ∙ sym (source_one v s d f1 one_fits (finite_of_lem one_in) (finite_of_lem pd)) ∙ just v (blend_in_lem m d s pd ps).held

  -- and each convention stores the clamped B
  stored : (k : Convention) (m : Mode) → Same (stored_by spread k m s f1 d f1) (unit_of (B m d s))
  stored Premult m =
      let v = unit_of (B m d s) in
      unit_same (co_by spread v s f1 d f1) v (just v (unit_fits (B m d s) (blend_in_lem m d s pd ps).held)) ∙ ap plain (unit_twice (B m d s))
  stored Divided m =
      let v = B m d s in
      let x = co_by spread v s f1 d f1 in
      ap (λ (z : Float). plain (unit_of z)) (undivided x (add-fits binary32 (f1 ⊗ f1 ⊗ v) t)) ∙ unit_same x v (just v (blend_in_lem m d s pd ps).held)
  stored OnPremult m =
      let v = unit_of (B m d s) in
      (λ i. plain (unit_of (unit_of (B m (by_one d pd.held i) (by_one s ps.held i)) ⊕ t)))
      ∙ unit_same (v ⊕ t) v (plus_zero binary32 v t (unit_fits (B m d s) (blend_in_lem m d s pd ps).held) all_covered)
      ∙ ap plain (unit_twice (B m d s))
  stored PremultOnly m = λ i. plain (unit_of (B m (by_one d pd.held i) (by_one s ps.held i)))

module _ (p : Params) (s d : Rgba) (ps : InUnits s) (pd : InUnits d) (es : s.a ≡ f1) (ed : d.a ≡ f1) (c : Colour) (m : Mode) where
  blend : burns m (at c s) s.a (at c d) d.a ≡ false → Same (at c (pixel_of (blend_op m) p s d)) (unit_of (B m (at c d) (at c s)))
  blend n =
      stored_is p s d m (held_of s ps) (held_of d pd) c (stored_outside (unit_at c s ps) ps.a (unit_at c d pd) pd.a m n)
      ∙ (λ i. plain (stored_by spread (convention (blend_op m)) m (at c s) (es i) (at c d) (ed i)))
      ∙ stored (at c s) (at c d) (unit_at c s ps) (unit_at c d pd) (convention (blend_op m)) m

  pub opaque_exact : burns m (at c s) s.a (at c d) d.a ≡ false → Same (at c (pixel_of (blend_op m) p s d)) (co m (at c s) f1 (at c d) f1)
  opaque_exact n =
      let q = blend_in_lem m (at c d) (at c s) (unit_at c d pd) (unit_at c s ps) in
      blend n ∙ ap plain (unit_kept (B m (at c d) (at c s)) q.low q.high) ∙ sym (co_is (at c s) (at c d) (unit_at c s ps) (unit_at c d pd) m)

  pub opaque_alpha : (pixel_of (blend_op m) p s d).a ≡ αo f1 f1
  opaque_alpha = union_alpha_lem p s d m ∙ (λ i. union (es i) (ed i)) ∙ union_both_one
