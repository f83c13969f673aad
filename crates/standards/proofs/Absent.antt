-- On numbers from 0 to 1, with one alpha 0, W3C's co as printed is the other picture's colour times its alpha. So is what Darken and Exclusion
-- store, which blend premultiplied colours; and where only one alpha is 0, what a mode that divides stores is co over W3C's alpha, with no clamp
-- to be seen. Assumes nothing.
use mathlib.Core.Path.{◌≡◌, refl, sym, ap, ◌∙◌, subst}
use mathlib.Core.Logic.{inl, inr}
use mathlib.Core.Bool.{Bool, true, false, cond, ◌||◌, true≢false}
use Prim.Native.Nat.{zero, suc}
use lib.Dec.{T, lit≤}
use lib.Ieee.{Float, nan, inf, fin, binary32, of_bits, fits, lt, eq}
use lib.Ieee.Fits.{mul-fits, add-fits}
use lib.Ieee.Scale.{finite}
use Rattle.float_steps.specs.Notation.{◌⊕◌, ◌⊖◌, ◌⊗◌, ◌⊘◌, f0, f1, f2}
use Rattle.float_steps.specs.Order.{smaller_of, unit_of}
use Rattle.ieee_laws.specs.Same.{plain, Same, Zero}
use Rattle.ieee_laws.specs.Size.{AtMost}
use Rattle.ieee_laws.proofs.Commute.{mul_commutes}
use Rattle.ieee_laws.proofs.Zero.{of_plain, times_zero, zero_times, plus_zero, zero_plus, minus_zero, mul_same, div_same}
use Rattle.ieee_laws.proofs.Order.{tie, lt_same, eq_zeros}
use Rattle.ieee_laws.proofs.Bound.{at_most_finite, mul_bound}
use Rattle.ieee_laws.proofs.Clamp.{smaller_commutes, zero_fits, unit_same, unit_kept}
use Rattle.standards.specs.Compositing.{darken, exclusion, B, αo}
use Rattle.standards.specs.Range.{InUnit, opaque, absent, OneAbsent}
use Rattle.standards.proofs.Conventions.{union, uncovered, printed, spread, co_by, over_union}
use Rattle.standards.proofs.Constants.{zero_is, by_one, less_zero, is_zero}
use Rattle.standards.proofs.InRange.{at_most_one, finite_of_lem, zero_in, product_in, complement_in}
use Rattle.standards.proofs.BlendRange.{blend_in_lem}
use Rattle.standards.proofs.BlendEdges.{first, second}
use Rattle.standards.proofs.MixtureRange.{mixed_in}
use Rattle.standards.proofs.AtEdges.{or_split, mixed_at_edge, union_absent}
use Rattle.standards.proofs.Quotient.{quotient_in}

-- ---- a zero in Darken's blend, and in Exclusion's
smaller_zero : {x y : Float} → InUnit x → InUnit y → Zero x → Zero (smaller_of x y)
unfolding smaller_of
smaller_zero {x} {y} p q z = (λ i. plain (cond (p.number i) y (cond ((lt_same y y x f0 refl (z ∙ sym zero_is) ∙ q.low) i) y x))) ∙ z

smaller_by_zero : {x y : Float} → InUnit x → InUnit y → Zero y → Zero (smaller_of x y)
smaller_by_zero {x} {y} p q z = smaller_commutes binary32 x y p.held q.held ∙ smaller_zero q p z

two_under : AtMost 2 f2
unfolding of_bits
two_under = lit≤ tt

excluded_zero : (x y : Float) → InUnit y → Zero x → Same (B exclusion x y) y
excluded_zero x y q z =
    minus_zero binary32 (x ⊕ y) (f2 ⊗ x ⊗ y) (add-fits binary32 x y) (second f2 x y (at_most_finite 2 f2 two_under) z (finite_of_lem q))
    ∙ zero_plus binary32 x y q.held z

excluded_by_zero : (x y : Float) → InUnit x → Zero y → Same (B exclusion x y) x
excluded_by_zero x y p z =
    minus_zero binary32 (x ⊕ y) (f2 ⊗ x ⊗ y) (add-fits binary32 x y)
    (times_zero binary32 (f2 ⊗ x) y (at_most_finite 2 (f2 ⊗ x) (mul_bound binary32 2 1 (lit≤ tt) f2 x two_under (at_most_one p))) z)
    ∙ plus_zero binary32 x y p.held z

clamped_zero : (x : Float) → Zero x → Zero (unit_of x)
clamped_zero x z = unit_same x f0 (z ∙ sym zero_is) ∙ ap plain (unit_kept f0 zero_in.low zero_in.high) ∙ zero_is

-- ---- y × (1 − z) for a zero z
all_left : (y z : Float) → T (fits binary32 y) → Zero z → Same (y ⊗ (f1 ⊖ z)) y
all_left y z h q = mul_same binary32 y y (f1 ⊖ z) f1 refl (less_zero z q) ∙ ap plain (by_one y h)

-- ---- a divisor that is no zero
itself : (x y : Float) → T (finite y) → eq y f0 ≡ false → Same x y → x ≡ y
itself x nan g h e = absurd g
itself x (inf s) g h e = absurd g
itself x (fin s zero k) g h e = absurd (true≢false (sym (eq_zeros (fin s 0 k) f0 refl zero_is) ∙ h))
itself x (fin s (suc m) k) g h e = of_plain x s m k e

above : {y : Float} → InUnit y → eq y f0 ≡ false → lt f0 y ≡ true
above {y} p h = go (lt f0 y) refl
  where
    go : (b : Bool) → lt f0 y ≡ b → b ≡ true
    go true e = refl
    go false e =
        let z : Zero y = tie binary32 y f0 p.held zero_fits p.number zero_in.number p.low e ∙ zero_is in
        absurd (true≢false (sym (eq_zeros y f0 z zero_is) ∙ h))

-- y × x over y
whole_quotient : {x y : Float} → InUnit x → InUnit y → eq y f0 ≡ false → (c u w : Float) → Same c (y ⊗ x) → Same u y → Same w y
    → Same (unit_of (over_union c u)) (c ⊘ w)
whole_quotient {x} {y} p q h c u w ec eu ew =
    let k = quotient_in p q h in
    let e = div_same binary32 c (y ⊗ x) y ec in
    ap (λ (z : Float). plain (unit_of (over_union c z))) (itself u y (finite_of_lem q) h eu)
    ∙ ap (λ (b : Bool). plain (unit_of (cond b (c ⊘ y) f0))) (above q h)
    ∙ unit_same (c ⊘ y) ((y ⊗ x) ⊘ y) e
    ∙ ap plain (unit_kept ((y ⊗ x) ⊘ y) k.low k.high)
    ∙ sym e
    ∙ ap (λ (z : Float). plain (c ⊘ z)) (sym (itself w y (finite_of_lem q) h ew))

pub or_right : (a b : Bool) → T b → T (a || b)
or_right true b t = tt
or_right false b t = t

pub or_left : (a b : Bool) → T a → T (a || b)
or_left true b t = tt
or_left false b t = absurd t

module _ (s sa d da : Float) (ps : InUnit s) (psa : InUnit sa) (pd : InUnit d) (pda : InUnit da) where
  abbrev l : Float
  l = sa ⊗ (f1 ⊖ da) ⊗ s

  abbrev r : Float
  r = da ⊗ (f1 ⊖ sa) ⊗ d

  abbrev t : Float
  t = uncovered s sa d da

  only_backdrop : Zero sa → Same t (da ⊗ d)
  only_backdrop z =
      zero_plus binary32 l r (mul-fits binary32 (da ⊗ (f1 ⊖ sa)) d) (first sa (f1 ⊖ da) s z (finite_of_lem (complement_in pda)) (finite_of_lem ps))
      ∙ mul_same binary32 (da ⊗ (f1 ⊖ sa)) da d d (all_left da sa pda.held z) refl

  only_source : Zero da → Same t (sa ⊗ s)
  only_source z =
      plus_zero binary32 l r (mul-fits binary32 (sa ⊗ (f1 ⊖ da)) s) (first da (f1 ⊖ sa) d z (finite_of_lem (complement_in psa)) (finite_of_lem pd))
      ∙ mul_same binary32 (sa ⊗ (f1 ⊖ da)) sa s s (all_left sa da psa.held z) refl

  -- the blended colour does not show
  none_blended : (v : Float) → InUnit v → T (absent sa da) → Same (co_by spread v s sa d da) t
  none_blended v u o = zero_plus binary32 (sa ⊗ da ⊗ v) t (add-fits binary32 l r) (elim (or_split (eq sa f0) (eq da f0) o) [
    | inl e ↦ first sa da v (is_zero sa psa.held e) (finite_of_lem pda) (finite_of_lem u)
    | inr e ↦ second sa da v (finite_of_lem psa) (is_zero da pda.held e) (finite_of_lem u)
  ])

  as_printed : (v : Float) → InUnit v → T (absent sa da) → Same t (co_by printed v s sa d da)
  as_printed v u o = sym (none_blended v u o) ∙ mixed_at_edge s sa d da ps psa pd pda v u (or_right (opaque sa da) (absent sa da) o)

  -- no clamp is seen
  kept : (v : Float) → InUnit v → T (absent sa da) → (x : Float) → Same x t → Same (unit_of x) (co_by printed v s sa d da)
  kept v u o x e =
      let y = co_by spread v s sa d da in
      let k = mixed_in u ps psa pd pda in
      unit_same x y (e ∙ sym (none_blended v u o)) ∙ ap plain (unit_kept y k.low k.high) ∙ none_blended v u o ∙ as_printed v u o

  -- ---- Darken and Exclusion
  pub darken_absent : T (absent sa da) → Same (unit_of (unit_of (B darken (d ⊗ da) (s ⊗ sa)) ⊕ uncovered s sa d da)) (co_by printed (B darken d s) s sa d da)
  darken_absent o =
      let x = B darken (d ⊗ da) (s ⊗ sa) in
      kept (B darken d s) (blend_in_lem darken d s pd ps) o (unit_of x ⊕ t)
      (zero_plus binary32 (unit_of x) t (add-fits binary32 l r) (clamped_zero x (elim (or_split (eq sa f0) (eq da f0) o) [
        | inl e ↦ smaller_by_zero (product_in pd pda) (product_in ps psa) (times_zero binary32 s sa (finite_of_lem ps) (is_zero sa psa.held e))
        | inr e ↦ smaller_zero (product_in pd pda) (product_in ps psa) (times_zero binary32 d da (finite_of_lem pd) (is_zero da pda.held e))
      ])))

  pub exclusion_absent : T (absent sa da) → Same (unit_of (B exclusion (d ⊗ da) (s ⊗ sa))) (co_by printed (B exclusion d s) s sa d da)
  exclusion_absent o = kept (B exclusion d s) (blend_in_lem exclusion d s pd ps) o (B exclusion (d ⊗ da) (s ⊗ sa)) (elim (or_split (eq sa f0) (eq da f0) o) [
    | inl e ↦
        let z = is_zero sa psa.held e in
        excluded_by_zero (d ⊗ da) (s ⊗ sa) (product_in pd pda) (times_zero binary32 s sa (finite_of_lem ps) z)
        ∙ ap plain (mul_commutes binary32 d da)
        ∙ sym (only_backdrop z)
    | inr e ↦
        let z = is_zero da pda.held e in
        excluded_zero (d ⊗ da) (s ⊗ sa) (product_in ps psa) (times_zero binary32 d da (finite_of_lem pd) z)
        ∙ ap plain (mul_commutes binary32 s sa)
        ∙ sym (only_source z)
  ])

  -- ---- the modes that divide
  pub divided_absent : (v : Float) → InUnit v → OneAbsent sa da
      → Same (unit_of (over_union (co_by printed v s sa d da) (union sa da))) (co_by printed v s sa d da ⊘ αo sa da)
  divided_absent v u (inl (e, h)) =
      let i = subst T (sym e) tt in
      let z = is_zero sa psa.held i in
      let o = or_left (eq sa f0) (eq da f0) i in
      let a : Same (αo sa da) da = zero_plus binary32 sa (da ⊗ (f1 ⊖ sa)) (mul-fits binary32 da (f1 ⊖ sa)) z ∙ all_left da sa pda.held z in
      whole_quotient pd pda h (co_by printed v s sa d da) (union sa da) (αo sa da)
      (sym (as_printed v u o) ∙ only_backdrop z) (union_absent s sa d da ps psa pd pda o ∙ a) a
  divided_absent v u (inr (e, h)) =
      let i = subst T (sym e) tt in
      let z = is_zero da pda.held i in
      let o = or_right (eq sa f0) (eq da f0) i in
      let a : Same (αo sa da) sa = plus_zero binary32 sa (da ⊗ (f1 ⊖ sa)) psa.held (zero_times binary32 da (f1 ⊖ sa) (finite_of_lem (complement_in psa)) z) in
      whole_quotient ps psa h (co_by printed v s sa d da) (union sa da) (αo sa da)
      (sym (as_printed v u o) ∙ only_source z) (union_absent s sa d da ps psa pd pda o ∙ a) a
