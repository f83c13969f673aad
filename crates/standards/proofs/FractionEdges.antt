-- Where the steps of FractionDifferences.antt make no difference: a product regrouped, if the coverage or the fraction is 0 or 1 and the others are finite;
-- Atop's alpha, if it is finite and the source covers all or nothing, or if the destination covers nothing; Plus's cut, if the sum is a number not above 1.
-- Assumes nothing.
use mathlib.Core.Path.{◌≡◌, refl, sym, ap, ◌∙◌}
use mathlib.Core.Bool.{false, cond}
use lib.Dec.{T}
use lib.Ieee.{Float, binary32, fits, lt, is_nan}
use lib.Ieee.Fits.{mul-fits}
use lib.Ieee.Scale.{finite}
use Rattle.float_steps.specs.Notation.{◌⊕◌, ◌⊖◌, ◌⊗◌, f1}
use Rattle.float_steps.specs.Order.{smaller_of}
use Rattle.ieee_laws.specs.Same.{plain, Same, Zero}
use Rattle.ieee_laws.proofs.Zero.{times_zero, zero_times, plus_zero, zero_plus, mul_same}
use Rattle.standards.specs.PorterDuff.{AatopB, coverage}
use Rattle.standards.specs.FractionDifferences.{printed, coverage_first, part}
use Rattle.standards.proofs.Constants.{by_one, one_by, nought, less_zero}

-- ---- In, Out, DstIn, DstOut
module _ (C α F : Float) where
  pub full_coverage : T (fits binary32 C) → T (fits binary32 F) → α ≡ f1 → part coverage_first C α F ≡ part printed C α F
  full_coverage h k e =
      ap (λ (z : Float). C ⊗ (z ⊗ F)) e ∙ ap (λ (z : Float). C ⊗ z) (one_by F k) ∙ ap (λ (z : Float). z ⊗ F) (sym (by_one C h)) ∙ ap (λ (z : Float). C ⊗ z ⊗ F) (sym e)

  pub full_fraction : T (fits binary32 α) → F ≡ f1 → part coverage_first C α F ≡ part printed C α F
  full_fraction h e =
      ap (λ (z : Float). C ⊗ (α ⊗ z)) e ∙ ap (λ (z : Float). C ⊗ z) (by_one α h) ∙ sym (by_one (C ⊗ α) (mul-fits binary32 C α)) ∙ ap (λ (z : Float). C ⊗ α ⊗ z) (sym e)

  pub no_coverage : T (finite C) → T (finite F) → Zero α → Same (part coverage_first C α F) (part printed C α F)
  no_coverage h k z = times_zero binary32 C (α ⊗ F) h (zero_times binary32 α F k z) ∙ sym (zero_times binary32 (C ⊗ α) F k (times_zero binary32 C α h z))

  pub no_fraction : T (finite C) → T (finite α) → T (finite (C ⊗ α)) → Zero F → Same (part coverage_first C α F) (part printed C α F)
  no_fraction h k g z = times_zero binary32 C (α ⊗ F) h (times_zero binary32 α F k z) ∙ sym (times_zero binary32 (C ⊗ α) F g z)

-- ---- Atop: y is the alpha that is kept, x the other one's
abbrev sum : Float → Float → Float
sum x y = x ⊗ y ⊕ y ⊗ (f1 ⊖ x)

kept_full : (x y : Float) → T (fits binary32 y) → T (finite y) → x ≡ f1 → Same y (sum x y)
kept_full x y h k e =
    sym (ap (λ (z : Float). plain (sum z y)) e ∙ ap (λ (z : Float). plain (z ⊕ y ⊗ (f1 ⊖ f1))) (one_by y h) ∙ plus_zero binary32 y (y ⊗ (f1 ⊖ f1)) h (times_zero binary32 y (f1 ⊖ f1) k nought))

kept_none : (x y : Float) → T (fits binary32 y) → T (finite y) → Zero x → Same y (sum x y)
kept_none x y h k z =
    sym (zero_plus binary32 (x ⊗ y) (y ⊗ (f1 ⊖ x)) (mul-fits binary32 y (f1 ⊖ x)) (zero_times binary32 x y k z) ∙ mul_same binary32 y y (f1 ⊖ x) f1 refl (less_zero x z) ∙ ap plain (by_one y h))

kept_bare : (x y : Float) → T (finite x) → T (finite (f1 ⊖ x)) → Zero y → Same y (sum x y)
kept_bare x y h k z =
    z ∙ sym (zero_plus binary32 (x ⊗ y) (y ⊗ (f1 ⊖ x)) (mul-fits binary32 y (f1 ⊖ x)) (times_zero binary32 x y h z) ∙ zero_times binary32 y (f1 ⊖ x) k z)

module _ (αA αB : Float) where
  pub atop_full : T (fits binary32 αB) → T (finite αB) → αA ≡ f1 → Same αB (coverage AatopB αA αB)
  atop_full h k e = kept_full αA αB h k e

  pub atop_none : T (fits binary32 αB) → T (finite αB) → Zero αA → Same αB (coverage AatopB αA αB)
  atop_none h k z = kept_none αA αB h k z

  pub atop_bare : T (finite αA) → T (finite (f1 ⊖ αA)) → Zero αB → Same αB (coverage AatopB αA αB)
  atop_bare h k z = kept_bare αA αB h k z

-- ---- Plus
pub not_cut : (p : Float) → is_nan p ≡ false → lt f1 p ≡ false → smaller_of p f1 ≡ p
unfolding smaller_of
not_cut p n h = λ i. cond (n i) f1 (cond (h i) f1 p)
