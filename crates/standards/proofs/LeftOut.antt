-- A term x × 0 that is left out of a sum: it makes no difference where `LeftOut` holds, and only there. Assumes nothing.
use mathlib.Core.Path.{◌≡◌, refl, sym, ap, ◌∙◌, subst}
use mathlib.Core.Bool.{Bool, true, false, cond, ◌||◌, true≢false}
use Prim.Native.Nat.{zero, suc}
use lib.Dec.{T}
use lib.Ieee.{Float, nan, inf, fin, binary32, of_bits, add, mul, fits, is_nan}
use lib.Ieee.Scale.{finite}
use Rattle.float_steps.specs.Notation.{◌⊕◌, ◌⊗◌, f0}
use Rattle.ieee_laws.specs.Same.{plain, Same, Zero}
use Rattle.ieee_laws.proofs.Commute.{add_commutes}
use Rattle.ieee_laws.proofs.Zero.{zero_plus}
use Rattle.standards.specs.FractionDifferences.{LeftOut}
use Rattle.standards.proofs.Constants.{zero_is, by_zero, first}

-- ---- no difference
pub left_finite : (x y : Float) → T (finite x) → LeftOut x y
left_finite x y h = go (finite x) (is_nan y) h
  where
    go : (a b : Bool) → T a → T (a || b)
    go true b t = tt
    go false b t = absurd t

finite_left : (b : Bool) → T (b || false) → T b
finite_left true t = tt
finite_left false t = absurd t

pub after : (x y : Float) → T (fits binary32 x) → LeftOut y x → Same x (x ⊕ y ⊗ f0)
unfolding is_nan add
after nan y h t = refl
after (inf s) y h t = first (inf s) (y ⊗ f0) h (by_zero y (finite_left (finite y) t))
after (fin s m e) y h t = first (fin s m e) (y ⊗ f0) h (by_zero y (finite_left (finite y) t))

pub before : (x y : Float) → T (fits binary32 y) → LeftOut x y → Same y (x ⊗ f0 ⊕ y)
before x y h t = after y x h t ∙ ap plain (add_commutes binary32 y (x ⊗ f0))

-- ---- a difference elsewhere: the sum is a NaN
no_zero : (x : Float) → finite x ≡ false → x ⊗ f0 ≡ nan
unfolding mul of_bits
no_zero nan h = refl
no_zero (inf s) h = refl
no_zero (fin s m e) h = absurd (true≢false h)

nan_plus : (x y : Float) → finite x ≡ false → x ⊗ f0 ⊕ y ≡ nan
nan_plus x y h = ap (λ (z : Float). z ⊕ y) (no_zero x h) ∙ unfold add in refl

nan_only : (x : Float) → Same x nan → T (is_nan x)
unfolding is_nan
nan_only nan h = tt
nan_only (inf s) h = absurd (true≢false (sym (ap is_nan h)))
nan_only (fin s zero e) h = absurd (true≢false (sym (ap is_nan h)))
nan_only (fin s (suc m) e) h = absurd (true≢false (sym (ap is_nan h)))

no_nan : Same f0 nan → ⊥
unfolding of_bits is_nan
no_nan h = true≢false (sym (ap is_nan h))

pub before_only : (x y : Float) → Same y (x ⊗ f0 ⊕ y) → LeftOut x y
before_only x y e = go (finite x) refl
  where
    go : (b : Bool) → finite x ≡ b → T (b || is_nan y)
    go true k = tt
    go false k = nan_only y (e ∙ ap plain (nan_plus x y k))

pub after_only : (x y : Float) → Same x (x ⊕ y ⊗ f0) → LeftOut y x
after_only x y e = before_only y x (e ∙ ap plain (add_commutes binary32 x (y ⊗ f0)))

-- beside a y that is set to 0 where b holds
pub cleared_only : (b : Bool) (x y : Float) → T (fits binary32 y) → Same (cond b f0 y) (x ⊗ f0 ⊕ y) → LeftOut x y × (T b → Zero y)
cleared_only false x y h e = (before_only x y e, λ t. absurd t)
cleared_only true x y h e = go (finite x) refl
  where
    go : (v : Bool) → finite x ≡ v → T (v || is_nan y) × (Unit {0} → Zero y)
    go true k = (tt, λ t. sym (zero_plus binary32 (x ⊗ f0) y h (by_zero x (subst T (sym k) tt))) ∙ sym e ∙ zero_is)
    go false k = absurd (no_nan (e ∙ ap plain (nan_plus x y k)))

-- Clear: two such terms and nothing else
pub clear_only : (x y : Float) → Same f0 (x ⊗ f0 ⊕ y ⊗ f0) → T (finite x) × T (finite y)
clear_only x y e = (go x (λ k. nan_plus x (y ⊗ f0) k), go y (λ k. add_commutes binary32 (x ⊗ f0) (y ⊗ f0) ∙ nan_plus y (x ⊗ f0) k))
  where
    go : (z : Float) → (finite z ≡ false → x ⊗ f0 ⊕ y ⊗ f0 ≡ nan) → T (finite z)
    go z h = by (finite z) refl
      where
        by : (v : Bool) → finite z ≡ v → T v
        by true k = tt
        by false k = absurd (no_nan (e ∙ ap plain (h k)))
