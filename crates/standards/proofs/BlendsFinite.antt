-- In the modes that divide, the compositor's blended colour is finite where W3C's is; ColorDodge's and ColorBurn's always are. Assumes nothing.
use mathlib.Core.Path.{◌≡◌, refl, sym, ap, ◌∙◌, subst}
use mathlib.Core.Logic.{◌⊎◌, inl, inr}
use mathlib.Core.Bool.{Bool, true, false, cond, ◌&&◌, ◌||◌, true≢false}
use Prim.Native.Nat.{ℕ, zero, suc, ◌+◌, ◌*◌, ◌≤◌}
use native.Mathlib.Omega.{arith}
use lib.Dec.{T, lit≤}
use lib.Ieee.{Float, nan, inf, fin, binary32, up, down, of_bits, add, sub, neg, sum, div, fits, lt, le, eq, is_nan}
use lib.Ieee.Fits.{div-fits}
use lib.Ieee.Scale.{finite}
use borrow.Author.Tests.{ltb-false}
use Rattle.float_steps.specs.Notation.{◌⊖◌, ◌⊘◌, f0, f1, half}
use Rattle.float_steps.specs.Order.{smaller_of}
use Rattle.ieee_laws.specs.Same.{plain, Same}
use Rattle.ieee_laws.specs.Size.{AtMost, Unsigned}
use Rattle.ieee_laws.proofs.Bound.{at_most_finite, sub_bound, round_unsigned, same_bound}
use Rattle.ieee_laws.proofs.Clamp.{smaller_commutes, one_fits}
use Rattle.blends.specs.Blends.{hard_light_of, color_dodge_of, color_burn_of}
use Rattle.standards.specs.Compositing.{hard_light_b}
use Rattle.standards.specs.BlendDifferences.{infinite}
use Rattle.standards.proofs.Constants.{is_half}
use Rattle.standards.proofs.InRange.{at_most_one, not_negative, zero_in, one_in}
use Rattle.standards.proofs.BlendRange.{capped, less_plus, ratio, nonzero}
use Rattle.standards.proofs.Blends.{hard_light_lem}
use Rattle.standards.proofs.BlendsNeeded.{there, no_zero}

-- ---- a NaN, or a value with a clear sign
abbrev Clear : Float → Type 0
Clear x = (x ≡ nan) ⊎ Unsigned x

not_under : (x y : Float) → le x y ≡ false → lt x y ≡ false
unfolding le
not_under x y k = go (lt x y) k
  where
    go : (b : Bool) → b || eq x y ≡ false → b ≡ false
    go true k = absurd (true≢false k)
    go false k = refl

above_zero : (x : Float) → le x f0 ≡ false → Clear x
unfolding is_nan
above_zero nan k = inl refl
above_zero (inf s) k = inr (nonzero (inf s) (not_negative (inf s) (not_under (inf s) f0 k) refl) (no_zero (inf s) k))
above_zero (fin s m e) k = inr (nonzero (fin s m e) (not_negative (fin s m e) (not_under (fin s m e) f0 k) refl) (no_zero (fin s m e) k))

-- 1 - x where x is below 1
rest : (x : Float) → lt f1 x ≡ false → Clear (f1 ⊖ x)
unfolding sub add neg sum of_bits lt
rest nan k = inl refl
rest (inf true) k = inr tt
rest (inf false) k = absurd (true≢false k)
rest (fin true m e) k = inr (round_unsigned binary32 (1 * 1 * down e + m * up e * 1) (1 * down e))
rest (fin false m e) k = inr (less_plus (fin false m e) (clear m) (few (m * up e) (down e) (ltb-false (1 * 1 * down e) (m * up e * 1) k)))
  where
    clear : (m : ℕ) → Unsigned (plain (fin false m e))
    clear zero = tt
    clear (suc m) = tt

    few : (a c : ℕ) → a * 1 ≤ 1 * 1 * c → a ≤ 1 * c
    few a c h = omega arith

-- so their quotient is not below 0, and the smaller of it and 1 is at most 1
nan_over : (y : Float) → lt (nan ⊘ y) f0 ≡ false
unfolding div lt
nan_over y = refl

over_nan : (x : Float) → lt (x ⊘ nan) f0 ≡ false
unfolding div lt
over_nan nan = refl
over_nan (inf s) = refl
over_nan (fin s m e) = refl

quotient : (x y : Float) → Clear x → Clear y → lt (x ⊘ y) f0 ≡ false
quotient x y (inl e) k = ap (λ (z : Float). lt (z ⊘ y) f0) e ∙ nan_over y
quotient x y (inr h) (inl e) = ap (λ (z : Float). lt (x ⊘ z) f0) e ∙ over_nan x
quotient x y (inr h) (inr k) = ratio x y h k

cut : (x y : Float) → Clear x → Clear y → AtMost 1 (smaller_of (x ⊘ y) f1)
cut x y h k =
    same_bound 1 (smaller_of (x ⊘ y) f1) (smaller_of f1 (x ⊘ y)) (smaller_commutes binary32 (x ⊘ y) f1 (div-fits binary32 x y) one_fits) (capped (x ⊘ y) (quotient x y h k))

-- ---- the blends
one_finite : T (finite f1)
one_finite = at_most_finite 1 f1 (at_most_one one_in)

zero_finite : T (finite f0)
zero_finite = at_most_finite 1 f0 (at_most_one zero_in)

pub dodge_finite : (s d : Float) → T (finite (color_dodge_of s d))
unfolding color_dodge_of
dodge_finite s d = go (le d f0) (le f1 s) refl refl
  where
    go : (u v : Bool) → le d f0 ≡ u → le f1 s ≡ v → T (finite (cond u f0 (cond v f1 (smaller_of (d ⊘ (f1 ⊖ s)) f1))))
    go true v h k = zero_finite
    go false true h k = one_finite
    go false false h k = at_most_finite 1 (smaller_of (d ⊘ (f1 ⊖ s)) f1) (cut d (f1 ⊖ s) (above_zero d h) (rest s (not_under f1 s k)))

pub burn_finite : (s d : Float) → T (finite (color_burn_of s d))
unfolding color_burn_of
burn_finite s d = go (le s f0) (le f1 d) refl refl
  where
    go : (u v : Bool) → le s f0 ≡ u → le f1 d ≡ v → T (finite (cond u f0 (cond v f1 (f1 ⊖ smaller_of ((f1 ⊖ d) ⊘ s) f1))))
    go true v h k = zero_finite
    go false true h k = one_finite
    go false false h k =
        let x = smaller_of ((f1 ⊖ d) ⊘ s) f1 in
        at_most_finite 2 (f1 ⊖ x) (sub_bound binary32 1 1 (lit≤ tt) f1 x (at_most_one one_in) (cut (f1 ⊖ d) s (rest d (not_under f1 d k)) (above_zero s h)))

same_finite : (x y : Float) → Same x y → T (finite y) → T (finite x)
same_finite x y e h = back x (subst (λ (z : Float). T (finite z)) (sym e) (on y h))
  where
    on : (y : Float) → T (finite y) → T (finite (plain y))
    on nan h = h
    on (inf s) h = h
    on (fin s zero e) h = tt
    on (fin s (suc m) e) h = tt

    back : (x : Float) → T (finite (plain x)) → T (finite x)
    back nan h = h
    back (inf s) h = h
    back (fin s m e) h = tt

pub hard_finite : (s d : Float) → T (fits binary32 s) → T (fits binary32 d) → T (finite (hard_light_b d s)) → T (finite (hard_light_of s d))
hard_finite s d p q h = same_finite (hard_light_of s d) (hard_light_b d s) (hard_light_lem s d p q (outside s d p h)) h
  where
    and_false : (b : Bool) → b && false ≡ false
    and_false true = refl
    and_false false = refl

    -- at a half beside an infinity W3C's is that infinity
    outside : (s d : Float) → T (fits binary32 s) → T (finite (hard_light_b d s)) → eq s half && infinite d ≡ false
    outside s nan p h = and_false (eq s half)
    outside s (fin t m e) p h = and_false (eq s half)
    outside s (inf t) p h = go (eq s half) refl
      where
        go : (b : Bool) → eq s half ≡ b → b && true ≡ false
        go false k = refl
        go true k = absurd (subst (λ (z : Float). T (finite z)) (ap (λ (z : Float). hard_light_b (inf t) z) (is_half s p (subst T (sym k) tt)) ∙ there t) h)
