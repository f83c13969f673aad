-- A value that is smaller in magnitude than the divisor is its own remainder. Over the format. Assumes nothing.
use Rattle.std.proofs.Common.{◌≡◌, ℕ, ◌*◌, ◌<◌, Bool, true, false, T, ℤ, refl, ap, ◌∙◌, mod-eq_of_lt, mul_assoc, mul_comm, mul-pos, zero-mul, arith, ltb-true, ne_eqb}
use lib.Ieee.{Float, nan, inf, fin, Format, up, down, rem, neg, lt, fits}
use lib.Ieee.Fits.{down_pos}
use lib.Ieee.Scale.{round_same}
use Rattle.float_steps.proofs.Choice.{never}
use Rattle.float_steps.proofs.Number.{round_own}

-- the divisor is not 0
nonzero : (a n u d : ℕ) → a < n * u * d → n ≡ 0 → ⊥
nonzero a n u d h z = let none : n * u * d ≡ 0 = ap (λ (x : ℕ). x * u * d) z ∙ ap (λ (x : ℕ). x * d) (zero-mul u) ∙ zero-mul d in omega arith

pub own_remainder : (f : Format) (s : Bool) (m : ℕ) (e : ℤ) (t : Bool) (n : ℕ) (d : ℤ) → T (fits f (fin s m e))
    → m * up e * down d < n * up d * down e → rem f (fin s m e) (fin t n d) ≡ fin s m e
unfolding rem
own_remainder f s m e t n d p h =
    rw (ne_eqb n 0 (nonzero (m * up e * down d) n (up d) (down e) h), mod-eq_of_lt h)
    (round_same f s (m * up e * down d) (down e * down d) (m * up e) (down e) (mul-pos (down_pos e) (down_pos d)) (down_pos e) (mul_assoc (m * up e) (down d) (down e) ∙ ap (λ (x : ℕ). m * up e * x) (mul_comm (down d) (down e))) ∙ round_own f s m e p)

-- as the code tests it: between -m and m
pub between : (f : Format) (v m : Float) → T (fits f v) → lt (neg m) v ≡ true → lt v m ≡ true → rem f v m ≡ v
unfolding lt neg rem
between f nan m p a b = refl
between f (inf s) m p a b = none s m a b
  where
    none : {X : Type 0} (s : Bool) (m : Float) → lt (neg m) (inf s) ≡ true → lt (inf s) m ≡ true → X
    none s nan a b = never a
    none true (inf true) a b = never a
    none true (inf false) a b = never a
    none false (inf t) a b = never b
    none true (fin t n d) a b = never a
    none false (fin t n d) a b = never b
between f (fin s m e) nan p a b = never b
between f (fin s m e) (inf t) p a b = refl
between f (fin s m e) (fin t n d) p a b = own_remainder f s m e t n d p (least s t a b)
  where
    least : (s t : Bool) → lt (neg (fin t n d)) (fin s m e) ≡ true → lt (fin s m e) (fin t n d) ≡ true → m * up e * down d < n * up d * down e
    least true true a b = never a
    least true false a b = ltb-true (m * up e * down d) (n * up d * down e) a
    least false true a b = never b
    least false false a b = ltb-true (m * up e * down d) (n * up d * down e) b
