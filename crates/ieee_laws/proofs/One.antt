-- 1 as a factor and as a divisor changes nothing. Over the format. Assumes nothing.
use mathlib.Core.Path.{◌≡◌, refl, ap, ◌∙◌}
use mathlib.Core.Bool.{Bool, true, false}
use Prim.Native.Nat.{◌*◌}
use native.Mathlib.Nat.{mul-one, one-mul}
use lib.Dec.{T}
use lib.Ieee.{Float, nan, inf, fin, Format, up, down, unlike, round, mul, div, fits}
use Rattle.ieee_laws.specs.Size.{one}
use Rattle.float_steps.proofs.Number.{round_own}

pub unlike_false : (s : Bool) → unlike s false ≡ s
unlike_false true = refl
unlike_false false = refl

pub times_one : (f : Format) (x : Float) → T (fits f x) → mul f x one ≡ x
unfolding mul
times_one f nan h = refl
times_one f (inf s) h = ap inf (unlike_false s)
times_one f (fin s m e) h =
    (λ i. round f (unlike_false s i) (mul-one (m * up e) i) (mul-one (down e) i)) ∙ round_own f s m e h

pub over_one : (f : Format) (x : Float) → T (fits f x) → div f x one ≡ x
unfolding div
over_one f nan h = refl
over_one f (inf s) h = ap inf (unlike_false s)
over_one f (fin s m e) h = (λ i. round f (unlike_false s i) (mul-one (m * up e) i) (one-mul (down e) i)) ∙ round_own f s m e h
