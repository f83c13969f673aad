-- 0, 1, 2 and a half in the laws of IEEE arithmetic, on binary32. Assumes nothing.
use mathlib.Core.Path.{◌≡◌, refl, sym, ap, ◌∙◌, subst}
use mathlib.Core.Bool.{Bool, true, false, ◌||◌}
use lib.IntN.{pos, negsuc}
use lib.Dec.{T}
use lib.Ieee.{Float, fin, binary32, of_bits, sub, fits, lt, le, eq}
use lib.Ieee.Bits.{of_bits-fits}
use lib.Ieee.Scale.{finite}
use Rattle.float_steps.specs.Notation.{◌⊕◌, ◌⊖◌, ◌⊗◌, ◌⊘◌, f0, f1, f2, half}
use Rattle.ieee_laws.specs.Same.{plain, Same, Zero}
use Rattle.ieee_laws.specs.Size.{one, two}
use Rattle.ieee_laws.proofs.Commute.{mul_commutes}
use Rattle.ieee_laws.proofs.One.{times_one, over_one}
use Rattle.ieee_laws.proofs.Zero.{times_zero, plus_zero, minus_zero, of_plain}
use Rattle.ieee_laws.proofs.Order.{eq_same, eq_zeros}
use Rattle.ieee_laws.proofs.Clamp.{zero_fits, one_fits}

pub one_is : f1 ≡ one
unfolding of_bits
one_is = refl

pub two_is : f2 ≡ two
unfolding of_bits
two_is = refl

pub zero_is : Zero f0
unfolding of_bits
zero_is = refl

pub zero_below_one : lt f0 f1 ≡ true
unfolding of_bits lt
zero_below_one = refl

half_is : half ≡ fin false 1 (negsuc 0)
unfolding of_bits
half_is = refl

pub by_one : (x : Float) → T (fits binary32 x) → x ⊗ f1 ≡ x
by_one x h = ap (λ (z : Float). x ⊗ z) one_is ∙ times_one binary32 x h

pub one_by : (x : Float) → T (fits binary32 x) → f1 ⊗ x ≡ x
one_by x h = mul_commutes binary32 f1 x ∙ by_one x h

pub divided_by_one : (x : Float) → T (fits binary32 x) → x ⊘ f1 ≡ x
divided_by_one x h = ap (λ (y : Float). x ⊘ y) one_is ∙ over_one binary32 x h

pub by_zero : (x : Float) → T (finite x) → Zero (x ⊗ f0)
by_zero x h = times_zero binary32 x f0 h zero_is

-- x ⊕ y where y is a zero
pub first : (x y : Float) → T (fits binary32 x) → Zero y → Same x (x ⊕ y)
first x y h z = sym (plus_zero binary32 x y h z)

pub nought : Zero (f1 ⊖ f1)
unfolding of_bits sub
nought = refl

-- 1 - z for a zero z
pub less_zero : (z : Float) → Zero z → Same (f1 ⊖ z) f1
less_zero z q = minus_zero binary32 f1 z one_fits q

-- ---- tests
pub is_zero : (x : Float) → T (fits binary32 x) → T (eq x f0) → Zero x
is_zero x h e = eq_same binary32 x f0 h zero_fits e ∙ zero_is

pub is_one : (x : Float) → T (fits binary32 x) → T (eq x f1) → x ≡ f1
is_one x h e = of_plain x false 0 (pos 0) (eq_same binary32 x f1 h one_fits e ∙ ap plain one_is) ∙ sym one_is

pub half_fits : T (fits binary32 half)
half_fits = of_bits-fits binary32 0x3f00_0000

pub same_half : (x : Float) → Same x half → x ≡ half
same_half x e = of_plain x false 0 (negsuc 0) (e ∙ ap plain half_is) ∙ sym half_is

pub is_half : (x : Float) → T (fits binary32 x) → T (eq x half) → x ≡ half
is_half x h e = same_half x (eq_same binary32 x half h half_fits e)

-- what is not above 0 and not below it
pub none_left : (a : Float) → T (fits binary32 a) → lt a f0 ≡ false → T (le a f0) → T (eq a f0)
unfolding le
none_left a h l t = subst (λ (b : Bool). T (b || eq a f0)) l t

pub le_zero : (a : Float) → Zero a → le a f0 ≡ true
unfolding le
le_zero a z = ap (λ (b : Bool). lt a f0 || b) (eq_zeros a f0 z zero_is) ∙ or_true (lt a f0)
  where
    or_true : (b : Bool) → b || true ≡ true
    or_true true = refl
    or_true false = refl
