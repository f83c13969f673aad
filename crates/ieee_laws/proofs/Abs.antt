-- The absolute value does not turn on the sign: not of its argument, and not of a difference. It is the argument with its sign clear. Assumes nothing.
use mathlib.Core.Path.{◌≡◌, refl, sym, ap, ◌∙◌, subst}
use mathlib.Core.Bool.{Bool, true, false, not, cond}
use Prim.Native.Nat.{ℕ, zero, suc, ◌+◌, ◌-◌, ◌*◌, ◌/◌, ◌%◌, ◌^◌, ◌<◌}
use native.Mathlib.Nat.{mod-eq_of_lt}
use native.Mathlib.Omega.{arith}
use lib.IntN.{ℤ}
use lib.Dec.{T}
use lib.Ieee.{Float, nan, inf, fin, binary32, hid, up, down, size, neg, fits, of_bits, to_bits}
use lib.Ieee.Fits.{sub-fits, neg-fits}
use lib.Ieee.Bits.{of_bits-to_bits, of_bits-fits, to_bits-lt}
use Rattle.float_steps.specs.Notation.{◌⊖◌}
use Rattle.float_steps.specs.Sign.{abs_of}
use Rattle.ieee_laws.specs.Same.{plain, Same}
use Rattle.ieee_laws.specs.Size.{AtMost, Unsigned}
use Rattle.float_steps.proofs.Number.{zero_exp}
use Rattle.ieee_laws.proofs.Difference.{sub_flips}

-- the sign's bit is above the rest
cut : (s : Bool) (a b : ℕ) → (cond s 0x8000_0000 0 + a + b) % 0x8000_0000 ≡ (a + b) % 0x8000_0000
cut true a b = omega arith
cut false a b = omega arith

cut_one : (s : Bool) (a : ℕ) → (cond s 0x8000_0000 0 + a) % 0x8000_0000 ≡ a % 0x8000_0000
cut_one true a = omega arith
cut_one false a = omega arith

pub abs_sign : (s t : Bool) (m : ℕ) (e : ℤ) → abs_of (fin s m e) ≡ abs_of (fin t m e)
unfolding abs_of to_bits
abs_sign s t m e =
    let n = m * up e * 2 ^ 149 / down e in
    let k = size n - 24 in
    ap (of_bits binary32) (cut s (k * hid binary32) (n / 2 ^ k) ∙ sym (cut t (k * hid binary32) (n / 2 ^ k)))

pub abs_inf : (s t : Bool) → abs_of (inf s) ≡ abs_of (inf t)
unfolding abs_of to_bits
abs_inf s t = ap (of_bits binary32) (cut_one s 0x7f80_0000 ∙ sym (cut_one t 0x7f80_0000))

pub abs_neg : (x : Float) → abs_of (neg x) ≡ abs_of x
unfolding neg
abs_neg nan = refl
abs_neg (inf s) = abs_inf (not s) s
abs_neg (fin s m e) = abs_sign (not s) s m e

abs_plain : (x : Float) → T (fits binary32 x) → abs_of x ≡ abs_of (plain x)
abs_plain nan h = refl
abs_plain (inf s) h = refl
abs_plain (fin s (suc m) e) h = refl
abs_plain (fin s zero e) h = abs_sign s false zero e ∙ ap (λ (g : ℤ). abs_of (fin false zero g)) (zero_exp binary32 s e h)

pub abs_same : (x y : Float) → T (fits binary32 x) → T (fits binary32 y) → Same x y → abs_of x ≡ abs_of y
abs_same x y h k p = abs_plain x h ∙ ap abs_of p ∙ sym (abs_plain y k)

-- |x - y| = |y - x|, for all values
pub abs_sub : (x y : Float) → abs_of (x ⊖ y) ≡ abs_of (y ⊖ x)
abs_sub x y = abs_same (x ⊖ y) (neg (y ⊖ x)) (sub-fits binary32 x y) (neg-fits binary32 (y ⊖ x) (sub-fits binary32 y x)) (sub_flips binary32 x y) ∙ abs_neg (y ⊖ x)

pub abs_fits : (x : Float) → T (fits binary32 (abs_of x))
unfolding abs_of
abs_fits x = of_bits-fits binary32 _

-- ---- on values: the sign is cleared
low_word : (m : ℕ) (e : ℤ) → T (fits binary32 (fin true m e)) → to_bits binary32 (fin false m e) < 0x8000_0000
unfolding to_bits
low_word m e h =
    let n = m * up e * 2 ^ 149 / down e in
    let k = size n - 24 in
    below (k * hid binary32) (n / 2 ^ k) (to_bits-lt binary32 (fin true m e) h)
  where
    below : (a b : ℕ) → 0x8000_0000 + a + b < 0x1_0000_0000 → 0 + a + b < 0x8000_0000
    below a b h = omega arith

recast : (s t : Bool) (m : ℕ) (e : ℤ) → T (fits binary32 (fin s m e)) → T (fits binary32 (fin t m e))
unfolding fits
recast s t zero e h = h
recast s t (suc m) e h = h

pub abs_is : (s : Bool) (m : ℕ) (e : ℤ) → T (fits binary32 (fin s m e)) → abs_of (fin s m e) ≡ fin false m e
unfolding abs_of
abs_is s m e h =
    abs_sign s false m e
    ∙ ap (of_bits binary32) (mod-eq_of_lt (low_word m e (recast s true m e h)))
    ∙ of_bits-to_bits binary32 (fin false m e) (recast s false m e h)

pub abs_bound : (N : ℕ) (x : Float) → T (fits binary32 x) → AtMost N x → AtMost N (abs_of x)
abs_bound N nan h u = absurd u
abs_bound N (inf s) h u = absurd u
abs_bound N (fin s m e) h u = subst (AtMost N) (sym (abs_is s m e h)) u

pub abs_unsigned : (N : ℕ) (x : Float) → T (fits binary32 x) → AtMost N x → Unsigned (abs_of x)
abs_unsigned N nan h u = absurd u
abs_unsigned N (inf s) h u = absurd u
abs_unsigned N (fin s m e) h u = subst Unsigned (sym (abs_is s m e h)) tt
