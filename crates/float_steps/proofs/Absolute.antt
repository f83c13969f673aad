-- The absolute value: a pattern without its sign's bit is that of the value with a plus. Assumes nothing.
use Rattle.std.proofs.Common.{◌≡◌, ℕ, zero, suc, ◌%◌, ◌^◌, ◌<◌, Bool, true, false, T, ℤ, sym, refl, ap, ◌∙◌, arith}
use Rattle.std.specs.Float.{float_with_sign}
use lib.Ieee.{Float, nan, inf, fin, binary32, of_bits, to_bits, fits}
use lib.Ieee.Bits.{of_bits-to_bits, to_bits-lt}
use Rattle.float_steps.specs.Sign.{abs_of}

-- whether a format holds a number does not depend on its sign
fits_any : (s t : Bool) (m : ℕ) (e : ℤ) → T (fits binary32 (fin s m e)) → T (fits binary32 (fin t m e))
unfolding fits
fits_any s t zero e h = h
fits_any s t (suc m) e h = h

without_sign : (s : Bool) (m : ℕ) (e : ℤ) → to_bits binary32 (fin true m e) < 2 ^ 32 → to_bits binary32 (fin s m e) % 0x8000_0000 ≡ to_bits binary32 (fin false m e)
unfolding to_bits
without_sign true m e l = omega arith
without_sign false m e l = omega arith

of_nan : nan ≡ of_bits binary32 (to_bits binary32 nan % 0x8000_0000)
unfolding to_bits of_bits
of_nan = refl

of_inf : (s : Bool) → inf false ≡ of_bits binary32 (to_bits binary32 (inf s) % 0x8000_0000)
unfolding to_bits of_bits
of_inf true = refl
of_inf false = refl

pub abs_is : (v : Float) → T (fits binary32 v) → float_with_sign false v ≡ abs_of v
unfolding float_with_sign abs_of
abs_is nan h = of_nan
abs_is (inf s) h = of_inf s
abs_is (fin s m e) h =
    sym
    (ap (λ (w : ℕ). of_bits binary32 w) (without_sign s m e (to_bits-lt binary32 (fin true m e) (fits_any s true m e h)))
    ∙ of_bits-to_bits binary32 (fin false m e) (fits_any s false m e h))
