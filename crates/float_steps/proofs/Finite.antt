-- std's test for a finite value is the definition; and it holds exactly where a value lies strictly between the infinities. Assumes nothing.
use Rattle.std.proofs.Common.{◌≡◌, true, false, sym, refl, true≢false}
use Rattle.std.specs.Float.{Float, nan, inf, fin, float_is_finite}
use lib.Ieee.{lt}
use Rattle.float_steps.specs.Order.{finite_of}

pub finite_is : (v : Float) → float_is_finite v ≡ finite_of v
unfolding float_is_finite finite_of
finite_is nan = refl
finite_is (inf s) = refl
finite_is (fin s m e) = refl

pub below_inf : (v : Float) → lt v (inf false) ≡ true → lt (inf true) v ≡ finite_of v
unfolding lt finite_of
below_inf nan h = refl
below_inf (inf true) h = refl
below_inf (inf false) h = absurd (true≢false (sym h))
below_inf (fin s m e) h = refl

pub not_below_inf : (v : Float) → lt v (inf false) ≡ false → false ≡ finite_of v
unfolding lt finite_of
not_below_inf nan h = refl
not_below_inf (inf s) h = refl
not_below_inf (fin s m e) h = absurd (true≢false h)
