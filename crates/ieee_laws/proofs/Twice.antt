-- Doubling is exact short of overflow, so that in 2 * x * y it may move from the one factor to the other. Over the format. Assumes nothing.
use mathlib.Core.Path.{◌≡◌, refl, sym, ap, ◌∙◌, subst}
use mathlib.Core.Bool.{Bool, true, false, cond}
use Prim.Native.Nat.{ℕ, zero, suc, ◌*◌, ◌^◌, ◌<◌}
use native.Mathlib.Nat.{one-mul, zero-mul, mul-pos, mul_comm, mul_assoc, mul-mul-mul_comm, lt_irrefl, zero-lt-suc}
use lib.IntN.{ℤ}
use lib.Dec.{T, eqb, ltb→lt}
use lib.Ieee.{Float, nan, inf, fin, Format, emax, up, down, unlike, round, mul, fits}
use lib.Ieee.Fits.{up_pos, down_pos}
use lib.Ieee.Exact.{HasValue}
use lib.Ieee.Scale.{round_same}
use borrow.Author.Tests.{eq-eqb, ne_eqb}
use Rattle.ieee_laws.specs.Size.{two, doubles}
use Rattle.float_steps.proofs.Number.{held, round_scaled}
use Rattle.ieee_laws.proofs.Commute.{mul_commutes}

-- ---- a product by the fractions that its factors equal
pub values : (f : Format) (x y : Float) (s : Bool) (a c : ℕ) (t : Bool) (b d : ℕ) → 0 < c → 0 < d → HasValue x s a c → HasValue y t b d → mul f x y ≡ round f (unlike s t) (a * b) (c * d)
unfolding mul
values f nan y s a c t b d C D v w = absurd v
values f (inf u) y s a c t b d C D v w = absurd v
values f (fin u m e) nan s a c t b d C D v w = absurd w
values f (fin u m e) (inf r) s a c t b d C D v w = absurd w
values f (fin u m e) (fin r n g) s a c t b d C D v w =
    (λ i. round f (unlike (v.0 i) (w.0 i)) (m * up e * (n * up g)) (down e * down g))
    ∙ round_same f (unlike s t) (m * up e * (n * up g)) (down e * down g) (a * b) (c * d) (mul-pos (down_pos e) (down_pos g)) (mul-pos C D)
    (mul-mul-mul_comm (m * up e) (n * up g) c d ∙ ap (λ (z : ℕ). z * (n * up g * d)) v.1 ∙ ap (λ (z : ℕ). a * down e * z) w.1 ∙ mul-mul-mul_comm a (down e) b (down g))

-- ---- twice
unlike_false' : (s : Bool) → unlike false s ≡ s
unlike_false' true = refl
unlike_false' false = refl

pub twice_value : (f : Format) (s : Bool) (m : ℕ) (e : ℤ) → T (fits f (fin s m e)) → T (doubles f (fin s m e)) → HasValue (mul f two (fin s m e)) s (m * up e * 2) (down e)
unfolding mul
twice_value f s m e p q =
    subst (λ (x : Float). HasValue x s (m * up e * 2) (down e)) (sym is) (round_scaled f s m e 1 (held f s m e p) (ltb→lt (m * up e * 2) (2 ^ suc (emax f) * down e) q))
  where
    is : round f (unlike false s) (1 * 2 ^ 1 * (m * up e)) (1 * down e) ≡ round f s (m * up e * 2) (down e)
    is = λ i. round f (unlike_false' s i) (mul_comm 2 (m * up e) i) (one-mul (down e) i)

mul_nan : (f : Format) (x : Float) → mul f x nan ≡ nan
unfolding mul
mul_nan f nan = refl
mul_nan f (inf s) = refl
mul_nan f (fin s m e) = refl

own : (s : Bool) (m : ℕ) (e : ℤ) → HasValue (fin s m e) s (m * up e) (down e)
own s m e = (refl, refl)

-- ---- an infinity times a number of a given size
zeros_alike : (m n : ℕ) → (m ≡ 0 → n ≡ 0) → (n ≡ 0 → m ≡ 0) → eqb m 0 ≡ eqb n 0
zeros_alike zero n h k = sym (eq-eqb n 0 (h refl))
zeros_alike (suc m) n h k = ne_eqb (suc m) 0 (no m) ∙ sym (ne_eqb n 0 (λ (e : n ≡ 0). no m (k e)))
  where
    no : (m : ℕ) → suc m ≡ 0 → ⊥
    no m e = lt_irrefl 0 (subst (λ (z : ℕ). 0 < z) e (zero-lt-suc m))

no_factor : (m u : ℕ) → 0 < u → m * u ≡ 0 → m ≡ 0
no_factor zero u h e = refl
no_factor (suc m) u h e = absurd (lt_irrefl 0 (subst (λ (z : ℕ). 0 < z) e (mul-pos (zero-lt-suc m) h)))

by_infinity : (f : Format) (x : Float) (r s : Bool) (a c : ℕ) → 0 < c → HasValue x r a c → mul f x (inf s) ≡ cond (eqb a 0) nan (inf (unlike r s))
unfolding mul
by_infinity f nan r s a c C v = absurd v
by_infinity f (inf t) r s a c C v = absurd v
by_infinity f (fin t m e) r s a c C v = λ i. cond (alike i) nan (inf (unlike (v.0 i) s))
  where
    alike : eqb m 0 ≡ eqb a 0
    alike =
        zeros_alike m a
        (λ (z : m ≡ 0). no_factor a (down e) (down_pos e) (sym v.1 ∙ ap (λ (w : ℕ). w * up e * c) z ∙ ap (λ (w : ℕ). w * c) (zero-mul (up e)) ∙ zero-mul c))
        (λ (z : a ≡ 0). no_factor m (up e) (up_pos e) (no_factor (m * up e) c C (v.1 ∙ ap (λ (w : ℕ). w * down e) z ∙ zero-mul (down e))))

infinities : (f : Format) (s t : Bool) → mul f (mul f two (inf s)) (inf t) ≡ mul f (mul f two (inf t)) (inf s)
unfolding mul
infinities f true true = refl
infinities f true false = refl
infinities f false true = refl
infinities f false false = refl

infinite : (f : Format) (s t : Bool) (n : ℕ) (d : ℤ) → T (fits f (fin t n d)) → T (doubles f (fin t n d)) → mul f (mul f two (inf s)) (fin t n d) ≡ mul f (mul f two (fin t n d)) (inf s)
infinite f s t n d p h =
    ap (λ (z : Float). mul f z (fin t n d)) (two_inf f s)
    ∙ mul_commutes f (inf s) (fin t n d)
    ∙ by_infinity f (fin t n d) t s (n * up d) (down d) (down_pos d) (own t n d)
    ∙ ap (λ (b : Bool). cond b nan (inf (unlike t s))) (zeros_alike (n * up d) (n * up d * 2) (λ (z : n * up d ≡ 0). ap (λ (w : ℕ). w * 2) z) (no_factor (n * up d) 2 (zero-lt-suc 1)))
    ∙ sym (by_infinity f (mul f two (fin t n d)) t s (n * up d * 2) (down d) (down_pos d) (twice_value f t n d p h))
  where
    two_inf : (f : Format) (s : Bool) → mul f two (inf s) ≡ inf s
    two_inf f true = unfold mul in refl
    two_inf f false = unfold mul in refl

-- ---- 2 * x * y
pub twice_moves : (f : Format) (x y : Float) → T (fits f x) → T (fits f y) → T (doubles f x) → T (doubles f y) → mul f (mul f two x) y ≡ mul f (mul f two y) x
twice_moves f nan y p q h k = ap (λ (z : Float). mul f z y) (mul_nan f two) ∙ mul_commutes f nan y ∙ mul_nan f y ∙ sym (mul_nan f (mul f two y))
twice_moves f (inf s) nan p q h k = mul_nan f (mul f two (inf s)) ∙ sym (ap (λ (z : Float). mul f z (inf s)) (mul_nan f two) ∙ mul_commutes f nan (inf s) ∙ mul_nan f (inf s))
twice_moves f (inf s) (inf t) p q h k = infinities f s t
twice_moves f (inf s) (fin t n d) p q h k = infinite f s t n d q k
twice_moves f (fin s m e) nan p q h k = mul_nan f (mul f two (fin s m e)) ∙ sym (ap (λ (z : Float). mul f z (fin s m e)) (mul_nan f two) ∙ mul_commutes f nan (fin s m e) ∙ mul_nan f (fin s m e))
twice_moves f (fin s m e) (inf t) p q h k = sym (infinite f t s m e p h)
twice_moves f (fin s m e) (fin t n d) p q h k =
    values f (mul f two (fin s m e)) (fin t n d) s (m * up e * 2) (down e) t (n * up d) (down d) (down_pos e) (down_pos d) (twice_value f s m e p h) (own t n d)
    ∙ ap (λ (z : ℕ). round f (unlike s t) z (down e * down d)) (swap (m * up e) (n * up d))
    ∙ sym (mul_commutes f (mul f two (fin t n d)) (fin s m e)
    ∙ values f (fin s m e) (mul f two (fin t n d)) s (m * up e) (down e) t (n * up d * 2) (down d) (down_pos e) (down_pos d) (own s m e) (twice_value f t n d q k))
  where
    swap : (a b : ℕ) → a * 2 * b ≡ a * (b * 2)
    swap a b = mul_assoc a 2 b ∙ ap (λ (z : ℕ). a * z) (mul_comm 2 b)
