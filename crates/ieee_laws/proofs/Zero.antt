-- A zero as a factor and as a summand, and -0 in the place of +0: the results differ in a zero's sign at most. Over the format. Assumes nothing.
use mathlib.Core.Path.{◌≡◌, refl, sym, ap, ◌∙◌}
use mathlib.Core.Bool.{Bool, true, false, cond, true≢false}
use Prim.Native.Nat.{ℕ, zero, suc, ◌+◌, ◌-◌, ◌*◌, ◌<◌}
use native.Mathlib.Nat.{sub-zero, zero-lt-suc, mul-one, one-mul, zero-mul, zero-add, mul-pos, mul_comm, mul_assoc, mul_left_comm}
use lib.IntN.{ℤ, pos}
use lib.Dec.{T, ltb, eqb}
use lib.Ieee.{Float, nan, inf, fin, Format, binary32, binary64, up, down, unlike, round, sum, add, sub, mul, div, neg, fits}
use lib.Ieee.Fits.{up_pos, down_pos}
use lib.Ieee.Scale.{round_same, finite}
use borrow.Author.Tests.{lt-ltb, eqb-true}
use Rattle.ieee_laws.specs.Same.{plain, Same, Zero}
use Rattle.float_steps.proofs.Number.{round_own}
use Rattle.ieee_laws.proofs.Commute.{mul_commutes, add_commutes}

-- ---- the value with +0 for -0
pub plain_twice : (x : Float) → plain (plain x) ≡ plain x
plain_twice nan = refl
plain_twice (inf s) = refl
plain_twice (fin s zero e) = refl
plain_twice (fin s (suc m) e) = refl

-- a value that is no zero has only itself
pub of_plain : (x : Float) (t : Bool) (n : ℕ) (d : ℤ) → plain x ≡ fin t (suc n) d → x ≡ fin t (suc n) d
of_plain nan t n d h = h
of_plain (inf s) t n d h = h
of_plain (fin s (suc m) e) t n d h = h
of_plain (fin s zero e) t n d h = cc

-- an operation that commutes, and that takes -0 for +0 on its left
both_sides : (op : Float → Float → Float) → ((x y : Float) → op x y ≡ op y x) → ((x y : Float) → Same (op x y) (op (plain x) y)) → (x x' y y' : Float) → Same x x' → Same y y' → Same (op x y) (op x' y')
both_sides op comm left x x' y y' p q = swap x x' y p ∙ ap plain (comm x' y) ∙ swap y y' x' q ∙ ap plain (comm y' x')
  where
    swap : (x x' y : Float) → Same x x' → Same (op x y) (op x' y)
    swap x x' y p = left x y ∙ ap (λ (z : Float). plain (op z y)) p ∙ sym (left x' y)

-- ---- zero in a product
nil : (f : Format) (s : Bool) → round f s 0 1 ≡ fin s 0 (pos 0)
unfolding round
nil binary32 s = refl
nil binary64 s = refl

pub round_nil : (f : Format) (s : Bool) (a c : ℕ) → 0 < c → a ≡ 0 → round f s a c ≡ fin s 0 (pos 0)
round_nil f s a c h e = ap (λ (z : ℕ). round f s z c) e ∙ round_same f s 0 c 0 1 h (zero-lt-suc 0) (zero-mul 1 ∙ sym (zero-mul c)) ∙ nil f s

pub round_zero : (f : Format) (s : Bool) (a c : ℕ) → 0 < c → a ≡ 0 → Zero (round f s a c)
round_zero f s a c h e = ap plain (round_nil f s a c h e)

-- -0 counts as +0 in a product
pub mul_plain : (f : Format) (x y : Float) → Same (mul f x y) (mul f (plain x) y)
unfolding mul
mul_plain f nan y = refl
mul_plain f (inf s) y = refl
mul_plain f (fin s (suc m) e) y = refl
mul_plain f (fin s zero e) nan = refl
mul_plain f (fin s zero e) (inf t) = refl
mul_plain f (fin s zero e) (fin t n d) =
    round_zero f (unlike s t) (0 * up e * (n * up d)) (down e * down d) (mul-pos (down_pos e) (down_pos d)) (ap (λ (z : ℕ). z * (n * up d)) (zero-mul (up e)) ∙ zero-mul (n * up d))
    ∙ sym (round_zero f (unlike false t) (0 * 1 * (n * up d)) (1 * down d) (mul-pos (zero-lt-suc 0) (down_pos d)) (ap (λ (z : ℕ). z * (n * up d)) (zero-mul 1) ∙ zero-mul (n * up d)))

pub mul_same : (f : Format) (x x' y y' : Float) → Same x x' → Same y y' → Same (mul f x y) (mul f x' y')
mul_same f = both_sides (mul f) (mul_commutes f) (mul_plain f)

pub times_zero : (f : Format) (x z : Float) → T (finite x) → Zero z → Zero (mul f x z)
unfolding mul
times_zero f nan z h q = absurd h
times_zero f (inf s) z h q = absurd h
times_zero f (fin s m e) z h q =
    ap plain (mul_commutes f (fin s m e) z) ∙ mul_plain f z (fin s m e) ∙ ap (λ (w : Float). plain (mul f w (fin s m e))) q
    ∙ round_zero f (unlike false s) (0 * 1 * (m * up e)) (1 * down e) (mul-pos (zero-lt-suc 0) (down_pos e)) (ap (λ (w : ℕ). w * (m * up e)) (zero-mul 1) ∙ zero-mul (m * up e))

pub zero_times : (f : Format) (z x : Float) → T (finite x) → Zero z → Zero (mul f z x)
zero_times f z x h q = ap plain (mul_commutes f z x) ∙ times_zero f x z h q

-- ---- zero in a sum
apart : (f : Format) (u t : Bool) (b c : ℕ) → 0 < c → Same (cond (ltb 0 b) (round f t (b - 0) c) (round f u (0 - b) c)) (round f t b c)
apart f u t zero c h = round_zero f u (0 - 0) c h refl ∙ sym (round_zero f t 0 c h refl)
apart f u t (suc b) c h =
    ap (λ (p : Bool). plain (cond p (round f t (suc b - 0) c) (round f u (0 - suc b) c))) (lt-ltb 0 (suc b) (zero-lt-suc b))
    ∙ ap (λ (z : ℕ). plain (round f t z c)) (sub-zero (suc b))

sum_nil : (f : Format) (s : Bool) (a : ℕ) (t : Bool) (b c : ℕ) → 0 < c → a ≡ 0 → Same (sum f s a t b c) (round f t b c)
unfolding sum
sum_nil f true a true b c h e = ap (λ (z : ℕ). plain (round f true (z + b) c)) e ∙ ap (λ (z : ℕ). plain (round f true z c)) (zero-add b)
sum_nil f false a false b c h e = ap (λ (z : ℕ). plain (round f false (z + b) c)) e ∙ ap (λ (z : ℕ). plain (round f false z c)) (zero-add b)
sum_nil f true a false b c h e = ap (λ (z : ℕ). plain (cond (ltb z b) (round f false (b - z) c) (round f (ltb b z) (z - b) c))) e ∙ apart f (ltb b 0) false b c h
sum_nil f false a true b c h e = ap (λ (z : ℕ). plain (cond (ltb z b) (round f true (b - z) c) (round f false (z - b) c))) e ∙ apart f false true b c h

pub add_plain : (f : Format) (x y : Float) → Same (add f x y) (add f (plain x) y)
unfolding add
add_plain f nan y = refl
add_plain f (inf s) y = refl
add_plain f (fin s (suc m) e) y = refl
add_plain f (fin s zero e) nan = refl
add_plain f (fin s zero e) (inf t) = refl
add_plain f (fin s zero e) (fin t n d) =
    sum_nil f s (0 * up e * down d) t (n * up d * down e) (down e * down d) (mul-pos (down_pos e) (down_pos d)) (ap (λ (z : ℕ). z * down d) (zero-mul (up e)) ∙ zero-mul (down d))
    ∙ ap plain (round_same f t (n * up d * down e) (down e * down d) (n * up d * 1) (1 * down d) (mul-pos (down_pos e) (down_pos d)) (mul-pos (zero-lt-suc 0) (down_pos d)) (simp (mul-one, one-mul, mul_assoc, mul_comm, mul_left_comm)))
    ∙ sym (sum_nil f false (0 * 1 * down d) t (n * up d * 1) (1 * down d) (mul-pos (zero-lt-suc 0) (down_pos d)) (ap (λ (z : ℕ). z * down d) (zero-mul 1) ∙ zero-mul (down d)))

pub add_same : (f : Format) (x x' y y' : Float) → Same x x' → Same y y' → Same (add f x y) (add f x' y')
add_same f = both_sides (add f) (add_commutes f) (add_plain f)

zero_add_0 : (f : Format) (x : Float) → T (fits f x) → Same (add f (fin false 0 (pos 0)) x) x
unfolding add
zero_add_0 f nan h = refl
zero_add_0 f (inf s) h = refl
zero_add_0 f (fin s m e) h =
    sum_nil f false (0 * 1 * down e) s (m * up e * 1) (1 * down e) (mul-pos (zero-lt-suc 0) (down_pos e)) (ap (λ (z : ℕ). z * down e) (zero-mul 1) ∙ zero-mul (down e))
    ∙ ap plain ((λ i. round f s (mul-one (m * up e) i) (one-mul (down e) i)) ∙ round_own f s m e h)

pub zero_plus : (f : Format) (z x : Float) → T (fits f x) → Zero z → Same (add f z x) x
zero_plus f z x h q = add_same f z (fin false 0 (pos 0)) x x q refl ∙ zero_add_0 f x h

pub plus_zero : (f : Format) (x z : Float) → T (fits f x) → Zero z → Same (add f x z) x
plus_zero f x z h q = ap plain (add_commutes f x z) ∙ zero_plus f z x h q

-- ---- differences
pub sub_is : (f : Format) (x y : Float) → sub f x y ≡ add f x (neg y)
unfolding sub
sub_is f x y = refl

neg_plain : (x : Float) → plain (neg x) ≡ plain (neg (plain x))
unfolding neg
neg_plain nan = refl
neg_plain (inf s) = refl
neg_plain (fin s zero e) = refl
neg_plain (fin s (suc m) e) = refl

pub neg_same : (x y : Float) → Same x y → Same (neg x) (neg y)
neg_same x y p = neg_plain x ∙ ap (λ (z : Float). plain (neg z)) p ∙ sym (neg_plain y)

pub sub_same : (f : Format) (x x' y y' : Float) → Same x x' → Same y y' → Same (sub f x y) (sub f x' y')
sub_same f x x' y y' p q = ap plain (sub_is f x y) ∙ add_same f x x' (neg y) (neg y') p (neg_same y y' q) ∙ sym (ap plain (sub_is f x' y'))

neg_zero : (x : Float) → Zero x → Zero (neg x)
unfolding neg
neg_zero x h = neg_same x (fin false 0 (pos 0)) h

pub minus_zero : (f : Format) (x z : Float) → T (fits f x) → Zero z → Same (sub f x z) x
minus_zero f x z h q = ap plain (sub_is f x z) ∙ plus_zero f x (neg z) h (neg_zero z q)

-- ---- quotients: in the numerator
no_digits : (d : ℤ) → 0 * 1 * down d ≡ 0
no_digits d = ap (λ (z : ℕ). z * down d) (zero-mul 1) ∙ zero-mul (down d)

pub div_plain : (f : Format) (x y : Float) → Same (div f x y) (div f (plain x) y)
unfolding div
div_plain f nan y = refl
div_plain f (inf s) y = refl
div_plain f (fin s (suc m) e) y = refl
div_plain f (fin s zero e) nan = refl
div_plain f (fin s zero e) (inf t) = refl
div_plain f (fin s zero e) (fin t n d) = go (eqb n 0) (eqb-true n 0) refl
  where
    pos_of : (n : ℕ) → (n ≡ 0 → ⊥) → 0 < n
    pos_of zero h = absurd (h refl)
    pos_of (suc n) h = zero-lt-suc n

    go : (b : Bool) → (b ≡ true → n ≡ 0) → eqb n 0 ≡ b
        → Same (cond b nan (round f (unlike s t) (0 * up e * down d) (n * up d * down e))) (cond b nan (round f (unlike false t) (0 * 1 * down d) (n * up d * 1)))
    go true h k = refl
    go false h k =
        let p : 0 < n = pos_of n (λ (z : n ≡ 0). true≢false (sym (ap (λ (w : ℕ). eqb w 0) z) ∙ k)) in
        ap plain (round_nil f (unlike s t) (0 * up e * down d) (n * up d * down e) (mul-pos (mul-pos p (up_pos d)) (down_pos e)) (ap (λ (z : ℕ). z * down d) (zero-mul (up e)) ∙ zero-mul (down d)))
        ∙ sym (ap plain (round_nil f (unlike false t) (0 * 1 * down d) (n * up d * 1) (mul-pos (mul-pos p (up_pos d)) (zero-lt-suc 0)) (no_digits d)))

pub div_same : (f : Format) (x x' y : Float) → Same x x' → Same (div f x y) (div f x' y)
div_same f x x' y p = div_plain f x y ∙ ap (λ (z : Float). plain (div f z y)) p ∙ sym (div_plain f x' y)
