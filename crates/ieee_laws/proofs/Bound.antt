-- A size of at most N, for a whole number N that the format holds: rounding keeps it, sums add such sizes and products multiply them. So nothing overflows.
-- And sums, products and quotients of values with a clear sign have a clear sign. Over the format. Assumes nothing.
use mathlib.Core.Path.{sym, ap, ◌∙◌, subst}
use mathlib.Core.Logic.{◌⊎◌, inl, inr}
use mathlib.Core.Bool.{Bool, true, false, cond, ◌&&◌, ◌||◌, beq, true≢false}
use Prim.Native.Nat.{ℕ, zero, suc, ◌+◌, ◌-◌, ◌*◌, ◌/◌, ◌%◌, ◌^◌, ◌≤◌, ◌<◌, zero-le, compare}
use native.Mathlib.Nat.{le_trans, le_of_eq, le_of_lt, mul-le-mul, mul-le-mul_right, add-mul, add-le-add, mul-one, zero-mul, mul-pos, mul_comm, mul_assoc, mul_right_comm, mul-mul-mul_comm, zero-lt-suc, le_of_mul-le-mul_right}
use native.Mathlib.Omega.{arith}
use lib.Dec.{T, ltb, eqb, ltb→lt, eqb→eq}
use lib.Ieee.{Float, nan, inf, fin, Format, prec, emax, low, up, down, unlike, size, nearest, odd, units, round, sum, add, sub, mul, neg, le}
use lib.Ieee.Fits.{down_pos, and_l}
use lib.Ieee.Exact.{HasValue}
use lib.Ieee.Back.{round_whole}
use lib.Ieee.Order.{round_mono}
use lib.Ieee.Scale.{finite}
use Rattle.ieee_laws.specs.Same.{plain, Same}
use Rattle.ieee_laws.specs.Size.{AtMost, Unsigned}

pub at_most_finite : (N : ℕ) (x : Float) → AtMost N x → T (finite x)
at_most_finite N nan h = absurd h
at_most_finite N (inf s) h = absurd h
at_most_finite N (fin s m e) h = tt

-- ---- the sign plays no part
odd_sign : (N d : ℕ) (s t : Bool) (q k l : ℕ) → AtMost N (odd d s q k l) → AtMost N (odd d t q k l)
unfolding odd
odd_sign N d s t zero k l h = h
odd_sign N d s t (suc q) k l h = h

units_sign : (N : ℕ) (f : Format) (s t : Bool) (q k : ℕ) → AtMost N (units f s q k) → AtMost N (units f t q k)
unfolding units
units_sign N f s t q k = go (ltb (q * 2 ^ k) (2 ^ (low f + suc (emax f))))
  where
    go : (b : Bool) → AtMost N (cond b (odd (suc (prec f)) s q k (low f)) (inf s)) → AtMost N (cond b (odd (suc (prec f)) t q k (low f)) (inf t))
    go true h = odd_sign N (suc (prec f)) s t q k (low f) h
    go false h = absurd h

round_sign : (N : ℕ) (f : Format) (s t : Bool) (a c : ℕ) → AtMost N (round f s a c) → AtMost N (round f t a c)
unfolding round
round_sign N f s t a c =
    let n = a * 2 ^ low f in
    let k = size (n / c) - prec f in
    let u = c * 2 ^ k in
    units_sign N f s t (nearest (n / u) (compare (n % u * 2) u)) k

-- ---- rounding
odd_unsigned : (d q k l : ℕ) → Unsigned (odd d false q k l)
unfolding odd
odd_unsigned d zero k l = tt
odd_unsigned d (suc q) k l = tt

units_unsigned : (f : Format) (q k : ℕ) → Unsigned (units f false q k)
unfolding units
units_unsigned f q k = go (ltb (q * 2 ^ k) (2 ^ (low f + suc (emax f))))
  where
    go : (b : Bool) → Unsigned (cond b (odd (suc (prec f)) false q k (low f)) (inf false))
    go true = odd_unsigned (suc (prec f)) q k (low f)
    go false = tt

pub round_unsigned : (f : Format) (a c : ℕ) → Unsigned (round f false a c)
unfolding round
round_unsigned f a c =
    let n = a * 2 ^ low f in
    let k = size (n / c) - prec f in
    let u = c * 2 ^ k in
    units_unsigned f (nearest (n / u) (compare (n % u * 2) u)) k

or_split : (a b : Bool) → T (a || b) → T a ⊎ T b
or_split true b t = inl tt
or_split false b t = inr t

pub at_most : (a b : ℕ) → T (ltb a b || (eqb a b && true)) → a ≤ b
at_most a b t = elim (or_split (ltb a b) (eqb a b && true) t) [ inl u ↦ le_of_lt (ltb→lt a b u) | inr u ↦ le_of_eq (eqb→eq a b (and_l (eqb a b) true u)) ]

-- x ≤ y, and y is N
below_it : (N : ℕ) (x y : Float) → Unsigned x → HasValue y false N 1 → T (le x y) → AtMost N x
unfolding le
below_it N nan y p v h = absurd p
below_it N (inf true) y p v h = absurd p
below_it N (inf false) nan p v h = absurd v
below_it N (inf false) (inf t) p v h = absurd v
below_it N (inf false) (fin t n d) p v h = absurd h
below_it N (fin true m e) y p v h = absurd p
below_it N (fin false m e) nan p v h = absurd v
below_it N (fin false m e) (inf t) p v h = absurd v
below_it N (fin false m e) (fin true n d) p v h = absurd (true≢false v.0)
below_it N (fin false m e) (fin false n d) p v h =
    le_of_mul-le-mul_right
    (le_trans (at_most (m * up e * down d) (n * up d * down e) h) (le_of_eq (ap (λ (z : ℕ). z * down e) (sym (mul-one (n * up d)) ∙ v.1) ∙ mul_right_comm N (down d) (down e))))
    (down_pos d)

pub round_bound : (f : Format) (N : ℕ) → N ≤ 2 ^ prec f → (s : Bool) (a c : ℕ) → 0 < c → a ≤ N * c → AtMost N (round f s a c)
round_bound f N P s a c C h =
    round_sign N f false s a c
    (below_it N (round f false a c) (round f false N 1) (round_unsigned f a c) (round_whole f false N P)
    (round_mono f a c N 1 C (zero-lt-suc 0) (le_trans (le_of_eq (mul-one a)) h)))

-- ---- the operations
pub mul_bound : (f : Format) (M N : ℕ) → M * N ≤ 2 ^ prec f → (x y : Float) → AtMost M x → AtMost N y → AtMost (M * N) (mul f x y)
unfolding mul
mul_bound f M N P nan y h k = absurd h
mul_bound f M N P (inf s) y h k = absurd h
mul_bound f M N P (fin s m e) nan h k = absurd k
mul_bound f M N P (fin s m e) (inf t) h k = absurd k
mul_bound f M N P (fin s m e) (fin t n d) h k =
    round_bound f (M * N) P (unlike s t) (m * up e * (n * up d)) (down e * down d) (mul-pos (down_pos e) (down_pos d))
    (le_trans (mul-le-mul h k) (le_of_eq (mul-mul-mul_comm M (down e) N (down d))))

sum_bound : (f : Format) (N : ℕ) → N ≤ 2 ^ prec f → (s : Bool) (a : ℕ) (t : Bool) (b c : ℕ) → 0 < c → a + b ≤ N * c → AtMost N (sum f s a t b c)
unfolding sum
sum_bound f N P s a t b c C h = go (beq s t) (ltb a b)
  where
    one_side : (a b n : ℕ) → a + b ≤ n → a - b ≤ n
    one_side a b n h = omega arith

    other_side : (a b n : ℕ) → a + b ≤ n → b - a ≤ n
    other_side a b n h = omega arith

    go : (u v : Bool) → AtMost N (cond u (round f s (a + b) c) (cond v (round f t (b - a) c) (round f (s && ltb b a) (a - b) c)))
    go true v = round_bound f N P s (a + b) c C h
    go false true = round_bound f N P t (b - a) c C (other_side a b (N * c) h)
    go false false = round_bound f N P (s && ltb b a) (a - b) c C (one_side a b (N * c) h)

pub add_bound : (f : Format) (M N : ℕ) → M + N ≤ 2 ^ prec f → (x y : Float) → AtMost M x → AtMost N y → AtMost (M + N) (add f x y)
unfolding add
add_bound f M N P nan y h k = absurd h
add_bound f M N P (inf s) y h k = absurd h
add_bound f M N P (fin s m e) nan h k = absurd k
add_bound f M N P (fin s m e) (inf t) h k = absurd k
add_bound f M N P (fin s m e) (fin t n d) h k =
    sum_bound f (M + N) P s (m * up e * down d) t (n * up d * down e) (down e * down d) (mul-pos (down_pos e) (down_pos d))
    (le_trans (add-le-add (mul-le-mul_right (down d) h) (mul-le-mul_right (down e) k))
    (le_of_eq ((λ i. mul_assoc M (down e) (down d) i + (mul_assoc N (down d) (down e) ∙ ap (λ (z : ℕ). N * z) (mul_comm (down d) (down e))) i) ∙ sym (add-mul M N (down e * down d)))))

neg_bound : (N : ℕ) (x : Float) → AtMost N x → AtMost N (neg x)
unfolding neg
neg_bound N nan h = h
neg_bound N (inf s) h = h
neg_bound N (fin s m e) h = h

pub sub_bound : (f : Format) (M N : ℕ) → M + N ≤ 2 ^ prec f → (x y : Float) → AtMost M x → AtMost N y → AtMost (M + N) (sub f x y)
unfolding sub
sub_bound f M N P x y h k = add_bound f M N P x (neg y) h (neg_bound N y k)

-- ---- the size does not turn on a zero's sign
pub plain_bound : (N : ℕ) (x : Float) → AtMost N x → AtMost N (plain x)
plain_bound N nan h = h
plain_bound N (inf s) h = h
plain_bound N (fin s zero e) h = zero-le
plain_bound N (fin s (suc m) e) h = h

pub same_bound : (N : ℕ) (x y : Float) → Same x y → AtMost N y → AtMost N x
same_bound N x y p h = back x (subst (AtMost N) (sym p) (plain_bound N y h))
  where
    back : (x : Float) → AtMost N (plain x) → AtMost N x
    back nan h = h
    back (inf s) h = h
    back (fin s zero e) h = subst (λ (z : ℕ). z ≤ N * down e) (sym (zero-mul (up e))) zero-le
    back (fin s (suc m) e) h = h

-- ---- a clear sign
pub mul_unsigned : (f : Format) (x y : Float) → Unsigned x → Unsigned y → T (finite x) → T (finite y) → Unsigned (mul f x y)
unfolding mul
mul_unsigned f nan y p q h k = absurd p
mul_unsigned f (inf s) y p q h k = absurd h
mul_unsigned f (fin true m e) y p q h k = absurd p
mul_unsigned f (fin false m e) nan p q h k = absurd q
mul_unsigned f (fin false m e) (inf t) p q h k = absurd k
mul_unsigned f (fin false m e) (fin true n d) p q h k = absurd q
mul_unsigned f (fin false m e) (fin false n d) p q h k = round_unsigned f (m * up e * (n * up d)) (down e * down d)

pub add_unsigned : (f : Format) (x y : Float) → Unsigned x → Unsigned y → Unsigned (add f x y)
unfolding add sum
add_unsigned f nan y p q = absurd p
add_unsigned f (inf true) y p q = absurd p
add_unsigned f (inf false) nan p q = absurd q
add_unsigned f (inf false) (inf true) p q = absurd q
add_unsigned f (inf false) (inf false) p q = tt
add_unsigned f (inf false) (fin t n d) p q = tt
add_unsigned f (fin true m e) y p q = absurd p
add_unsigned f (fin false m e) nan p q = absurd q
add_unsigned f (fin false m e) (inf true) p q = absurd q
add_unsigned f (fin false m e) (inf false) p q = tt
add_unsigned f (fin false m e) (fin true n d) p q = absurd q
add_unsigned f (fin false m e) (fin false n d) p q = round_unsigned f (m * up e * down d + n * up d * down e) (down e * down d)
