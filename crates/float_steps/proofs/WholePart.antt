-- `floor_of` and `round_byte_of`, as the code works them out. Assumes nothing.
use Rattle.std.proofs.Common.{◌≡◌, ℕ, zero, suc, ◌+◌, ◌*◌, ◌/◌, ◌^◌, ◌<◌, ◌≤◌, min, Bool, true, false, ◌&&◌, ◌||◌, T, eqb, ltb, ◌⊎◌, pos, sym, refl, ap, ◌∙◌, subst, inl, inr, true≢false, le_trans, le_of_eq, lt_of_lt_of_le, lt_of_le_of_lt, le_of_lt, mul-le-mul_right, mul_comm, div-lt_iff_lt-mul, mul-pos, lt_of_not-le, le-div_iff_mul-le, zero-mul, mul-one, arith, lit<, lit≤, le→leb, eqb→eq, ltb→lt, pow_pos, ltb-false, ltb-true, lt-ltb}
use native.Mathlib.Nat.{div-div-eq-div-mul, add-mul-div_right}
use lib.Ieee.{Float, nan, inf, fin, binary32, of_bits, up, down, neg, round, mul, lt, le, fits, to_unsigned, Format, prec, in_float}
use lib.Ieee.Fits.{down_pos, and_l, and_r}
use lib.Ieee.Exact.{HasValue}
use lib.Ieee.Nearest.{div_same}
use lib.Ieee.Positive.{num, den, positive, den_pos, mul_at, cross→le}
use Rattle.float_steps.specs.Whole.{floor_of, round_byte_of}
use Rattle.float_steps.proofs.Choice.{told, never}
use Rattle.float_steps.proofs.Number.{held, round_scaled}

-- ---- a whole number that a format counts without a gap
pub in_float_lem : (f : Format) (n : ℕ) → n ≤ 2 ^ prec f → T (in_float f (pos n))
unfolding in_float
in_float_lem f n h = le→leb n (2 ^ prec f) h

-- ---- `floor_of`
abbrev minus_one : Float
minus_one = neg (of_bits binary32 0x3f80_0000)

abbrev past : Float
past = of_bits binary32 0x5f80_0000

-- what the cut asks
pub cut_low : (v : Float) → lt minus_one v ≡ true → T (lt (fin true 1 (pos 0)) v)
unfolding of_bits neg
cut_low v h = told h

pub cut_high : (v : Float) → lt v past ≡ true → T (lt v (fin false 1 (pos 64)))
unfolding of_bits
cut_high v h = told h

pub floor_cut : (v : Float) → to_unsigned 64 v ≡ floor_of v
unfolding to_unsigned floor_of
floor_cut nan = refl
floor_cut (inf s) = refl
floor_cut (fin s m e) = refl

some : (a b : ℕ) → 0 < b → a + b ≤ 0 → ⊥
some a b h k = omega arith

some' : (a b : ℕ) → 0 < a → a + b ≤ 0 → ⊥
some' a b h k = omega arith

capped : (a c : ℕ) → c < a → c ≡ min a c
capped a c h = omega arith

pub floor_high : (v : Float) → lt minus_one v ≡ true → lt v past ≡ false → 0xffff_ffff_ffff_ffff ≡ floor_of v
unfolding lt floor_of of_bits neg
floor_high nan p q = never p
floor_high (inf true) p q = never p
floor_high (inf false) p q = refl
floor_high (fin true m e) p q = absurd (some (m * up e * 1) (2 ^ 64 * down e) (mul-pos (pow_pos 64) (down_pos e)) (ltb-false 0 (m * up e * 1 + 2 ^ 64 * down e) q))
floor_high (fin false m e) p q =
    capped (m * up e / down e) 0xffff_ffff_ffff_ffff ((le-div_iff_mul-le (down_pos e)).1 (le_trans (ltb-false (m * up e * 1) (2 ^ 64 * down e) q) (le_of_eq (mul-one (m * up e)))))

pub floor_low : (v : Float) → lt minus_one v ≡ false → 0 ≡ floor_of v
unfolding lt floor_of of_bits neg
floor_low nan p = refl
floor_low (inf true) p = refl
floor_low (inf false) p = never (sym p)
floor_low (fin true m e) p = refl
floor_low (fin false m e) p = absurd (some' (1 * down e) (m * up e * 1) (mul-pos (lit< tt) (down_pos e)) (ltb-false 0 (1 * down e + m * up e * 1) p))

-- ---- `floor_of` of a value by any fraction that it equals
uncapped : (a c : ℕ) → a ≤ c → min a c ≡ a
uncapped a c h = omega arith

pub floor_value : (y : Float) (a c : ℕ) → 0 < c → HasValue y false a c → a / c ≤ 0xffff_ffff_ffff_ffff → floor_of y ≡ a / c
unfolding floor_of
floor_value nan a c C h l = absurd h
floor_value (inf s) a c C h l = absurd h
floor_value (fin true m e) a c C h l = absurd (true≢false h.0)
floor_value (fin false m e) a c C h l = ap (λ (z : ℕ). min z 0xffff_ffff_ffff_ffff) (div_same (m * up e) (down e) a c (down_pos e) C h.1) ∙ uncapped (a / c) 0xffff_ffff_ffff_ffff l

-- ---- twice a value is exact
abbrev two : Float
two = of_bits binary32 0x4000_0000

doubled : (a d : ℕ) → a < 255 * d → a * 2 < 510 * d
doubled a d h = omega arith

pub twice_value : (x : Float) → T (fits binary32 x) → T (positive x) → num x < 255 * den x → HasValue (mul binary32 x two) false (num x * 2) (den x)
unfolding of_bits
twice_value nan f p h = absurd p
twice_value (inf s) f p h = absurd p
twice_value (fin true m e) f p h = absurd p
twice_value (fin false m e) f p h =
    subst (λ (z : Float). HasValue z false (m * up e * 2) (down e))
    (sym (mul_at binary32 (fin false m e) two (m * up e) (down e) 2 1 p tt (down_pos e) (lit< tt) (refl, refl) (refl, refl) ∙ ap (round binary32 false (m * up e * 2)) (mul-one (down e))))
    (round_scaled binary32 false m e 1 (held binary32 false m e f) (lt_of_lt_of_le (doubled (m * up e) (down e) h) (mul-le-mul_right (down e) (lit≤ tt))))

-- ---- `round_byte_of`
abbrev c255 : Float
c255 = of_bits binary32 0x437f_0000

abbrev nought : Float
nought = of_bits binary32 0

at_least : (a d : ℕ) → 0 < d → 255 * d ≤ a → 255 ≡ min ((2 * a + d) / (2 * d)) 255
at_least a d D h = go ((2 * a + d) / (2 * d)) ((le-div_iff_mul-le (mul-pos (lit< tt) D)).1 (enough a d h))
  where
    go : (z : ℕ) → 255 ≤ z → 255 ≡ min z 255
    go z g = omega arith

    enough : (x y : ℕ) → 255 * y ≤ x → 255 * (2 * y) ≤ 2 * x + y
    enough x y g = omega arith

at_nought : (a d : ℕ) → 0 < d → a ≤ 0 → 0 ≡ min ((2 * a + d) / (2 * d)) 255
at_nought a d D h = go ((2 * a + d) / (2 * d)) ((div-lt_iff_lt-mul (mul-pos (lit< tt) D)).1 (little a d D h))
  where
    go : (z : ℕ) → z < 1 → 0 ≡ min z 255
    go z g = omega arith

    little : (x y : ℕ) → 0 < y → x ≤ 0 → 2 * x + y < 1 * (2 * y)
    little x y p g = omega arith

pub byte_high : (x : Float) → le c255 x ≡ true → 255 ≡ round_byte_of x
unfolding le round_byte_of of_bits
byte_high nan h = never h
byte_high (inf true) h = never h
byte_high (inf false) h = refl
byte_high (fin true m e) h = absurd (some_d (255 * down e) (mul-pos (lit< tt) (down_pos e)) (eqb→eq (255 * down e) 0 (and_r (eqb (255 * down e) (m * up e * 1)) (eqb (255 * down e) 0) (subst T (sym h) tt))))
  where
    some_d : (z : ℕ) → 0 < z → z ≡ 0 → ⊥
    some_d z p e = omega arith
byte_high (fin false m e) h = at_least (m * up e) (down e) (down_pos e) (le_trans (le_of (255 * down e) (m * up e * 1) (subst T (sym h) tt)) (le_of_eq (mul-one (m * up e))))
  where
    or_split : (a b : Bool) → T (a || b) → T a ⊎ T b
    or_split true b t = inl tt
    or_split false b t = inr t

    le_of : (a b : ℕ) → T (ltb a b || (eqb a b && true)) → a ≤ b
    le_of a b t = elim (or_split (ltb a b) (eqb a b && true) t) [ inl u ↦ le_of_lt (ltb→lt a b u) | inr u ↦ le_of_eq (eqb→eq a b (and_l (eqb a b) true u)) ]

pub byte_nought : (x : Float) → lt nought x ≡ false → 0 ≡ round_byte_of x
unfolding lt round_byte_of of_bits
byte_nought nan h = refl
byte_nought (inf true) h = refl
byte_nought (inf false) h = never (sym h)
byte_nought (fin true m e) h = refl
byte_nought (fin false m e) h = at_nought (m * up e) (down e) (down_pos e) (le_trans (le_of_eq (sym (mul-one (m * up e)))) (le_trans (ltb-false (0 * down e) (m * up e * 1) h) (le_of_eq (zero-mul (down e)))))

first_pos : (n u : ℕ) → 0 < n * u * 1 → 0 < n
first_pos zero u h = absurd (none h)
  where
    none : 0 < 0 * u * 1 → ⊥
    none g = omega arith
first_pos (suc n) u h = omega arith

pub mid_positive : (x : Float) → lt nought x ≡ true → le c255 x ≡ false → T (positive x)
unfolding lt le of_bits
mid_positive nan h k = never h
mid_positive (inf true) h k = never h
mid_positive (inf false) h k = never (sym k)
mid_positive (fin true m e) h k = never h
mid_positive (fin false m e) h k = subst T (sym (lt-ltb 0 m (first_pos m (up e) (lt_of_le_of_lt (le_of_eq (sym (zero-mul (down e)))) (ltb-true (0 * down e) (m * up e * 1) h))))) tt

pub mid_below : (x : Float) → T (positive x) → le c255 x ≡ false → num x < 255 * den x
unfolding of_bits
mid_below x p k = lt_of_not-le (λ (g : 255 * den x ≤ num x). true≢false (is_true' (le c255 x) (cross→le c255 x tt p (le_trans g (le_of_eq (sym (mul-one (num x)))))) k))
  where
    is_true' : (b : Bool) → T b → b ≡ false → true ≡ false
    is_true' true t e = e
    is_true' false t e = absurd t

halves : (a d : ℕ) → 0 < d → (a * 2 / d + 1) / 2 ≡ (2 * a + d) / (2 * d)
halves a d D =
    ap (λ (z : ℕ). z / 2) (sym (add-mul-div_right (a * 2) 1 D))
    ∙ div-div-eq-div-mul (a * 2 + 1 * d) d 2
    ∙ ap (λ (z : ℕ). z / (d * 2)) (sums a d)
    ∙ ap (λ (z : ℕ). (2 * a + d) / z) (mul_comm d 2)
  where
    sums : (x y : ℕ) → x * 2 + 1 * y ≡ 2 * x + y
    sums x y = omega arith

rounds : (x : Float) → T (positive x) → (2 * num x + den x) / (2 * den x) ≤ 255 → (2 * num x + den x) / (2 * den x) ≡ round_byte_of x
unfolding round_byte_of
rounds nan p h = absurd p
rounds (inf s) p h = absurd p
rounds (fin true m e) p h = absurd p
rounds (fin false m e) p h = sym (uncapped ((2 * (m * up e) + down e) / (2 * down e)) 255 h)

-- what the code floors, and what it makes of it
pub mid_small : (x : Float) → lt nought x ≡ true → le c255 x ≡ false → num x * 2 / den x < 510
mid_small x h k = (div-lt_iff_lt-mul (den_pos x)).1 (doubled (num x) (den x) (mid_below x (mid_positive x h k) k))

pub mid_floor : (x : Float) → T (fits binary32 x) → lt nought x ≡ true → le c255 x ≡ false → floor_of (mul binary32 x two) ≡ num x * 2 / den x
mid_floor x f h k =
    let p = mid_positive x h k in
    floor_value (mul binary32 x two) (num x * 2) (den x) (den_pos x) (twice_value x f p (mid_below x p k)) (small (num x * 2 / den x) (mid_small x h k))
  where
    small : (z : ℕ) → z < 510 → z ≤ 0xffff_ffff_ffff_ffff
    small z g = omega arith

pub mid_byte : (x : Float) → lt nought x ≡ true → le c255 x ≡ false → (num x * 2 / den x + 1) / 2 ≡ round_byte_of x
mid_byte x h k =
    let e = halves (num x) (den x) (den_pos x) in
    let s : (num x * 2 / den x + 1) / 2 ≤ 255 = under (num x * 2 / den x) (mid_small x h k) in
    e ∙ rounds x (mid_positive x h k) (subst (λ (z : ℕ). z ≤ 255) e s)
  where
    under : (z : ℕ) → z < 510 → (z + 1) / 2 ≤ 255
    under z g = omega arith
