-- The remainder of two finite values as their words' mantissas and exponents give it. Assumes nothing.
use Rattle.std.proofs.Common.{◌≡◌, ℕ, zero, suc, ◌+◌, ◌-◌, ◌*◌, ◌/◌, ◌%◌, ◌^◌, ◌<◌, ◌≤◌, Bool, true, false, cond, T, eqb, leb, sym, refl, ap, ◌∙◌, subst, le_trans, le_of_eq, lt_of_lt_of_le, lt_of_le_of_lt, le_of_lt, mul-le-mul_right, mul-le-mul, mul-lt-mul_of_pos_right, mul-pos, mul_assoc, mul_comm, mul_right_comm, mul_left_comm, mod-eq_of_lt, mod-lt, add-mul, zero-mul, one-mul, mul-one, arith, lit<, lit≤, le→leb, leb→le, pow_pos, pow_mono, pow-add, ne_eqb, pos, ◌⊎◌, inl, inr}
use Rattle.std.proofs.lemmas.Nat.{mod-mul-add, mul-mod_first}
use native.Mathlib.Nat.{eq-or-lt_of_le, div-add-mod'}
use lib.Ieee.{Float, nan, inf, fin, Format, binary32, up, down, odd, unlike, of_fields, of_bits, of_int, round, rem, mul, fits}
use lib.Pow.{pow-lt}
use lib.Ieee.Back.{round_whole}
use lib.Ieee.Bits.{of_bits-fits}
use lib.Ieee.Digits.{back}
use lib.Ieee.Exact.{HasValue, odd_sign}
use lib.Ieee.Fits.{down_pos}
use lib.Ieee.Scale.{round_same}
use Rattle.float_steps.proofs.Number.{round_own}
use Rattle.float_steps.proofs.Nan.{nan_made, nan_word}
use Rattle.float_steps.proofs.Patterns.{of_bits_is}

-- ---- remainders of whole numbers
pub mod_scaled : (a b c : ℕ) → 0 < b → 0 < c → (a * c) % (b * c) ≡ a % b * c
mod_scaled a b c B C =
    ap (λ (x : ℕ). (x * c) % (b * c)) (sym (div-add-mod' a b))
    ∙ ap (λ (x : ℕ). x % (b * c)) (add-mul (a / b * b) (a % b) c ∙ ap (λ (x : ℕ). x + a % b * c) (mul_assoc (a / b) b c))
    ∙ mod-mul-add (a / b) (b * c) (a % b * c) (mul-lt-mul_of_pos_right (mod-lt a B) C)

-- ---- the operations on values that are given as fractions
nonzero : (n u d b l : ℕ) → 0 < b → 0 < d → n * u * l ≡ b * d → n ≡ 0 → ⊥
nonzero n u d b l B D e z = none (b * d) (mul-pos B D) (sym e ∙ ap (λ (y : ℕ). y * u * l) z ∙ ap (λ (y : ℕ). y * l) (zero-mul u) ∙ zero-mul l)
  where
    none : (y : ℕ) → 0 < y → y ≡ 0 → ⊥
    none y p q = omega arith

pub rem_at : (f : Format) (x y : Float) (s t : Bool) (a b l : ℕ) → 0 < l → 0 < b → HasValue x s a l → HasValue y t b l → rem f x y ≡ round f s (a % b) l
unfolding rem
rem_at f nan y s t a b l L B v w = absurd v
rem_at f (inf _) y s t a b l L B v w = absurd v
rem_at f (fin _ m e) nan s t a b l L B v w = absurd w
rem_at f (fin _ m e) (inf _) s t a b l L B v w = absurd w
rem_at f (fin s' m e) (fin t' n d) s t a b l L B v w =
    let x = m * up e * down d in
    let y = n * up d * down e in
    let g = down e * down d in
    let G : 0 < g = mul-pos (down_pos e) (down_pos d) in
    let p : x * l ≡ a * g = mul_right_comm (m * up e) (down d) l ∙ ap (λ (z : ℕ). z * down d) v.1 ∙ mul_assoc a (down e) (down d) in
    let q : y * l ≡ b * g = mul_right_comm (n * up d) (down e) l ∙ ap (λ (z : ℕ). z * down e) w.1 ∙ mul_assoc b (down d) (down e) ∙ ap (λ (z : ℕ). b * z) (mul_comm (down d) (down e)) in
    let Y : 0 < y = first (y) l (subst (λ (z : ℕ). 0 < z) (sym q) (mul-pos B G)) in
    ap (λ (c : Bool). cond c nan (round f s' (x % y) g)) (ne_eqb n 0 (nonzero n (up d) (down d) b l B (down_pos d) w.1))
    ∙ ap (λ (c : Bool). round f c (x % y) g) v.0
    ∙ round_same f s (x % y) g (a % b) l G L
    (sym (mod_scaled x y l Y L) ∙ ap (λ (z : ℕ). z % (y * l)) p ∙ ap (λ (z : ℕ). (a * g) % z) q ∙ mod_scaled a b g B G)
  where
    first : (z u : ℕ) → 0 < z * u → 0 < z
    first zero u h = subst (λ (k : ℕ). 0 < k) (zero-mul u) h
    first (suc z) u h = omega arith

pub mul_at : (f : Format) (x y : Float) (s t : Bool) (a b c d : ℕ) → 0 < c → 0 < d → HasValue x s a c → HasValue y t b d → mul f x y ≡ round f (unlike s t) (a * b) (c * d)
unfolding mul
mul_at f nan y s t a b c d C D v w = absurd v
mul_at f (inf _) y s t a b c d C D v w = absurd v
mul_at f (fin _ m e) nan s t a b c d C D v w = absurd w
mul_at f (fin _ m e) (inf _) s t a b c d C D v w = absurd w
mul_at f (fin s' m e) (fin t' n g) s t a b c d C D v w =
    ap (λ (z : Bool). round f (unlike z t') (m * up e * (n * up g)) (down e * down g)) v.0
    ∙ ap (λ (z : Bool). round f (unlike s z) (m * up e * (n * up g)) (down e * down g)) w.0
    ∙ round_same f (unlike s t) (m * up e * (n * up g)) (down e * down g) (a * b) (c * d) (mul-pos (down_pos e) (down_pos g)) (mul-pos C D)
    (four (m * up e) (n * up g) c d ∙ ap (λ (z : ℕ). z * (n * up g * d)) v.1 ∙ ap (λ (z : ℕ). a * down e * z) w.1 ∙ four a (down e) b (down g))
  where
    four : (p q r u : ℕ) → p * q * (r * u) ≡ p * r * (q * u)
    four p q r u = mul_assoc p q (r * u) ∙ ap (λ (z : ℕ). p * z) (mul_left_comm q r u) ∙ sym (mul_assoc p r (q * u))

pub own_at : (f : Format) (x : Float) (s : Bool) (a l : ℕ) → 0 < l → T (fits f x) → HasValue x s a l → round f s a l ≡ x
own_at f nan s a l L p v = absurd v
own_at f (inf _) s a l L p v = absurd v
own_at f (fin s' m e) s a l L p v =
    round_same f s a l (m * up e) (down e) L (down_pos e) (sym v.1)
    ∙ ap (λ (z : Bool). round f z (m * up e) (down e)) (sym v.0)
    ∙ round_own f s' m e p

-- ---- a finite word's value: mantissa * 2 ^ shift of the smallest values
abbrev pub shift_of : ℕ → ℕ
shift_of w = w / 0x80_0000 - 1

abbrev pub mantissa_of : ℕ → ℕ
mantissa_of w = w - (w / 0x80_0000 - 1) * 0x80_0000

abbrev pub units_of : ℕ → ℕ
units_of w = mantissa_of w * 2 ^ shift_of w

of_parts : (s : Bool) (e t y k : ℕ) → e < 255 → y ≡ e * 0x80_0000 + t → k ≡ e - 1 → HasValue (of_fields binary32 s e t) s ((y - k * 0x80_0000) * 2 ^ k) (2 ^ 149)
unfolding of_fields
of_parts s zero t y k h p q =
    let i : t ≡ y - k * 0x80_0000 = omega arith in
    let j : 0 ≡ k = omega arith in
    subst (λ (z : ℕ). HasValue (odd 24 s t 0 149) s z (2 ^ 149)) (ap (λ (z : ℕ). z * 2 ^ 0) i ∙ ap (λ (z : ℕ). (y - k * 0x80_0000) * 2 ^ z) j) (odd_sign 24 s t 0 149)
of_parts s (suc x) t y k h p q =
    let i : 0x80_0000 + t ≡ y - k * 0x80_0000 = omega arith in
    let j : x ≡ k = omega arith in
    let few : eqb (suc x) 255 ≡ false = ne_eqb (suc x) 255 (λ (e : suc x ≡ 255). omega arith) in
    subst (λ (c : Bool). HasValue (cond c (cond (eqb t 0) (inf s) nan) (odd 24 s (0x80_0000 + t) x 149)) s ((y - k * 0x80_0000) * 2 ^ k) (2 ^ 149)) (sym few)
    (subst (λ (z : ℕ). HasValue (odd 24 s (0x80_0000 + t) x 149) s z (2 ^ 149)) (ap (λ (z : ℕ). z * 2 ^ x) i ∙ ap (λ (z : ℕ). (y - k * 0x80_0000) * 2 ^ z) j) (odd_sign 24 s (0x80_0000 + t) x 149))

abbrev pub negative : ℕ → Bool
negative w = leb 0x8000_0000 w

abbrev pub Finite : ℕ → Type 0
Finite w = w % 0x8000_0000 < 0x7f80_0000

abbrev pub value_units : ℕ → ℕ
value_units w = units_of (w % 0x8000_0000)

pub of_word : (w : ℕ) → Finite w → HasValue (of_bits binary32 w) (negative w) (value_units w) (2 ^ 149)
of_word w h =
    let y = w % 0x8000_0000 in
    subst (λ (v : Float). HasValue v (negative w) (units_of y) (2 ^ 149)) (sym (of_bits_is w))
    (of_parts (negative w) (y / 0x80_0000) (w % 0x80_0000) y (shift_of y) (omega arith) (omega arith) refl)

units_pos : (y : ℕ) → 0 < y → 0 < units_of y
units_pos y h = mul-pos (some y h) (pow_pos (shift_of y))
  where
    some : (z : ℕ) → 0 < z → 0 < mantissa_of z
    some z g = omega arith

deep : 0 < 2 ^ 149
deep = pow_pos 149

-- ---- the remainder of two finite words' values
module _ (a b : ℕ) (fa : Finite a) (fb : Finite b) (pb : 0 < b % 0x8000_0000) where
  abbrev x : ℕ
  x = a % 0x8000_0000

  abbrev y : ℕ
  y = b % 0x8000_0000

  by_units : rem binary32 (of_bits binary32 a) (of_bits binary32 b) ≡ round binary32 (negative a) (units_of x % units_of y) (2 ^ 149)
  by_units = rem_at binary32 (of_bits binary32 a) (of_bits binary32 b) (negative a) (negative b) (units_of x) (units_of y) (2 ^ 149) deep (units_pos y pb) (of_word a fa) (of_word b fb)

  -- a value of the smaller exponent is the smaller one, and its own remainder
  pub smaller_shift : shift_of x < shift_of y → of_bits binary32 a ≡ rem binary32 (of_bits binary32 a) (of_bits binary32 b)
  smaller_shift h = sym
      (by_units
      ∙ ap (λ (z : ℕ). round binary32 (negative a) z (2 ^ 149)) (mod-eq_of_lt less)
      ∙ own_at binary32 (of_bits binary32 a) (negative a) (units_of x) (2 ^ 149) deep (of_bits-fits binary32 a) (of_word a fa))
    where
      few : (z : ℕ) → mantissa_of z < 2 ^ 24
      few z = omega arith

      many : (z s : ℕ) → s < shift_of z → 2 ^ 23 ≤ mantissa_of z
      many z s g = omega arith

      more : (s t : ℕ) → s < t → 24 + s ≤ 23 + t
      more s t g = omega arith

      less : units_of x < units_of y
      less =
          lt_of_lt_of_le (mul-lt-mul_of_pos_right (few x) (pow_pos (shift_of x)))
          (le_trans (le_of_eq (sym (pow-add 2 24 (shift_of x))))
          (le_trans (pow_mono (more (shift_of x) (shift_of y) h))
          (le_trans (le_of_eq (pow-add 2 23 (shift_of y))) (mul-le-mul_right (2 ^ shift_of y) (many y (shift_of x) h)))))

  -- else the mantissas' remainder r counts the units of the smaller exponent, which the value of the word u is one of
  pub reduced_shift : (r u : ℕ) → shift_of y ≤ shift_of x → r ≡ mantissa_of x * 2 ^ (shift_of x - shift_of y) % mantissa_of y → Finite u → negative u ≡ negative a → value_units u ≡ 2 ^ shift_of y
      → mul binary32 (of_int binary32 (pos r)) (of_bits binary32 u) ≡ rem binary32 (of_bits binary32 a) (of_bits binary32 b)
  unfolding of_int
  reduced_shift r u h e fu su vu =
      mul_at binary32 (round binary32 false r 1) (of_bits binary32 u) false (negative u) r (value_units u) 1 (2 ^ 149) (lit< tt) deep (round_whole binary32 false r small) (of_word u fu)
      ∙ ap (λ (s : Bool). round binary32 s (r * value_units u) (1 * 2 ^ 149)) (own_sign (negative u) ∙ su)
      ∙ ap (λ (z : ℕ). round binary32 (negative a) (r * z) (1 * 2 ^ 149)) vu
      ∙ ap (λ (z : ℕ). round binary32 (negative a) (r * 2 ^ shift_of y) z) (one-mul (2 ^ 149))
      ∙ ap (λ (z : ℕ). round binary32 (negative a) z (2 ^ 149)) (sym split)
      ∙ sym by_units
    where
      own_sign : (s : Bool) → unlike false s ≡ s
      own_sign true = refl
      own_sign false = refl

      bound : (z : ℕ) → 0 < z → (0 < mantissa_of z) × (mantissa_of z < 2 ^ 24)
      bound z g = (omega arith, omega arith)

      small : r ≤ 2 ^ 24
      small = le_of_lt (lt_of_le_of_lt (le_of_eq e) (lt_of_lt_of_le (mod-lt (mantissa_of x * 2 ^ (shift_of x - shift_of y)) (bound y pb).0) (le_of_lt (bound y pb).1)))

      split : units_of x % units_of y ≡ r * 2 ^ shift_of y
      split =
          ap (λ (z : ℕ). mantissa_of x * 2 ^ z % units_of y) (sym (back (shift_of x) (shift_of y) h))
          ∙ ap (λ (z : ℕ). mantissa_of x * z % units_of y) (pow-add 2 (shift_of x - shift_of y) (shift_of y))
          ∙ ap (λ (z : ℕ). z % units_of y) (sym (mul_assoc (mantissa_of x) (2 ^ (shift_of x - shift_of y)) (2 ^ shift_of y)))
          ∙ mod_scaled (mantissa_of x * 2 ^ (shift_of x - shift_of y)) (mantissa_of y) (2 ^ shift_of y) (bound y pb).0 (pow_pos (shift_of y))
          ∙ ap (λ (z : ℕ). z * 2 ^ shift_of y) (sym e)

-- ---- the word of 2 ^ s smallest values, with the sign of the word a
pub signed : (p a : ℕ) → p < 0x7f80_0000 → a < 2 ^ 32 → ((p + (a - a % 0x8000_0000)) % 0x8000_0000 ≡ p) × (negative (p + (a - a % 0x8000_0000)) ≡ negative a)
signed p a h k = (
  omega arith,
  same (negative (p + (a - a % 0x8000_0000))) (negative a)
      (λ (t : T (negative (p + (a - a % 0x8000_0000)))). le→leb 0x8000_0000 a (down_to p a h k (leb→le 0x8000_0000 (p + (a - a % 0x8000_0000)) t)))
      (λ (t : T (negative a)). le→leb 0x8000_0000 (p + (a - a % 0x8000_0000)) (up_to p a h k (leb→le 0x8000_0000 a t))),
)
  where
    same : (c d : Bool) → (T c → T d) → (T d → T c) → c ≡ d
    same true true f g = refl
    same true false f g = absurd (f tt)
    same false true f g = absurd (g tt)
    same false false f g = refl

    down_to : (q z : ℕ) → q < 0x7f80_0000 → z < 2 ^ 32 → 0x8000_0000 ≤ q + (z - z % 0x8000_0000) → 0x8000_0000 ≤ z
    down_to q z u v w = omega arith

    up_to : (q z : ℕ) → q < 0x7f80_0000 → z < 2 ^ 32 → 0x8000_0000 ≤ z → 0x8000_0000 ≤ q + (z - z % 0x8000_0000)
    up_to q z u v w = omega arith

below_hidden : (s : ℕ) → s < 23 → 2 ^ s < 0x80_0000
below_hidden s h = lt_of_lt_of_le (pow-lt h) (lit≤ tt)

pub small_word : (s : ℕ) → s < 23 → 1 * 2 ^ s % 2 ^ 32 ≡ 2 ^ s
small_word s h = ap (λ (z : ℕ). z % 2 ^ 32) (one-mul (2 ^ s)) ∙ mod-eq_of_lt (lt_of_lt_of_le (below_hidden s h) (lit≤ tt))

pub small_power : (s : ℕ) → s < 23 → (2 ^ s < 0x7f80_0000) × (units_of (2 ^ s) ≡ 2 ^ s)
small_power s h = (lt_of_lt_of_le (below_hidden s h) (lit≤ tt), first (2 ^ s) (below_hidden s h))
  where
    first : (z : ℕ) → z < 0x80_0000 → units_of z ≡ z
    first z g =
        let i : shift_of z ≡ 0 = omega arith in
        let j : mantissa_of z ≡ z = omega arith in
        ap (λ (k : ℕ). k * 2 ^ shift_of z) j ∙ ap (λ (k : ℕ). z * 2 ^ k) i ∙ mul-one z

pub large_power : (s : ℕ) → 23 ≤ s → units_of ((s - 22) * 0x80_0000) ≡ 2 ^ s
large_power s h =
    let i : shift_of ((s - 22) * 0x80_0000) ≡ s - 23 = shifts s h in
    let j : mantissa_of ((s - 22) * 0x80_0000) ≡ 2 ^ 23 = mantissas s h in
    ap (λ (k : ℕ). k * 2 ^ shift_of ((s - 22) * 0x80_0000)) j
    ∙ ap (λ (k : ℕ). 2 ^ 23 * 2 ^ k) i
    ∙ sym (pow-add 2 23 (s - 23))
    ∙ ap (λ (k : ℕ). 2 ^ k) (whole s h)
  where
    shifts : (z : ℕ) → 23 ≤ z → shift_of ((z - 22) * 0x80_0000) ≡ z - 23
    shifts z g = omega arith

    mantissas : (z : ℕ) → 23 ≤ z → mantissa_of ((z - 22) * 0x80_0000) ≡ 2 ^ 23
    mantissas z g = omega arith

    whole : (z : ℕ) → 23 ≤ z → 23 + (z - 23) ≡ z
    whole z g = omega arith

-- ---- the mantissas' remainder, 32 places at a time: what is left to do with r is what was to be done with a
pub record Reducing (a b k r left : ℕ) : Type 0 where
  pub few : r < 0x100_0000
  pub rest : r * 2 ^ left % b ≡ a * 2 ^ k % b

module _ {a b k r left : ℕ} (s : Reducing a b k r left) where
  -- no place is lost: r has 24 digits
  room : (i : ℕ) → i ≤ 32 → r * 2 ^ i < 2 ^ 64
  room i h = lt_of_lt_of_le (mul-lt-mul_of_pos_right s.few (pow_pos i)) (le_trans (mul-le-mul {n₁ = 2 ^ 24} {n₂ = 2 ^ 24} (lit≤ tt) (pow_mono h)) (lit≤ tt))

  pub step : 32 ≤ left → r * 2 ^ 32 % 2 ^ 64 % b * 2 ^ (left - 32) % b ≡ r * 2 ^ left % b
  step h =
      let i : 32 + (left - 32) ≡ left = omega arith in
      ap (λ (z : ℕ). z % b * 2 ^ (left - 32) % b) (mod-eq_of_lt (room 32 (omega arith)))
      ∙ mul-mod_first (r * 2 ^ 32) (2 ^ (left - 32)) b
      ∙ ap (λ (z : ℕ). z % b) (mul_assoc r (2 ^ 32) (2 ^ (left - 32)) ∙ ap (λ (z : ℕ). r * z) (sym (pow-add 2 32 (left - 32)) ∙ ap (λ (z : ℕ). 2 ^ z) i))

  pub one_reduced : {now : ℕ} → 0 < b → b < 0x100_0000 → 32 ≤ left → now ≡ r * 2 ^ 32 % 2 ^ 64 % b → Reducing a b k now (left - 32)
  one_reduced p l h e = rw e record { few = lt_of_lt_of_le (mod-lt (r * 2 ^ 32 % 2 ^ 64) p) (le_of_lt l); rest = step h ∙ s.rest }

  pub all_reduced : left < 32 → r * 2 ^ left % 2 ^ 64 % b ≡ a * 2 ^ k % b
  all_reduced h = let small : left ≤ 32 = omega arith in ap (λ (z : ℕ). z % b) (mod-eq_of_lt (room left small)) ∙ s.rest

-- ---- the values that are not finite, and zero
word_inf : (w : ℕ) → w % 0x8000_0000 ≡ 0x7f80_0000 → of_bits binary32 w ≡ inf (negative w)
unfolding of_fields
word_inf w h =
    let i : w % 0x8000_0000 / 0x80_0000 ≡ 255 = omega arith in
    let j : w % 0x80_0000 ≡ 0 = omega arith in
    of_bits_is w ∙ ap (λ (e : ℕ). of_fields binary32 (negative w) e (w % 0x80_0000)) i ∙ ap (λ (t : ℕ). of_fields binary32 (negative w) 255 t) j

word_zero : (w : ℕ) → w % 0x8000_0000 ≡ 0 → of_bits binary32 w ≡ fin (negative w) 0 (pos 0)
unfolding of_fields odd
word_zero w h =
    let i : w % 0x8000_0000 / 0x80_0000 ≡ 0 = omega arith in
    let j : w % 0x80_0000 ≡ 0 = omega arith in
    of_bits_is w ∙ ap (λ (e : ℕ). of_fields binary32 (negative w) e (w % 0x80_0000)) i ∙ ap (λ (t : ℕ). of_fields binary32 (negative w) 0 t) j

pub rem_of_endless : (a : ℕ) (y : Float) → 0x7f80_0000 ≤ a % 0x8000_0000 → nan_made ≡ rem binary32 (of_bits binary32 a) y
unfolding rem of_bits
rem_of_endless a y h = go (eq-or-lt_of_le h)
  where
    go : (0x7f80_0000 ≡ a % 0x8000_0000) ⊎ (0x7f80_0000 < a % 0x8000_0000) → nan_made ≡ rem binary32 (of_bits binary32 a) y
    go (inl e) = ap (λ (v : Float). rem binary32 v y) (sym (word_inf a (sym e)))
    go (inr g) = ap (λ (v : Float). rem binary32 v y) (sym (nan_word a g))

pub rem_by_zero : (x : Float) (b : ℕ) → b % 0x8000_0000 ≡ 0 → nan_made ≡ rem binary32 x (of_bits binary32 b)
unfolding rem of_bits
rem_by_zero x b h = go x ∙ ap (λ (v : Float). rem binary32 x v) (sym (word_zero b h))
  where
    go : (v : Float) → nan ≡ rem binary32 v (fin (negative b) 0 (pos 0))
    go nan = refl
    go (inf s) = refl
    go (fin s m e) = refl

pub rem_by_nan : (x : Float) (b : ℕ) → 0x7f80_0000 < b % 0x8000_0000 → nan_made ≡ rem binary32 x (of_bits binary32 b)
unfolding rem of_bits
rem_by_nan x b h = go x ∙ ap (λ (v : Float). rem binary32 x v) (sym (nan_word b h))
  where
    go : (v : Float) → nan ≡ rem binary32 v nan
    go nan = refl
    go (inf s) = refl
    go (fin s m e) = refl

pub rem_by_inf : (a b : ℕ) → Finite a → b % 0x8000_0000 ≡ 0x7f80_0000 → of_bits binary32 a ≡ rem binary32 (of_bits binary32 a) (of_bits binary32 b)
unfolding rem
rem_by_inf a b fa h = go (of_bits binary32 a) (of_word a fa) ∙ ap (λ (v : Float). rem binary32 (of_bits binary32 a) v) (sym (word_inf b h))
  where
    go : (v : Float) → HasValue v (negative a) (value_units a) (2 ^ 149) → v ≡ rem binary32 v (inf (negative b))
    go nan w = absurd w
    go (inf s) w = absurd w
    go (fin s m e) w = refl
