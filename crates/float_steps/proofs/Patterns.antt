-- Words and the values they stand for: they undo each other, and what a word below the sign's weight is worth. Assumes nothing.
use Rattle.std.proofs.Common.{◌≡◌, ℕ, suc, ◌+◌, ◌-◌, ◌*◌, ◌/◌, ◌%◌, ◌^◌, ◌<◌, ◌≤◌, Bool, true, false, cond, not, T, eqb, ltb, leb, sym, refl, ap, ◌∙◌, subst, true≢false, le_trans, le_of_eq, lt_of_lt_of_le, lt_of_le_of_lt, le_of_lt, mul-le-mul_right, mod-eq_of_lt, mul-le-mul, mul-lt-mul_of_pos_right, lt_of_not-le, mul-one, not-le_of_lt, mul-div_cancel, arith, lit<, lit≤, eqb→eq, lt→ltb, leb→le, pow_pos, pow_mono, pow-add}
use lib.Dec.{not_T}
use lib.Ieee.{Float, nan, inf, fin, binary32, down, size, odd, units, of_fields, of_bits, to_bits, fits}
use lib.Ieee.Digits.{size-lt, size-le}
use lib.Ieee.Fits.{down_pos, odd-fits}
use lib.Ieee.Bits.{of_bits-to_bits, to_bits-of_bits, nan_bits_is, is_true, is_false, cond_no}
use lib.Ieee.Exact.{HasValue, odd_sign, units_val}
use Rattle.float_steps.specs.Words.{value_of, word_of}
use Rattle.float_steps.proofs.Nan.{not_nan_word, nan_word}

-- ---- words and values undo each other; every value that an `f32` holds passes `fits`
pub value_of_word : (v : Float) → T (fits binary32 v) → value_of (word_of v) ≡ v
value_of_word v f = of_bits-to_bits binary32 v f

-- a word that is no NaN pattern comes back as it was
pub word_of_value : (w : ℕ) → w < 2 ^ 32 → w % 0x8000_0000 ≤ 0x7f80_0000 → word_of (value_of w) ≡ w
word_of_value w h n = to_bits-of_bits binary32 w h (subst (λ (b : Bool). T (not b)) (nan_bits_is binary32 w) (not_nan_word w n))

-- and one that is comes back as 7FC00000
pub word_of_nan : (w : ℕ) → 0x7f80_0000 < w % 0x8000_0000 → word_of (value_of w) ≡ 0x7fc0_0000
unfolding to_bits
word_of_nan w h = ap word_of (nan_word w h)

-- ---- what a word stands for
pub of_bits_is : (b : ℕ) → of_bits binary32 b ≡ of_fields binary32 (leb 0x8000_0000 b) (b % 0x8000_0000 / 0x80_0000) (b % 0x80_0000)
unfolding of_bits
of_bits_is b = refl

sign_clear : (b : ℕ) → b < 0x8000_0000 → of_bits binary32 b ≡ of_fields binary32 false (b / 0x80_0000) (b % 0x80_0000)
sign_clear b h =
    of_bits_is b
    ∙ ap (λ (s : Bool). of_fields binary32 s (b % 0x8000_0000 / 0x80_0000) (b % 0x80_0000)) (is_false (leb 0x8000_0000 b) (not_T (leb 0x8000_0000 b) (λ (t : T (leb 0x8000_0000 b)). not-le_of_lt h (leb→le 0x8000_0000 b t))))
    ∙ ap (λ (x : ℕ). of_fields binary32 false (x / 0x80_0000) (b % 0x80_0000)) (mod-eq_of_lt h)

small_fields : (t : ℕ) → of_fields binary32 false 0 t ≡ odd 24 false t 0 149
unfolding of_fields
small_fields t = refl

under_ones : (t x : ℕ) → suc x < 255 → of_fields binary32 false (suc x) t ≡ odd 24 false (0x80_0000 + t) x 149
unfolding of_fields
under_ones t x h = cond_no (eqb (suc x) 255) (cond (eqb t 0) (inf false) nan) (odd 24 false (0x80_0000 + t) x 149) (not_T (eqb (suc x) 255) (λ (u : T (eqb (suc x) 255)). differ x h (eqb→eq (suc x) 255 u)))
  where
    differ : (z : ℕ) → suc z < 255 → suc z ≡ 255 → ⊥
    differ z g e = omega arith

pub small_value : (b : ℕ) → b < 0x80_0000 → HasValue (of_bits binary32 b) false b (2 ^ 149)
small_value b h =
    let e : of_bits binary32 b ≡ odd 24 false b 0 149 =
    sign_clear b (omega arith) ∙ ap (λ (x : ℕ). of_fields binary32 false x (b % 0x80_0000)) (none b h) ∙ ap (λ (t : ℕ). of_fields binary32 false 0 t) (mod-eq_of_lt h) ∙ small_fields b in
    subst (λ (z : ℕ). HasValue (of_bits binary32 b) false z (2 ^ 149)) (mul-one b) (subst (λ (v : Float). HasValue v false (b * 2 ^ 0) (2 ^ 149)) (sym e) (odd_sign 24 false b 0 149))
  where
    none : (z : ℕ) → z < 0x80_0000 → z / 0x80_0000 ≡ 0
    none z g = omega arith

pub normal_value : (b : ℕ) → 0x80_0000 ≤ b → b < 0x7f80_0000 → HasValue (of_bits binary32 b) false ((0x80_0000 + b % 0x80_0000) * 2 ^ (b / 0x80_0000 - 1)) (2 ^ 149)
normal_value b h k =
    let e : of_bits binary32 b ≡ odd 24 false (0x80_0000 + b % 0x80_0000) (b / 0x80_0000 - 1) 149 =
    sign_clear b (omega arith) ∙ ap (λ (x : ℕ). of_fields binary32 false x (b % 0x80_0000)) (sym (some b h)) ∙ under_ones (b % 0x80_0000) (b / 0x80_0000 - 1) (few b h k) in
    subst (λ (v : Float). HasValue v false ((0x80_0000 + b % 0x80_0000) * 2 ^ (b / 0x80_0000 - 1)) (2 ^ 149)) (sym e) (odd_sign 24 false (0x80_0000 + b % 0x80_0000) (b / 0x80_0000 - 1) 149)
  where
    some : (z : ℕ) → 0x80_0000 ≤ z → suc (z / 0x80_0000 - 1) ≡ z / 0x80_0000
    some z g = omega arith

    few : (z : ℕ) → 0x80_0000 ≤ z → z < 0x7f80_0000 → suc (z / 0x80_0000 - 1) < 255
    few z g f = omega arith

-- ---- how many digits a number has
pub size_gt : (n j : ℕ) → 2 ^ j ≤ n → j < size n
size_gt n j h = lt_of_not-le (λ (g : size n ≤ j). not-le_of_lt (lt_of_lt_of_le (size-lt n) (pow_mono g)) h)

-- ---- the word of a value that is n of the smallest values
pub to_bits_value : (v : Float) (n : ℕ) → HasValue v false n (2 ^ 149) → to_bits binary32 v ≡ (size n - 24) * 0x80_0000 + n / 2 ^ (size n - 24)
unfolding to_bits
to_bits_value nan n h = absurd h
to_bits_value (inf s) n h = absurd h
to_bits_value (fin true m e) n h = absurd (true≢false h.0)
to_bits_value (fin false m e) n h =
    ap (λ (z : ℕ). 0 + (size z - 24) * 0x80_0000 + z / 2 ^ (size z - 24)) (ap (λ (z : ℕ). z / down e) h.1 ∙ mul-div_cancel n (down_pos e))
    ∙ ap (λ (z : ℕ). z + n / 2 ^ (size n - 24)) (nought ((size n - 24) * 0x80_0000))
  where
    nought : (z : ℕ) → 0 + z ≡ z
    nought z = omega arith

-- q * 2 ^ k of the smallest values, q having 24 digits: its word
module _ (q k : ℕ) (lo : 2 ^ 23 ≤ q) (hi : q < 2 ^ 24) (few : k ≤ 200) where
  under : q * 2 ^ k < 2 ^ 277
  under = lt_of_le_of_lt (mul-le-mul (le_of_lt hi) (pow_mono few)) (lit< tt)

  digits : size (q * 2 ^ k) ≡ 24 + k
  digits =
      both (size (q * 2 ^ k))
      (size-le (q * 2 ^ k) (24 + k) (lt_of_lt_of_le (mul-lt-mul_of_pos_right hi (pow_pos k)) (le_of_eq (sym (pow-add 2 24 k)))))
      (size_gt (q * 2 ^ k) (23 + k) (le_trans (le_of_eq (pow-add 2 23 k)) (mul-le-mul_right (2 ^ k) lo)))
    where
      both : (z : ℕ) → z ≤ 24 + k → 23 + k < z → z ≡ 24 + k
      both z a b = omega arith

  units_is : units binary32 false q k ≡ odd 25 false q k 149
  unfolding units
  units_is = ap (λ (b : Bool). cond b (odd 25 false q k 149) (inf false)) (is_true (ltb (q * 2 ^ k) (2 ^ 277)) (lt→ltb (q * 2 ^ k) (2 ^ 277) under))

  units_fits : T (fits binary32 (units binary32 false q k))
  units_fits = subst (λ (v : Float). T (fits binary32 v)) (sym units_is) (odd-fits binary32 25 false q k (lt_of_lt_of_le hi (lit≤ tt)) (le_of_lt hi) under)

  units_word : to_bits binary32 (units binary32 false q k) ≡ k * 0x80_0000 + q
  units_word =
      to_bits_value (units binary32 false q k) (q * 2 ^ k) (units_val binary32 false q k under)
      ∙ ap (λ (z : ℕ). z * 0x80_0000 + q * 2 ^ k / 2 ^ z) (ap (λ (z : ℕ). z - 24) digits ∙ taken k)
      ∙ ap (λ (z : ℕ). k * 0x80_0000 + z) (mul-div_cancel q (pow_pos k))
    where
      taken : (z : ℕ) → 24 + z - 24 ≡ z
      taken z = omega arith

  pub word_units : of_bits binary32 (k * 0x80_0000 + q) ≡ units binary32 false q k
  word_units = ap (λ (w : ℕ). of_bits binary32 w) (sym units_word) ∙ of_bits-to_bits binary32 (units binary32 false q k) units_fits
