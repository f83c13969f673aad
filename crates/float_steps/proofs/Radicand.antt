-- `sqrt_of` of the value of a word above zero, as the root of a mantissa of 24 digits and a power of two. Assumes nothing.
use Rattle.std.proofs.Common.{◌≡◌, ℕ, suc, ◌+◌, ◌-◌, ◌*◌, ◌/◌, ◌%◌, ◌^◌, ◌<◌, ◌≤◌, Bool, true, false, cond, sym, ap, ◌∙◌, true≢false, le_trans, le_of_eq, lt_of_lt_of_le, lt_of_le_of_lt, mul-le-mul_right, mod-eq_of_lt, mul_assoc, mul-lt-mul_of_pos_right, mul-pos, lt_of_not-le, zero-mul, mul_right_comm, not-le_of_lt, mul-div_cancel, arith, lit≤, pow_pos, pow_mono, pow-add, ne_eqb}
use lib.Count.{count_leading_zeros, leading_top}
use lib.Ieee.{Float, nan, inf, fin, binary32, up, down, of_bits}
use lib.Ieee.Fits.{down_pos}
use lib.Ieee.Exact.{HasValue}
use Rattle.float_steps.specs.Root.{nearest_root, sqrt_of}
use Rattle.float_steps.proofs.Patterns.{small_value, normal_value}

-- ---- `sqrt_of` of a value that is n of the smallest values
nonzero : (m u n d : ℕ) → 0 < n → 0 < d → m * u * 2 ^ 149 ≡ n * d → m ≡ 0 → ⊥
nonzero m u n d N D e z = none (n * d) (mul-pos N D) (sym e ∙ ap (λ (y : ℕ). y * u * 2 ^ 149) z ∙ ap (λ (y : ℕ). y * 2 ^ 149) (zero-mul u) ∙ zero-mul (2 ^ 149))
  where
    none : (y : ℕ) → 0 < y → y ≡ 0 → ⊥
    none y p q = omega arith

pub sqrt_value : (x : Float) (n : ℕ) → 0 < n → HasValue x false n (2 ^ 149) → sqrt_of x ≡ nearest_root (n * 2 ^ 149)
unfolding sqrt_of
sqrt_value nan n N h = absurd h
sqrt_value (inf s) n N h = absurd h
sqrt_value (fin true m e) n N h = absurd (true≢false h.0)
sqrt_value (fin false m e) n N h =
    ap (λ (b : Bool). cond b (fin false m e) (nearest_root (m * up e * 2 ^ 298 / down e))) (ne_eqb m 0 (nonzero m (up e) n (down e) N (down_pos e) h.1))
    ∙ ap (λ (z : ℕ). nearest_root (z / down e)) (sym (mul_assoc (m * up e) (2 ^ 149) (2 ^ 149)) ∙ ap (λ (z : ℕ). z * 2 ^ 149) h.1 ∙ mul_right_comm n (down e) (2 ^ 149))
    ∙ ap nearest_root (mul-div_cancel (n * 2 ^ 149) (down_pos e))

-- ---- a normal value
pub sqrt_normal : (b : ℕ) → 0x80_0000 ≤ b → b < 0x7f80_0000 → sqrt_of (of_bits binary32 b) ≡ nearest_root ((b % 0x80_0000 + 0x80_0000) * 2 ^ (b / 0x80_0000 + 127 + 21))
sqrt_normal b h k =
    let m = 0x80_0000 + b % 0x80_0000 in
    let x = b / 0x80_0000 - 1 in
    sqrt_value (of_bits binary32 b) (m * 2 ^ x) (mul-pos (omega arith) (pow_pos x)) (normal_value b h k)
    ∙ ap nearest_root (mul_assoc m (2 ^ x) (2 ^ 149) ∙ ap (λ (z : ℕ). m * z) (sym (pow-add 2 x 149)) ∙ ap (λ (z : ℕ). m * 2 ^ z) (same b h) ∙ ap (λ (z : ℕ). z * 2 ^ (b / 0x80_0000 + 127 + 21)) (swap (b % 0x80_0000)))
  where
    same : (z : ℕ) → 0x80_0000 ≤ z → z / 0x80_0000 - 1 + 149 ≡ z / 0x80_0000 + 127 + 21
    same z g = omega arith

    swap : (z : ℕ) → 0x80_0000 + z ≡ z + 0x80_0000
    swap z = omega arith

-- ---- a subnormal value: its digits d are moved up by z = count_leading_zeros 32 d - 8 places
pub record Moved (d z : ℕ) : Type 0 where
  pub eight : 8 ≤ count_leading_zeros 32 d
  pub few : z ≤ 23
  pub low : 0x80_0000 ≤ d * 2 ^ z
  pub high : d * 2 ^ z < 0x100_0000

less_than : (i j : ℕ) → 2 ^ i < 2 ^ j → i < j
less_than i j h = lt_of_not-le (λ (g : j ≤ i). not-le_of_lt h (pow_mono g))

pub moved : (d : ℕ) → 0 < d → d < 0x80_0000 → Moved d (count_leading_zeros 32 d - 8)
moved d p h =
    let t = leading_top 32 d p (omega arith) in
    let j = t.0 in
    let jl : j < 23 = less_than j 23 (lt_of_le_of_lt t.2 h) in
    let z = count_leading_zeros 32 d - 8 in
    let zj : j + z ≡ 23 = places (count_leading_zeros 32 d) j t.1 jl in
    record {
      eight = at_least (count_leading_zeros 32 d) j t.1 jl;
      few = most j z zj;
      low = le_trans (le_of_eq (ap (λ (y : ℕ). 2 ^ y) (sym zj) ∙ pow-add 2 j z)) (mul-le-mul_right (2 ^ z) t.2);
      high = lt_of_lt_of_le (mul-lt-mul_of_pos_right t.3 (pow_pos z)) (le_of_eq (sym (pow-add 2 (suc j) z) ∙ ap (λ (y : ℕ). 2 ^ y) (one_more j z zj)));
    }
  where
    places : (l j : ℕ) → l + suc j ≡ 32 → j < 23 → j + (l - 8) ≡ 23
    places l j e g = omega arith

    at_least : (l j : ℕ) → l + suc j ≡ 32 → j < 23 → 8 ≤ l
    at_least l j e g = omega arith

    most : (j z : ℕ) → j + z ≡ 23 → z ≤ 23
    most j z e = omega arith

    one_more : (j z : ℕ) → j + z ≡ 23 → suc j + z ≡ 24
    one_more j z e = omega arith

pub sqrt_small : (b z : ℕ) → 0 < b → b < 0x80_0000 → z ≤ 23 → sqrt_of (of_bits binary32 b) ≡ nearest_root (b * 2 ^ z * 2 ^ (128 - z + 21))
sqrt_small b z p h k =
    sqrt_value (of_bits binary32 b) b p (small_value b h)
    ∙ ap nearest_root (ap (λ (y : ℕ). b * 2 ^ y) (sym (parts z k)) ∙ ap (λ (y : ℕ). b * y) (pow-add 2 z (128 - z + 21)) ∙ sym (mul_assoc b (2 ^ z) (2 ^ (128 - z + 21))))
  where
    parts : (y : ℕ) → y ≤ 23 → y + (128 - y + 21) ≡ 149
    parts y g = omega arith

-- ---- what `root_word` asks and gives, at a word w of a subnormal value
module _ (w : ℕ) (p : 0 < w) (h : w / 0x80_0000 ≡ 0) where
  abbrev d : ℕ
  d = w % 0x80_0000

  abbrev z : ℕ
  z = count_leading_zeros 32 d - 8

  pub here : Moved d z
  here = moved d (omega arith) (omega arith)

  pub shifted : d * 2 ^ z % 2 ^ 32 ≡ d * 2 ^ z
  shifted = mod-eq_of_lt (lt_of_lt_of_le here.high (lit≤ tt))

  pub asked : (0x80_0000 ≤ d * 2 ^ z % 2 ^ 32) × (d * 2 ^ z % 2 ^ 32 < 0x100_0000) × (105 ≤ 128 - z) × (128 - z < 382)
  asked = (le_trans here.low (le_of_eq (sym shifted)), lt_of_le_of_lt (le_of_eq shifted) here.high, most z here.few, least z)
    where
      most : (y : ℕ) → y ≤ 23 → 105 ≤ 128 - y
      most y g = omega arith

      least : (y : ℕ) → 128 - y < 382
      least y = omega arith

  pub given : (r : ℕ) → of_bits binary32 r ≡ nearest_root ((d * 2 ^ z % 2 ^ 32) * 2 ^ (128 - z + 21)) → of_bits binary32 r ≡ sqrt_of (of_bits binary32 w)
  given r e =
      e
      ∙ ap (λ (y : ℕ). nearest_root (y * 2 ^ (128 - z + 21))) shifted
      ∙ sym (sqrt_small d z (omega arith) (omega arith) here.few)
      ∙ ap (λ (y : ℕ). sqrt_of (of_bits binary32 y)) (whole w h)
    where
      whole : (y : ℕ) → y / 0x80_0000 ≡ 0 → y % 0x80_0000 ≡ y
      whole y g = omega arith
