-- Rounding moves a fraction by at most half a unit in the last place that the format keeps. Over numerator, denominator and format. Assumes nothing.
use mathlib.Core.Path.{◌≡◌, sym, ap, ◌∙◌, subst}
use mathlib.Core.Bool.{not}
use Prim.Native.Nat.{ℕ, zero, suc, ◌+◌, ◌-◌, ◌*◌, ◌/◌, ◌%◌, ◌^◌, ◌≤◌, ◌<◌, compare, Ordering}
use native.Mathlib.Nat.{le_of_eq, le_of_lt, zero-lt-suc, div-add-mod', mod-lt, add-mul, zero-mul, one-mul, suc-mul, add-zero, mul_comm, mul_assoc, mul-pos}
use native.Mathlib.Omega.{arith}
use lib.Dec.{T, is_le, leb→le, nleb→lt, compare_is_eq, eqb→eq}
use lib.Pow.{pow_pos}
use lib.Ieee.{Format, prec, low, size, nearest}
use lib.Ieee.Digits.{size-le}
use lib.Ieee.Nearest.{closest}
use lib.Ieee.Order.{drop}
use lib.Ieee.Scale.{grid}
use Rattle.ieee_laws.specs.Size.{Near}

-- ---- the nearest whole number, times the divisor b; r is the remainder, wb the whole part times b
stays : (b r wb : ℕ) → r * 2 ≤ b → Near wb (wb + r) b
stays b r wb h = (omega arith, omega arith)

steps_up : (b r wb : ℕ) → b ≤ r * 2 → r < b → Near (wb + b) (wb + r) b
steps_up b r wb h k = (omega arith, omega arith)

tie : (w b r x : ℕ) → x < 2 → r < b → r * 2 ≡ b → Near ((w + x) * b) (w * b + r) b
tie w b r zero h k e = subst (λ (z : ℕ). Near z (w * b + r) b) (sym (add-mul w 0 b ∙ ap (λ (z : ℕ). w * b + z) (zero-mul b) ∙ add-zero (w * b))) (stays b r (w * b) (le_of_eq e))
tie w b r (suc zero) h k e = subst (λ (z : ℕ). Near z (w * b + r) b) (sym (add-mul w 1 b ∙ ap (λ (z : ℕ). w * b + z) (one-mul b))) (steps_up b r (w * b) (le_of_eq (sym e)) k)
tie w b r (suc (suc x)) h k e = absurd (never x h)
  where
    never : (x : ℕ) → suc (suc x) < 2 → ⊥
    never x h = omega arith

pub closest_near : (a b : ℕ) → 0 < b → Near (closest a b * b) a b
closest_near a b B =
    subst (λ (x : ℕ). Near (closest a b * b) x b) (div-add-mod' a b)
    (go (compare (a % b * 2) b) (leb→le (a % b * 2) b) (nleb→lt (a % b * 2) b) (eqb→eq (a % b * 2) b))
  where
    go : (o : Ordering) → (T (is_le o) → a % b * 2 ≤ b) → (T (not (is_le o)) → b < a % b * 2) → (T (compare_is_eq o) → a % b * 2 ≡ b) → Near (nearest (a / b) o * b) (a / b * b + a % b) b
    go Ordering.lt h k e = stays b (a % b) (a / b * b) (h tt)
    go Ordering.eq h k e = tie (a / b) b (a % b) (a / b % 2) (mod-lt (a / b) (zero-lt-suc 1)) (mod-lt a B) (e tt)
    go Ordering.gt h k e = subst (λ (z : ℕ). Near z (a / b * b + a % b) b) (sym (suc-mul (a / b) b)) (steps_up b (a % b) (a / b * b) (le_of_lt (k tt)) (mod-lt a B))

-- ---- a / c rounded to the format: `grid f a c` of its smallest values, against the a * 2 ^ low / c that are meant. The unit is 2 ^ drop of them.
pub round_near : (f : Format) (a c : ℕ) → 0 < c → Near (grid f a c * c) (a * 2 ^ low f) (c * 2 ^ drop (prec f) (a * 2 ^ low f) c)
round_near f a c C =
    let n = a * 2 ^ low f in
    let k = drop (prec f) n c in
    subst (λ (z : ℕ). Near z n (c * 2 ^ k)) (ap (λ (z : ℕ). closest n (c * 2 ^ k) * z) (mul_comm c (2 ^ k)) ∙ sym (mul_assoc (closest n (c * 2 ^ k)) (2 ^ k) c))
    (closest_near n (c * 2 ^ k) (mul-pos C (pow_pos k)))

-- the unit: below 2 ^ (prec + j) smallest values it is at most 2 ^ j of them
pub unit_at_most : (f : Format) (n c j : ℕ) → n / c < 2 ^ (prec f + j) → drop (prec f) n c ≤ j
unit_at_most f n c j h = room (size (n / c)) (prec f) j (size-le (n / c) (prec f + j) h)
  where
    room : (z p j : ℕ) → z ≤ p + j → z - p ≤ j
    room z p j h = omega arith
