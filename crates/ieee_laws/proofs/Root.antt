-- The square root of a number from 0 to 1, counted in binary32's smallest values, of which M = 2 ^ 149 are 1: it is at most 1, and from a quarter on at
-- least the number itself. Assumes nothing.
use mathlib.Core.Path.{◌≡◌, refl, sym, ap, ◌∙◌, subst}
use mathlib.Core.Logic.{inl, inr}
use mathlib.Core.Bool.{Bool, true, false, cond, true≢false}
use Prim.Native.Nat.{ℕ, zero, suc, ◌+◌, ◌-◌, ◌*◌, ◌/◌, ◌^◌, ◌≤◌, ◌<◌, compare}
use native.Mathlib.Nat.{le_trans, le_of_eq, le_refl, lt_of_lt_of_le, lt_of_le_of_lt, lt_irrefl, zero-lt-suc, mul_assoc, mul_right_comm, mul-mul-mul_comm, mul-le-mul, mul-le-mul_left, mul-le-mul_right, mul-lt-mul_of_pos_right, lt_of_mul-lt-mul_right, le_of_mul-le-mul_right, mul-pos, sub-add_cancel, le-div_iff_mul-le, div-lt_iff_lt-mul, mul-div_cancel, add-mul, one-mul, zero-mul, le_antisymm}
use native.Mathlib.Omega.{arith}
use lib.Dec.{ltb, lit<, lit≤}
use lib.Pow.{pow-add, pow_pos, pow_mono}
use lib.Ieee.{Float, nan, inf, fin, binary32, up, down, size, nearest, units}
use lib.Ieee.Digits.{size-le}
use lib.Ieee.Fits.{nearest-le, down_pos}
use lib.Ieee.Nearest.{nearest-ge}
use lib.Ieee.Exact.{units_val}
use borrow.Author.Tests.{ltb-true, ltb-false, ne_eqb}
use Rattle.ieee_laws.specs.Size.{Counts}
use Rattle.ieee_laws.proofs.Units.{Grain}
use Rattle.float_steps.specs.Root.{root_of, nearest_root, sqrt_of}
use Rattle.float_steps.proofs.WholeRoot.{root_of_is, sq_less, square_twice}
use Rattle.float_steps.proofs.NearestRoot.{dropped_of, below_halfway}

abbrev M : ℕ
M = 2 ^ 149

next : (b : ℕ) → b * b < (b + 1) * (b + 1)
next b = lt_of_le_of_lt (mul-le-mul (le_refl b) (more b)) (mul-lt-mul_of_pos_right (less b) (positive b))
  where
    more : (b : ℕ) → b ≤ b + 1
    more b = omega arith

    less : (b : ℕ) → b < b + 1
    less b = omega arith

    positive : (b : ℕ) → 0 < b + 1
    positive b = omega arith

up_to : (a b : ℕ) → a < b + 1 → a ≤ b
up_to a b h = omega arith

root_le : (a b : ℕ) → a * a ≤ b * b → a ≤ b
root_le a b h = up_to a b (sq_less a (b + 1) (lt_of_le_of_lt h (next b)))

-- ---- the rounded root of n: from the whole root, times the unit 2 ^ k that is kept, up to 1
pub record Rooted (n : ℕ) : Type 0 where
  pub count : ℕ
  pub is : Counts binary32 (nearest_root n) count
  pub most : count ≤ 2 ^ 149
  pub least : root_of (n / (2 ^ dropped_of n * 2 ^ dropped_of n)) * 2 ^ dropped_of n ≤ count

module _ (n : ℕ) (h : n ≤ 2 ^ 298) where
  abbrev k : ℕ
  k = dropped_of n

  abbrev u : ℕ
  u = 2 ^ dropped_of n * 2 ^ dropped_of n

  abbrev q : ℕ
  q = root_of (n / (2 ^ dropped_of n * 2 ^ dropped_of n))

  few : k ≤ 149
  few = dropped (size n) (size-le n 299 (lt_of_le_of_lt h (lit< tt)))
    where
      dropped : (z : ℕ) → z ≤ 299 → (z + 1) / 2 - 24 ≤ 149
      dropped z h = omega arith

  square : q * q * u ≤ n
  square = (le-div_iff_mul-le (mul-pos (pow_pos k) (pow_pos k))).0 (root_of_is (n / u)).0

  whole : q * 2 ^ k ≤ M
  whole = root_le (q * 2 ^ k) M (le_trans (le_of_eq (mul-mul-mul_comm q (2 ^ k) q (2 ^ k))) (le_trans square (le_trans h (le_of_eq (pow-add 2 149 149)))))

  -- 1, as a multiple of the unit
  abbrev Z : ℕ
  Z = 2 ^ (149 - dropped_of n)

  one_is : Z * 2 ^ k ≡ M
  one_is = sym (pow-add 2 (149 - k) k) ∙ ap (λ (z : ℕ). 2 ^ z) (sub-add_cancel few)

  pub rooted : Rooted n
  unfolding nearest_root
  rooted = go (ltb q Z) (ltb-true q Z) (ltb-false q Z)
    where
      val : (w : ℕ) → w * 2 ^ k ≤ M → Counts binary32 (units binary32 false w k) (w * 2 ^ k)
      val w l = units_val binary32 false w k (lt_of_le_of_lt l (lit< tt))

      go : (b : Bool) → (b ≡ true → q < Z) → (b ≡ false → Z ≤ q) → Rooted n
      go true l g =
          let o = compare (4 * n) ((2 * q + 1) * (2 * q + 1) * u) in
          let m : nearest q o * 2 ^ k ≤ M = le_trans (mul-le-mul_right (2 ^ k) (le_trans (nearest-le q o) (l refl))) (le_of_eq one_is) in
          record { count = nearest q o * 2 ^ k; is = val (nearest q o) m; most = m; least = mul-le-mul_right (2 ^ k) (nearest-ge q o) }
      go false l g = record { count = q * 2 ^ k; is = subst (λ (z : Float). Counts binary32 z (q * 2 ^ k)) (sym (below_halfway n q (root_of_is (n / u)) far)) (val q whole); most = whole; least = le_refl (q * 2 ^ k) }
        where
          top : n ≤ q * q * u
          top =
              le_trans h (le_trans (le_of_eq (pow-add 2 149 149)) (le_trans (mul-le-mul one one) (le_of_eq (mul-mul-mul_comm q (2 ^ k) q (2 ^ k)))))
            where
              one : M ≤ q * 2 ^ k
              one = le_trans (le_of_eq (sym one_is)) (mul-le-mul_right (2 ^ k) (g refl))

          far : 4 * n < (2 * q + 1) * (2 * q + 1) * u
          far =
              lt_of_le_of_lt (le_trans (mul-le-mul_left 4 top) (le_of_eq (sym (mul_assoc 4 (q * q) u) ∙ ap (λ (z : ℕ). z * u) (sym (square_twice q)))))
              (mul-lt-mul_of_pos_right (next (2 * q)) (mul-pos (pow_pos k) (pow_pos k)))

-- ---- the root of a / M, for a from a quarter of M to M, is at least a
-- the whole root, and one more of the unit, is above the root
above : (n : ℕ) → n < (root_of (n / (2 ^ dropped_of n * 2 ^ dropped_of n)) + 1) * 2 ^ dropped_of n * ((root_of (n / (2 ^ dropped_of n * 2 ^ dropped_of n)) + 1) * 2 ^ dropped_of n)
above n =
    let K = 2 ^ dropped_of n in
    let q = root_of (n / (K * K)) in
    lt_of_lt_of_le ((div-lt_iff_lt-mul (mul-pos (pow_pos (dropped_of n)) (pow_pos (dropped_of n)))).0 (root_of_is (n / (K * K))).1) (le_of_eq (mul-mul-mul_comm (q + 1) (q + 1) K K))

module _ (a : ℕ) (h : a ≤ 2 ^ 149) where
  abbrev n : ℕ
  n = a * 2 ^ 149

  abbrev K : ℕ
  K = 2 ^ dropped_of (a * 2 ^ 149)

  abbrev r : ℕ
  r = root_of (a * 2 ^ 149 / (2 ^ dropped_of (a * 2 ^ 149) * 2 ^ dropped_of (a * 2 ^ 149)))

  -- a multiple of the unit
  multiple : (j : ℕ) → a ≡ j * K → a ≤ r * K
  multiple j e =
      let under : a < (r + 1) * K = sq_less a ((r + 1) * K) (lt_of_le_of_lt (mul-le-mul_left a h) (above n)) in
      le_trans (le_of_eq e) (mul-le-mul_right K (up_to j r (lt_of_mul-lt-mul_right K (lt_of_le_of_lt (le_of_eq (sym e)) under))))

  -- up to a half
  lower : K ≤ 2 ^ 125 → 2 ^ 147 ≤ a → a ≤ 2 ^ 148 → a ≤ r * K
  lower small l m =
      under (sq_less (a + K) ((r + 1) * K) (lt_of_le_of_lt (le_trans (mul-le-mul (le_refl (a + K)) (less a K (2 ^ 148) (2 ^ 125) m small)) room) (above n)))
    where
      less : (a k b c : ℕ) → a ≤ b → k ≤ c → a + k ≤ b + c
      less a k b c h g = omega arith

      under : a + K < (r + 1) * K → a ≤ r * K
      under l = by a K (r * K) ((r + 1) * K) (add-mul r 1 K ∙ ap (λ (z : ℕ). r * K + z) (one-mul K)) l
        where
          by : (a k x y : ℕ) → y ≡ x + k → a + k < y → a ≤ x
          by a k x y e l = omega arith

      -- a + K is at most 3 / 2 of a, and a half and a unit at most 5 / 4 of a half
      room : (a + K) * (2 ^ 148 + 2 ^ 125) ≤ a * 2 ^ 149
      room =
          le_of_mul-le-mul_right
          (le_trans (le_of_eq (mul-mul-mul_comm (a + K) (2 ^ 148 + 2 ^ 125) 2 4))
          (le_trans (mul-le-mul (wide a K (2 ^ 125) (2 ^ 147) small l (lit≤ tt)) (lit≤ tt))
          (le_trans (le_of_eq (mul-mul-mul_comm a 3 (2 ^ 148) 5))
          (le_trans (mul-le-mul_left (a * 2 ^ 148) (lit≤ tt)) (le_of_eq (mul_assoc a (2 ^ 148) 16 ∙ sym (mul_assoc a (2 ^ 149) 8)))))))
          (zero-lt-suc 7)
        where
          wide : (a k c d : ℕ) → k ≤ c → d ≤ a → 2 * c ≤ d → (a + k) * 2 ≤ a * 3
          wide a k c d g h i = omega arith

  pub under_one : a * 2 ^ 149 ≤ 2 ^ 298
  under_one = le_trans (mul-le-mul_right (2 ^ 149) h) (lit≤ tt)

  pub root_least : 2 ^ 147 ≤ a → Grain binary32 124 a → a ≤ (rooted (a * 2 ^ 149) under_one).count
  root_least l f = le_trans (go (ltb a M) (ltb-true a M) (ltb-false a M) f) (rooted n under_one).least
    where
      unit : a < M → dropped_of n ≤ 125
      unit g = dropped (size n) (size-le n 298 (lt_of_lt_of_le (mul-lt-mul_of_pos_right g (pow_pos 149)) (lit≤ tt)))
        where
          dropped : (z : ℕ) → z ≤ 298 → (z + 1) / 2 - 24 ≤ 125
          dropped z h = omega arith

      go : (b : Bool) → (b ≡ true → a < M) → (b ≡ false → M ≤ a) → Grain binary32 124 a → a ≤ r * K
      go true g i (inl few) = lower (pow_mono (unit (g refl))) l (le_trans (more a (2 ^ 124)) (le_trans few (lit≤ tt)))
        where
          more : (a b : ℕ) → a ≤ a + b
          more a b = omega arith
      go true g i (inr (j, e)) =
          let k = dropped_of n in
          multiple (j * 2 ^ (125 - k)) (e ∙ ap (λ (z : ℕ). j * z) (ap (λ (z : ℕ). 2 ^ z) (sym (sub-add_cancel (unit (g refl)))) ∙ pow-add 2 (125 - k) k) ∙ sym (mul_assoc j (2 ^ (125 - k)) (2 ^ k)))
      go false g i f = multiple (2 ^ (149 - dropped_of n)) (le_antisymm h (i refl) ∙ sym (one_is n under_one))

-- ---- of a value x with the count a
pub sqrt_is : (x : Float) (a : ℕ) → Counts binary32 x a → 0 < a → sqrt_of x ≡ nearest_root (a * 2 ^ 149)
unfolding sqrt_of
sqrt_is nan a v p = absurd v
sqrt_is (inf s) a v p = absurd v
sqrt_is (fin true m e) a v p = absurd (true≢false v.0)
sqrt_is (fin false zero e) a v p = absurd (lt_irrefl 0 (lt_of_lt_of_le (mul-pos p (down_pos e)) (le_of_eq (sym v.1 ∙ ap (λ (z : ℕ). z * 2 ^ 149) (zero-mul (up e)) ∙ zero-mul (2 ^ 149)))))
sqrt_is (fin false (suc m) e) a v p =
    (λ i. cond (ne_eqb (suc m) 0 (no m) i) (fin false (suc m) e) (nearest_root (suc m * up e * 2 ^ 298 / down e)))
    ∙ ap nearest_root (ap (λ (z : ℕ). z / down e) (ap (λ (z : ℕ). suc m * up e * z) (pow-add 2 149 149) ∙ sym (mul_assoc (suc m * up e) (2 ^ 149) (2 ^ 149)) ∙ ap (λ (z : ℕ). z * 2 ^ 149) v.1 ∙ mul_right_comm a (down e) (2 ^ 149)) ∙ mul-div_cancel (a * 2 ^ 149) (down_pos e))
  where
    no : (m : ℕ) → suc m ≡ 0 → ⊥
    no m e = lt_irrefl 0 (subst (λ (z : ℕ). 0 < z) e (zero-lt-suc m))
