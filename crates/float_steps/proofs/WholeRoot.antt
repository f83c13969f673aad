-- Whole-number square roots: r is `root_of n` exactly when r * r ≤ n < (r + 1) * (r + 1). Assumes nothing.
use Rattle.std.proofs.Common.{◌≡◌, ℕ, zero, suc, ◌+◌, ◌*◌, ◌/◌, ◌^◌, ◌<◌, ◌≤◌, Bool, true, false, cond, not, T, leb, sym, ap, ◌∙◌, subst, le_trans, le_of_eq, lt_of_lt_of_le, lt_of_le_of_lt, mul_assoc, mul-le-mul, le_antisymm, lt_of_not-le, not-le_of_lt, mul_left_comm, arith, leb→le}
use native.Mathlib.Nat.{pow-succ'}
use lib.Dec.{nleb→lt}
use lib.Ieee.{size}
use lib.Ieee.Digits.{size-lt}
use Rattle.float_steps.specs.Root.{IsRoot, grown, root_by, root_of}

pub sq_mono : {a b : ℕ} → a ≤ b → a * a ≤ b * b
sq_mono h = mul-le-mul h h

-- a square that is smaller is a smaller number's
pub sq_less : (a b : ℕ) → a * a < b * b → a < b
sq_less a b h = lt_of_not-le (λ (g : b ≤ a). not-le_of_lt h (sq_mono g))

pub up_to : (a b : ℕ) → a < b + 1 → a ≤ b
up_to a b h = omega arith

pub sq_unique : (a b n : ℕ) → IsRoot a n → IsRoot b n → a ≡ b
sq_unique a b n p q = le_antisymm (up_to a b (sq_less a (b + 1) (lt_of_le_of_lt p.0 q.1))) (up_to b a (sq_less b (a + 1) (lt_of_le_of_lt q.0 p.1)))

-- ---- the squares of twice a number, and of one and two more than that
pub square_twice : (s : ℕ) → 2 * s * (2 * s) ≡ 4 * (s * s)
square_twice s = simp (mul_assoc, mul_left_comm) (sym (mul_assoc 2 2 (s * s)))

square_next : (s : ℕ) → (2 * s + 1 + 1) * (2 * s + 1 + 1) ≡ 4 * ((s + 1) * (s + 1))
square_next s = ap (λ (z : ℕ). z * z) (twice s) ∙ square_twice (s + 1)
  where
    twice : (x : ℕ) → 2 * x + 1 + 1 ≡ 2 * (x + 1)
    twice x = omega arith

-- the step from s, the root of n / 4, to the root of n
step : (n s : ℕ) → IsRoot s (n / 4) → IsRoot (grown n (2 * s)) n
step n s p = go (leb ((2 * s + 1) * (2 * s + 1)) n) (leb→le ((2 * s + 1) * (2 * s + 1)) n) (nleb→lt ((2 * s + 1) * (2 * s + 1)) n)
  where
    low : 2 * s * (2 * s) ≤ n
    low = le_trans (le_of_eq (square_twice s)) (four (s * s) p.0)
      where
        four : (z : ℕ) → z ≤ n / 4 → 4 * z ≤ n
        four z h = omega arith

    high : n < (2 * s + 1 + 1) * (2 * s + 1 + 1)
    high = lt_of_lt_of_le (four ((s + 1) * (s + 1)) p.1) (le_of_eq (sym (square_next s)))
      where
        four : (z : ℕ) → n / 4 < z → n < 4 * z
        four z h = omega arith

    go : (b : Bool) → (T b → (2 * s + 1) * (2 * s + 1) ≤ n) → (T (not b) → n < (2 * s + 1) * (2 * s + 1)) → IsRoot (cond b (2 * s + 1) (2 * s)) n
    go true h k = (h tt, high)
    go false h k = (low, k tt)

pub root_by_is : (d n : ℕ) → n < 2 ^ d → IsRoot (root_by d n) n
unfolding root_by
root_by_is zero n h = (omega arith, h)
root_by_is (suc d) n h = step n (root_by d (n / 4)) (root_by_is d (n / 4) (quarter n (2 ^ d) (lt_of_lt_of_le h (le_of_eq (pow-succ' 2 d)))))
  where
    quarter : (x y : ℕ) → x < 2 * y → x / 4 < y
    quarter x y g = omega arith

pub root_of_is : (n : ℕ) → IsRoot (root_of n) n
unfolding root_of
root_of_is n = root_by_is (size n) n (size-lt n)

-- in plain words: r is the whole root of n exactly when r * r ≤ n < (r + 1) * (r + 1)
pub root_exactly : (r n : ℕ) → (root_of n ≡ r → IsRoot r n) × (IsRoot r n → root_of n ≡ r)
root_exactly r n = (λ (e : root_of n ≡ r). subst (λ (x : ℕ). IsRoot x n) e (root_of_is n), λ (p : IsRoot r n). sq_unique (root_of n) r n (root_of_is n) p)
