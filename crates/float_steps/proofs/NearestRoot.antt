-- `nearest_root`: how it rounds, in plain words, and how the code works it out from the whole root of a radicand of 49 or 50 digits. Assumes nothing.
use Rattle.std.proofs.Common.{◌≡◌, ℕ, zero, suc, ◌+◌, ◌-◌, ◌*◌, ◌/◌, ◌%◌, ◌^◌, ◌<◌, ◌≤◌, false, not, T, eqb, sym, refl, ap, ◌∙◌, subst, le_trans, le_of_eq, lt_of_lt_of_le, lt_of_le_of_lt, le_of_lt, mul-le-mul_right, mul_assoc, mul_comm, add-mul, mul-le-mul, mul-lt-mul_of_pos_right, mul-pos, one-mul, lt_of_not-le, not-le_of_lt, le_of_mul-le-mul_right, mul_left_comm, arith, lit<, lit≤, eqb→eq, leb→le, pow_pos, pow-add}
use Prim.Native.Nat.{compare, Ordering}
use native.Mathlib.Nat.{mul-div-mul_right, mul-mod_right, eq_of_mul-eq-mul_right}
use lib.Arith.{lt_of_le-ne}
use lib.Dec.{is_le, compare_is_eq, nleb→lt, eqb_refl}
use lib.Ieee.{binary32, size, nearest, units, of_bits}
use lib.Ieee.Digits.{size-le}
use Rattle.float_steps.specs.Root.{IsRoot, nearest_root}
use Rattle.float_steps.proofs.Patterns.{size_gt, word_units}
use Rattle.float_steps.proofs.WholeRoot.{sq_mono, sq_less, square_twice, root_exactly, up_to}

-- ---- what `compare` says
abbrev Cmp : Ordering → ℕ → ℕ → Type 0
Cmp Ordering.lt a b = a < b
Cmp Ordering.eq a b = a ≡ b
Cmp Ordering.gt a b = b < a

cmp : (a b : ℕ) → Cmp (compare a b) a b
cmp a b = go (compare a b) (leb→le a b) (nleb→lt a b) (eqb→eq a b) (λ (e : a ≡ b). subst (λ (x : ℕ). T (eqb a x)) e (eqb_refl a))
  where
    go : (o : Ordering) → (T (is_le o) → a ≤ b) → (T (not (is_le o)) → b < a) → (T (compare_is_eq o) → a ≡ b) → (a ≡ b → T (compare_is_eq o)) → Cmp o a b
    go Ordering.lt h k e n = lt_of_le-ne (h tt) n
    go Ordering.eq h k e n = e tt
    go Ordering.gt h k e n = k tt

-- only one of the three holds
same : (o p : Ordering) (a b : ℕ) → Cmp o a b → Cmp p a b → o ≡ p
same Ordering.lt Ordering.lt a b c d = refl
same Ordering.lt Ordering.eq a b c d = absurd (omega arith)
same Ordering.lt Ordering.gt a b c d = absurd (omega arith)
same Ordering.eq Ordering.lt a b c d = absurd (omega arith)
same Ordering.eq Ordering.eq a b c d = refl
same Ordering.eq Ordering.gt a b c d = absurd (omega arith)
same Ordering.gt Ordering.lt a b c d = absurd (omega arith)
same Ordering.gt Ordering.eq a b c d = absurd (omega arith)
same Ordering.gt Ordering.gt a b c d = refl

-- ---- How `nearest_root` rounds, in plain words. The root of n has 24 digits that are kept, the whole number q, and k that are dropped: q * 2 ^ k is at most
-- the root, (q + 1) * 2 ^ k is above it, and h = (2 * q + 1) * 2 ^ k is twice the number half way between. Where 4 * n is below the square of h the result is
-- q, where it is above q + 1, and where it equals it the even one of the two; each times 2 ^ k smallest values of the format.
abbrev pub dropped_of : ℕ → ℕ
dropped_of n = (size n + 1) / 2 - 24

module _ (n q : ℕ) (whole : IsRoot q (n / (2 ^ dropped_of n * 2 ^ dropped_of n))) where
  abbrev halfway : ℕ
  halfway = (2 * q + 1) * (2 * q + 1) * (2 ^ dropped_of n * 2 ^ dropped_of n)

  rounded : nearest_root n ≡ units binary32 false (nearest q (compare (4 * n) halfway)) (dropped_of n)
  unfolding nearest_root
  rounded = rw ((root_exactly q (n / (2 ^ dropped_of n * 2 ^ dropped_of n))).1 whole)

  compared : (o : Ordering) → Cmp o (4 * n) halfway → compare (4 * n) halfway ≡ o
  compared o c = same (compare (4 * n) halfway) o (4 * n) halfway (cmp (4 * n) halfway) c

  pub below_halfway : 4 * n < halfway → nearest_root n ≡ units binary32 false q (dropped_of n)
  below_halfway h = rounded ∙ rw (compared Ordering.lt h)

  pub at_halfway : 4 * n ≡ halfway → nearest_root n ≡ units binary32 false (q + q % 2) (dropped_of n)
  at_halfway h = rounded ∙ rw (compared Ordering.eq h)

  pub above_halfway : halfway < 4 * n → nearest_root n ≡ units binary32 false (suc q) (dropped_of n)
  above_halfway h = rounded ∙ rw (compared Ordering.gt h)

-- ---- the root of n = R * 4 ^ h, for an even R of 49 or 50 digits, from the whole root r of R
module _ (R r h : ℕ) (even : R % 2 ≡ 0) (lo : 2 ^ 48 ≤ R) (hi : R ≤ 0x3_ffff_fc00_0000) (few : h ≤ 199) (is : IsRoot r R) where
  -- r has 25 digits, and (r + 1) / 2 has 24
  r_lo : 2 ^ 24 ≤ r
  r_lo = up_to (2 ^ 24) r (sq_less (2 ^ 24) (r + 1) (lt_of_le_of_lt (le_trans (lit≤ tt) lo) is.1))

  -- 2 ^ 50 - 2 ^ 26 is below the square of 2 ^ 25 - 1
  pub r_hi : r < 0x1ff_ffff
  r_hi = sq_less r 0x1ff_ffff (lt_of_le_of_lt is.0 (lt_of_le_of_lt hi (lit< tt)))

  abbrev q : ℕ
  q = r / 2

  abbrev u : ℕ
  u = 2 ^ h * 2 ^ h

  u_pos : 0 < u
  u_pos = mul-pos (pow_pos h) (pow_pos h)

  abbrev n : ℕ
  n = R * u

  u_is : u ≡ 2 ^ (h + h)
  u_is = sym (pow-add 2 h h)

  n_hi : n < 2 ^ (50 + (h + h))
  n_hi = lt_of_lt_of_le (mul-lt-mul_of_pos_right (lt_of_le_of_lt hi (lit< {n = 2 ^ 50} tt)) u_pos) (le_of_eq (ap (λ (z : ℕ). 2 ^ 50 * z) u_is ∙ sym (pow-add 2 50 (h + h))))

  n_lo : 2 ^ (48 + (h + h)) ≤ n
  n_lo = le_trans (le_of_eq (pow-add 2 48 (h + h) ∙ ap (λ (z : ℕ). 2 ^ 48 * z) (sym u_is))) (mul-le-mul_right u lo)

  dropped : dropped_of n ≡ h + 1
  dropped = half (size n) (size-le n (50 + (h + h)) n_hi) (size_gt n (48 + (h + h)) n_lo)
    where
      half : (z : ℕ) → z ≤ 50 + (h + h) → 48 + (h + h) < z → (z + 1) / 2 - 24 ≡ h + 1
      half z a b = omega arith

  -- 4 ^ (h + 1)
  u4 : 2 ^ (h + 1) * 2 ^ (h + 1) ≡ 4 * u
  u4 = ap (λ (z : ℕ). z * z) (pow-add 2 h 1 ∙ mul_comm (2 ^ h) 2) ∙ square_twice (2 ^ h)

  quarter : n / (2 ^ (h + 1) * 2 ^ (h + 1)) ≡ R / 4
  quarter = ap (λ (z : ℕ). n / z) u4 ∙ mul-div-mul_right R 4 u_pos

  half_root : IsRoot q (R / 4)
  half_root = (
    four_le (q * q) (le_trans (le_of_eq (sym (square_twice q))) (le_trans (sq_mono (below r)) is.0)),
    four_lt ((q + 1) * (q + 1)) (lt_of_lt_of_le is.1 (le_trans (sq_mono (above r)) (le_of_eq (square_twice (q + 1))))),
  )
    where
      below : (z : ℕ) → 2 * (z / 2) ≤ z
      below z = omega arith

      above : (z : ℕ) → z + 1 ≤ 2 * (z / 2 + 1)
      above z = omega arith

      four_le : (z : ℕ) → 4 * z ≤ R → z ≤ R / 4
      four_le z g = omega arith

      four_lt : (z : ℕ) → R < 4 * z → R / 4 < z
      four_lt z g = omega arith

  -- the comparison with the square half way, less the factor 4 * u
  abbrev mid : ℕ
  mid = (2 * q + 1) * (2 * q + 1)

  left : 4 * n ≡ R * (4 * u)
  left = mul_left_comm 4 R u

  picked : (o : Ordering) → Cmp o (4 * n) (mid * (4 * u)) → nearest q o ≡ (r + 1) / 2
  picked Ordering.lt c = down_half r (sq_less r (2 * q + 1) (lt_of_le_of_lt is.0 (lt_cancel (subst (λ (z : ℕ). z < mid * (4 * u)) left c))))
    where
      lt_cancel : R * (4 * u) < mid * (4 * u) → R < mid
      lt_cancel g = lt_of_not-le (λ (f : mid ≤ R). not-le_of_lt g (mul-le-mul_right (4 * u) f))

      down_half : (z : ℕ) → z < 2 * (z / 2) + 1 → z / 2 ≡ (z + 1) / 2
      down_half z g = omega arith
  picked Ordering.eq c = absurd (parity R q even (eq_of_mul-eq-mul_right (4 * u) (mul-pos (lit< tt) u_pos) R mid (sym left ∙ c)))
    where
      parity : (x y : ℕ) → x % 2 ≡ 0 → x ≡ (2 * y + 1) * (2 * y + 1) → ⊥
      parity x y e g = odd_even x (y * (2 * y + 1)) e (g ∙ spread y)
        where
          spread : (z : ℕ) → (2 * z + 1) * (2 * z + 1) ≡ 2 * (z * (2 * z + 1)) + (2 * z + 1)
          spread z = add-mul (2 * z) 1 (2 * z + 1) ∙ ap (λ (w : ℕ). w + 1 * (2 * z + 1)) (mul_assoc 2 z (2 * z + 1)) ∙ ap (λ (w : ℕ). 2 * (z * (2 * z + 1)) + w) (one-mul (2 * z + 1))

          odd_even : (a b : ℕ) → a % 2 ≡ 0 → a ≡ 2 * b + (2 * y + 1) → ⊥
          odd_even a b p f = omega arith
  picked Ordering.gt c = up_half r (sq_less (2 * q + 1) (r + 1) (lt_of_le_of_lt (gt_cancel (subst (λ (z : ℕ). mid * (4 * u) < z) left c)) is.1))
    where
      gt_cancel : mid * (4 * u) < R * (4 * u) → mid ≤ R
      gt_cancel g = le_of_mul-le-mul_right (le_of_lt g) (mul-pos (lit< tt) u_pos)

      up_half : (z : ℕ) → 2 * (z / 2) + 1 < z + 1 → suc (z / 2) ≡ (z + 1) / 2
      up_half z g = omega arith

  nearest_is : nearest_root n ≡ units binary32 false ((r + 1) / 2) (h + 1)
  nearest_is =
      rounded n q (subst (λ (z : ℕ). IsRoot q z) (sym (ap (λ (k : ℕ). n / (2 ^ k * 2 ^ k)) dropped ∙ quarter)) half_root)
      ∙ ap (λ (k : ℕ). units binary32 false (nearest q (compare (4 * n) (mid * (2 ^ k * 2 ^ k)))) k) dropped
      ∙ ap (λ (z : ℕ). units binary32 false (nearest q (compare (4 * n) (mid * z))) (h + 1)) u4
      ∙ ap (λ (z : ℕ). units binary32 false z (h + 1)) (picked (compare (4 * n) (mid * (4 * u))) (cmp (4 * n) (mid * (4 * u))))

  pub nearest_word : of_bits binary32 ((h + 1) * 0x80_0000 + (r + 1) / 2) ≡ nearest_root n
  nearest_word = word_units ((r + 1) / 2) (h + 1) (lower r r_lo) (upper r r_hi) (more h few) ∙ sym nearest_is
    where
      lower : (z : ℕ) → 2 ^ 24 ≤ z → 2 ^ 23 ≤ (z + 1) / 2
      lower z g = omega arith

      upper : (z : ℕ) → z < 0x1ff_ffff → (z + 1) / 2 < 2 ^ 24
      upper z g = omega arith

      more : (z : ℕ) → z ≤ 199 → z + 1 ≤ 200
      more z g = omega arith

-- ---- the radicand that the code makes of m * 2 ^ (b - 277): R * 4 ^ (b / 2 - 2) is m * 2 ^ (b + 21)
abbrev pub radicand : ℕ → ℕ → ℕ
radicand m b = m * 0x200_0000 * (1 + b % 2)

module _ (m b : ℕ) (lo : 0x80_0000 ≤ m) (hi : m < 0x100_0000) where
  pub radicand_hi : radicand m b ≤ 0x3_ffff_fc00_0000
  radicand_hi = mul-le-mul {n₂ = 0x1_ffff_fe00_0000} {m₂ = 2} (omega arith) (omega arith)

  radicand_lo : 2 ^ 48 ≤ radicand m b
  radicand_lo = mul-le-mul {n₁ = 2 ^ 48} {m₁ = 1} (omega arith) (omega arith)

  radicand_even : radicand m b % 2 ≡ 0
  radicand_even = ap (λ (z : ℕ). z * (1 + b % 2) % 2) (twice m) ∙ ap (λ (z : ℕ). z % 2) (mul_assoc 2 (m * 0x100_0000) (1 + b % 2)) ∙ mul-mod_right 2 (m * 0x100_0000 * (1 + b % 2))
    where
      twice : (z : ℕ) → z * 0x200_0000 ≡ 2 * (z * 0x100_0000)
      twice z = omega arith

  two_pow : (z : ℕ) → z < 2 → 1 + z ≡ 2 ^ z
  two_pow zero g = refl
  two_pow (suc zero) g = refl
  two_pow (suc (suc z)) g = absurd (none z g)
    where
      none : (y : ℕ) → suc (suc y) < 2 → ⊥
      none y f = omega arith

  whole_scale : 105 ≤ b → radicand m b * (2 ^ (b / 2 - 2) * 2 ^ (b / 2 - 2)) ≡ m * 2 ^ (b + 21)
  whole_scale g =
      let h = b / 2 - 2 in
      ap (λ (z : ℕ). m * 0x200_0000 * z * (2 ^ h * 2 ^ h)) (two_pow (b % 2) (omega arith))
      ∙ ap (λ (z : ℕ). m * 2 ^ 25 * 2 ^ (b % 2) * z) (sym (pow-add 2 h h))
      ∙ ap (λ (z : ℕ). z * 2 ^ (h + h)) (mul_assoc m (2 ^ 25) (2 ^ (b % 2)) ∙ ap (λ (z : ℕ). m * z) (sym (pow-add 2 25 (b % 2))))
      ∙ mul_assoc m (2 ^ (25 + b % 2)) (2 ^ (h + h))
      ∙ ap (λ (z : ℕ). m * z) (sym (pow-add 2 (25 + b % 2) (h + h)))
      ∙ ap (λ (z : ℕ). m * 2 ^ z) (exponents b g)
    where
      exponents : (z : ℕ) → 105 ≤ z → 25 + z % 2 + (z / 2 - 2 + (z / 2 - 2)) ≡ z + 21
      exponents z f = omega arith

  pub mantissa_word : 105 ≤ b → b < 382 → (r : ℕ) → IsRoot r (radicand m b) → of_bits binary32 ((b / 2 - 1) * 0x80_0000 + (r + 1) / 2) ≡ nearest_root (m * 2 ^ (b + 21))
  mantissa_word g k r is =
      ap (λ (z : ℕ). of_bits binary32 (z * 0x80_0000 + (r + 1) / 2)) (one_more b g)
      ∙ nearest_word (radicand m b) r (b / 2 - 2) radicand_even radicand_lo radicand_hi (small b k) is
      ∙ ap nearest_root (whole_scale g)
    where
      one_more : (z : ℕ) → 105 ≤ z → z / 2 - 1 ≡ z / 2 - 2 + 1
      one_more z f = omega arith

      small : (z : ℕ) → z < 382 → z / 2 - 2 ≤ 199
      small z f = omega arith
