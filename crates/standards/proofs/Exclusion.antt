-- On numbers from 0 to 1 Exclusion's blend, x + y - 2 x y with each step rounded, lies within 0 and 1. In the units of UnitSteps.antt: the product is never
-- above the sum; and where the sum is 1 or more, one of the two is a half or more, so that the product is at least the other. Assumes nothing.
use mathlib.Core.Path.{◌≡◌, refl, sym, ap, ◌∙◌, subst}
use mathlib.Core.Bool.{Bool, true, false}
use Prim.Native.Nat.{ℕ, ◌+◌, ◌-◌, ◌*◌, ◌≤◌, ◌<◌}
use native.Mathlib.Nat.{le_trans, le_of_eq, lt_of_le_of_lt, add-mul, add_comm, mul_comm, mul_assoc, mul_right_comm, mul-le-mul, mul-le-mul_left, mul-le-mul_right, mul-lt-mul_of_pos_right, le_of_mul-le-mul_right, le_of_lt, add-sub_of_le}
use native.Mathlib.Omega.{arith}
use lib.Dec.{T, ltb, lit<}
use lib.Ieee.{Float, binary32, fits}
use lib.Ieee.Fits.{sub-fits}
use lib.Ieee.Order.{round_mono}
use lib.Ieee.Scale.{finite, grid}
use borrow.Author.Tests.{ltb-true, ltb-false}
use Rattle.float_steps.specs.Notation.{◌⊕◌, ◌⊖◌, ◌⊗◌, f2}
use Rattle.ieee_laws.specs.Same.{plain, Same}
use Rattle.ieee_laws.specs.Size.{AtMost, Unsigned, Counts, doubles}
use Rattle.ieee_laws.proofs.Zero.{plain_twice, add_same, mul_same, sub_same}
use Rattle.ieee_laws.proofs.Units.{mul_counts, add_counts, sub_counts, round_counts, round_at_least, counts_le, count_twice}
use Rattle.standards.specs.Range.{InUnit}
use Rattle.standards.proofs.Constants.{two_is}
use Rattle.standards.proofs.InRange.{unsigned, in_unit_same, plain_in, doubles_in}
use Rattle.standards.proofs.UnitSteps.{up_to_one, E, U, H, M, R, Part, part, bounded, M_pos, MM_pos}
use Rattle.standards.proofs.Screen.{left_over, lower_product, sum_near, sum_nearer, sum_ok}

module _ {x y : Float} {a b : ℕ} (p : Part x a) (q : Part y b) where
  abbrev n : ℕ
  n = a * 2 * b

  abbrev c : ℕ
  c = grid binary32 n (M * M)

  abbrev t : ℕ
  t = grid binary32 (a + b) M

  fraction : n ≤ 2 * (M * M)
  fraction = le_trans (le_of_eq (mul_right_comm a 2 b ∙ mul_comm (a * b) 2)) (mul-le-mul_left 2 (mul-le-mul p.most q.most))

  ok : T (finite (R n (M * M)))
  ok = bounded n (M * M) MM_pos fraction

  -- the product is not above the sum
  smaller : c ≤ t
  smaller =
      counts_le binary32 (R n (M * M)) (R (a + b) M) c t (round_counts binary32 n (M * M) ok) (round_counts binary32 (a + b) M (sum_ok p q))
      (round_mono binary32 n (M * M) (a + b) M MM_pos M_pos (le_trans (mul-le-mul_right M under) (le_of_eq (mul_assoc (a + b) M M))))
    where
      under : n ≤ (a + b) * M
      under = le_trans (le_of_eq (mul_right_comm a 2 b ∙ twice (a * b))) (le_trans (both (mul-le-mul_left a q.most) (le_trans (mul-le-mul_right b p.most) (le_of_eq (mul_comm M b)))) (le_of_eq (sym (add-mul a b M))))
        where
          twice : (z : ℕ) → z * 2 ≡ z + z
          twice z = omega arith

          both : {u v w z : ℕ} → u ≤ v → w ≤ z → u + w ≤ v + z
          both h k = omega arith

  -- one that is at least a half: the product is at least the other
  at_least : (u v : ℕ) (z : Float) → T (fits binary32 z) → Counts binary32 z v → M ≤ u * 2 → u * 2 * v ≡ n → v ≤ c
  at_least u v z h k l e =
      round_at_least binary32 n (M * M) v z MM_pos ok h k (le_trans (le_of_eq (sym (mul_assoc v M M))) (mul-le-mul_right M (le_trans (le_of_eq (mul_comm v M)) (le_trans (mul-le-mul_right v l) (le_of_eq e)))))

  too_much : t ≤ M + c + 4 * E
  too_much = go (ltb (a + b) M) (ltb-true (a + b) M) (ltb-false (a + b) M)
    where
      -- the sum is below 1
      below : a + b < M → n < M * M
      below h = by (ltb (a * 2) M) (ltb-true (a * 2) M) (ltb-false (a * 2) M)
        where
          less : (m a b : ℕ) → a + b < m → b < m
          less m a b h = omega arith

          other : (m a b : ℕ) → a + b < m → m ≤ a * 2 → b * 2 < m
          other m a b h k = omega arith

          by : (s : Bool) → (s ≡ true → a * 2 < M) → (s ≡ false → M ≤ a * 2) → n < M * M
          by true h' k = lt_of_le_of_lt (mul-le-mul_right b (le_of_lt (h' refl))) (lt_of_le_of_lt (le_of_eq (mul_comm M b)) (mul-lt-mul_of_pos_right (less M a b h) M_pos))
          by false h' k =
              lt_of_le_of_lt (le_of_eq (mul_right_comm a 2 b ∙ mul_assoc a b 2)) (lt_of_le_of_lt (mul-le-mul_right (b * 2) p.most) (lt_of_le_of_lt (le_of_eq (mul_comm M (b * 2))) (mul-lt-mul_of_pos_right (other M a b h (k refl)) M_pos)))

      low : a + b < M → a + b ≤ M + c + 2 * E
      low h =
          le_of_mul-le-mul_right
          (sums (a * M) (b * M) ((M - a) * (M - b)) (M * M) (a * b) n (c * M) (E * M) ((a + b) * M) ((M + c + 2 * E) * M) (left_over E U H M (lit< tt) refl refl refl a b (M - a) (M - b) (add-sub_of_le p.most) (add-sub_of_le q.most))
          (mul_right_comm a 2 b) (lower_product (a * 2) b 125 (below h)) (add-mul a b M) (add-mul (M + c) (2 * E) M ∙ (λ i. add-mul M c M i + mul_assoc 2 E M i)))
          M_pos
        where
          sums : (u v w m k n c e l r : ℕ) → u + v + w ≡ m + k → n ≡ k * 2 → n * 2 ≤ c * 2 + e * 4 → l ≡ u + v → r ≡ m + c + 2 * e → l ≤ r
          sums u v w m k n c e l r h i j f g = omega arith

      -- or 1 and more: then one of the two is a half or more
      high : M ≤ a + b → a + b ≤ M + c
      high h = by (ltb (a * 2) M) (ltb-true (a * 2) M) (ltb-false (a * 2) M)
        where
          other : (m a b : ℕ) → m ≤ a + b → a * 2 < m → m ≤ b * 2
          other m a b h k = omega arith

          sum : {m c : ℕ} {a b : ℕ} → a ≤ m → b ≤ c → a + b ≤ m + c
          sum h k = omega arith

          by : (s : Bool) → (s ≡ true → a * 2 < M) → (s ≡ false → M ≤ a * 2) → a + b ≤ M + c
          by true k l =
              le_trans (le_of_eq (add_comm a b)) (sum q.most (at_least b a x p.held p.is (other M a b h (k refl)) (mul_right_comm b 2 a ∙ ap (λ (z : ℕ). z * 2) (mul_comm b a) ∙ sym (mul_right_comm a 2 b))))
          by false k l = sum p.most (at_least a b y q.held q.is (l refl) refl)

      near : (t s m c e : ℕ) → t ≤ s + 2 * e → s ≤ m + c + 2 * e → t ≤ m + c + 4 * e
      near t s m c e h k = omega arith

      far : (t s m c e : ℕ) → t ≤ s + 4 * e → s ≤ m + c → t ≤ m + c + 4 * e
      far t s m c e h k = omega arith

      go : (s : Bool) → (s ≡ true → a + b < M) → (s ≡ false → M ≤ a + b) → t ≤ M + c + 4 * E
      go true h k = near t (a + b) M c E (sum_nearer p q (h refl)) (low (h refl))
      go false h k = far t (a + b) M c E (sum_near p q) (high (k refl))

  -- the difference
  excluded : T (doubles binary32 x) → AtMost 1 (x ⊕ y ⊖ f2 ⊗ x ⊗ y) × Unsigned (x ⊕ y ⊖ f2 ⊗ x ⊗ y)
  excluded d =
      subst (λ (z : Float). AtMost 1 z × Unsigned z) (sym is) (up_to_one k few)
    where
      k : ℕ
      k = t - c

      few : k ≤ M + 4 * E
      few = less t c M (4 * E) too_much
        where
          less : (t c m e : ℕ) → t ≤ m + c + e → t - c ≤ m + e
          less t c m e h = omega arith

      sum_counts : Counts binary32 (x ⊕ y) t
      sum_counts = subst (λ (z : Float). Counts binary32 z t) (sym (add_counts binary32 x y a b p.is q.is)) (round_counts binary32 (a + b) M (sum_ok p q))

      twice : Counts binary32 (f2 ⊗ x) (a * 2)
      twice = subst (λ (z : Float). Counts binary32 (z ⊗ x) (a * 2)) (sym two_is) (count_twice binary32 x a p.held d p.is)

      product_counts : Counts binary32 (f2 ⊗ x ⊗ y) c
      product_counts = subst (λ (z : Float). Counts binary32 z c) (sym (mul_counts binary32 (f2 ⊗ x) y (a * 2) b twice q.is)) (round_counts binary32 n (M * M) ok)

      is : x ⊕ y ⊖ f2 ⊗ x ⊗ y ≡ R k M
      is = sub_counts binary32 (x ⊕ y) (f2 ⊗ x ⊗ y) t c sum_counts product_counts smaller

pub exclusion_in : {x y : Float} → InUnit x → InUnit y → InUnit (x ⊕ y ⊖ f2 ⊗ x ⊗ y)
exclusion_in {x} {y} p q = by (part (plain_in p) (unsigned p)) (part (plain_in q) (unsigned q))
  where
    clear : (x : Float) → Same x (plain x)
    clear x = sym (plain_twice x)

    same : Same (x ⊕ y ⊖ f2 ⊗ x ⊗ y) (plain x ⊕ plain y ⊖ f2 ⊗ plain x ⊗ plain y)
    same = sub_same binary32 _ _ _ _ (add_same binary32 _ _ _ _ (clear x) (clear y)) (mul_same binary32 _ _ _ _ (mul_same binary32 _ _ _ _ refl (clear x)) (clear y))

    by : (n : ℕ) × Part (plain x) n → (n : ℕ) × Part (plain y) n → InUnit (x ⊕ y ⊖ f2 ⊗ x ⊗ y)
    by (a, pa) (b, pb) =
        let r = excluded pa pb (doubles_in (plain_in p)) in
        in_unit_same (x ⊕ y ⊖ f2 ⊗ x ⊗ y) (plain x ⊕ plain y ⊖ f2 ⊗ plain x ⊗ plain y) (sub-fits binary32 (x ⊕ y) (f2 ⊗ x ⊗ y)) same r.1 r.0
