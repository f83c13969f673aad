-- Steps on binary32 between 0 and 1 as whole numbers: a number is counted in the format's smallest value, of which M = 2 ^ 149 are 1 and H = 2 ^ 148 a
-- half; below a half neighbours are 2 E = 2 ^ 124 apart at most, and below 1 they are U = 2 ^ 125. What a product, a complement and a sum may err is
-- brought to the records of Mixture.antt. Assumes nothing.
use mathlib.Core.Path.{◌≡◌, refl, sym, ap, ◌∙◌, subst}
use mathlib.Core.Logic.{inl, inr}
use mathlib.Core.Bool.{Bool, true, false}
use Prim.Native.Nat.{ℕ, zero, suc, ◌+◌, ◌-◌, ◌*◌, ◌/◌, ◌^◌, ◌≤◌, ◌<◌}
use native.Mathlib.Nat.{le_trans, le_of_eq, lt_of_lt_of_le, lt_of_le_of_lt, mul_comm, mul_assoc, mul_right_comm, one-mul, mul-pos, mul-le-mul, mul-le-mul_left, mul-le-mul_right, mul-lt-mul_of_pos_right, le_of_mul-le-mul_right, div-lt_iff_lt-mul, mul-div_cancel, sub-add_cancel, zero-lt-suc, add-mul, sub-le}
use native.Mathlib.Omega.{arith}
use lib.Dec.{T, ltb, lit≤, lit<}
use lib.Pow.{pow_pos}
use lib.Ieee.{Float, binary32, of_bits, round, fits, le}
use lib.Ieee.Fits.{round-fits, mul-fits, sub-fits}
use lib.Ieee.Exact.{round_exact}
use lib.Ieee.Order.{round_mono}
use lib.Ieee.Scale.{finite, grid}
use borrow.Author.Tests.{ltb-true, ltb-false}
use Rattle.float_steps.specs.Notation.{◌⊖◌, ◌⊗◌, f1, half}
use Rattle.ieee_laws.specs.Size.{AtMost, Unsigned, Counts, Near}
use Rattle.ieee_laws.proofs.Bound.{at_most_finite, round_bound, round_unsigned}
use Rattle.ieee_laws.proofs.Clamp.{one_fits}
use Rattle.ieee_laws.proofs.Units.{Counted, counted, grain, mul_counts, sub_counts, round_counts, round_within, round_at_most, round_at_least, counts_le, one_count, count_at_most, at_most_count}
use Rattle.standards.specs.Range.{InUnit}
use Rattle.standards.proofs.Constants.{half_fits}
use Rattle.standards.proofs.InRange.{at_most_one, finite_of_lem}
use Rattle.standards.proofs.Mixture.{Fine, Product, Complement, Sum}

abbrev pub E : ℕ
E = 2 ^ 123

abbrev pub U : ℕ
U = 2 ^ 125

abbrev pub H : ℕ
H = 2 ^ 148

abbrev pub M : ℕ
M = 2 ^ 149

-- ---- a rounded fraction from 0 to 2
abbrev pub R : ℕ → ℕ → Float
R a c = round binary32 false a c

pub bounded : (a c : ℕ) → 0 < c → a ≤ 2 * c → T (finite (R a c))
bounded a c C h = at_most_finite 2 (R a c) (round_bound binary32 2 (lit≤ tt) false a c C h)

counted_round : (a c : ℕ) → 0 < c → a ≤ 2 * c → Counted binary32 (R a c)
counted_round a c C h = counted binary32 (R a c) (round_unsigned binary32 a c) (bounded a c C h) (round-fits binary32 false a c)

-- its count
count_is : (a c : ℕ) (C : 0 < c) (h : a ≤ 2 * c) → (counted_round a c C h).n ≡ grid binary32 a c
count_is a c C h = one_count binary32 (R a c) (counted_round a c C h).n (grid binary32 a c) (counted_round a c C h).is (round_counts binary32 a c (bounded a c C h))

fine_count : (x : Float) (c : Counted binary32 x) → Fine E U H M c.n
fine_count x c = grain binary32 x c 124

fine_round : (a c : ℕ) → 0 < c → a ≤ 2 * c → Fine E U H M (grid binary32 a c)
fine_round a c C h = subst (Fine E U H M) (count_is a c C h) (fine_count (R a c) (counted_round a c C h))

-- ---- products: a b / M
pub fraction : (a b : ℕ) → a ≤ M → b ≤ M → a * b ≤ 2 * (M * M)
fraction a b h k = le_trans (mul-le-mul h k) (two (M * M))
  where
    two : (z : ℕ) → z ≤ 2 * z
    two z = omega arith

pub MM_pos : 0 < M * M
MM_pos = mul-pos (pow_pos 149) (pow_pos 149)

-- a b / M below 2 ^ (24 + j) moves by half of 2 ^ j at most
near_product : (a b j : ℕ) → a * b < M * 2 ^ (24 + j) → grid binary32 (a * b) (M * M) * M * 2 ≤ a * b * 2 + M * 2 ^ j
near_product a b j h = le_of_mul-le-mul_right (le_trans (le_of_eq left) (le_trans n.0 (le_of_eq right))) (pow_pos 149)
  where
    g : ℕ
    g = grid binary32 (a * b) (M * M)

    low : a * b * M / (M * M) < 2 ^ (24 + j)
    low = (div-lt_iff_lt-mul MM_pos).1 (lt_of_lt_of_le (mul-lt-mul_of_pos_right h (pow_pos 149)) (le_of_eq (ap (λ (z : ℕ). z * M) (mul_comm M (2 ^ (24 + j))) ∙ mul_assoc (2 ^ (24 + j)) M M)))

    n : Near (g * (M * M)) (a * b * M) (M * M * 2 ^ j)
    n = round_within binary32 (a * b) (M * M) j MM_pos low

    left : g * M * 2 * M ≡ g * (M * M) * 2
    left = mul_right_comm (g * M) 2 M ∙ ap (λ (z : ℕ). z * 2) (mul_assoc g M M)

    right : a * b * M * 2 + M * M * 2 ^ j ≡ (a * b * 2 + M * 2 ^ j) * M
    right = (λ i. mul_right_comm (a * b) M 2 i + mul_right_comm M M (2 ^ j) i) ∙ sym (add-mul (a * b * 2) (M * 2 ^ j) M)

product : (x y : Float) (a b : ℕ) → T (fits binary32 x) → T (fits binary32 y) → Counts binary32 x a → Counts binary32 y b → a ≤ M → b ≤ M → Product E U H M a b (grid binary32 (a * b) (M * M))
product x y a b hx hy cx cy la lb =
    record {
      le_l = most_l;
      le_r = round_at_most binary32 (a * b) (M * M) b y MM_pos ok hy cy (le_trans (mul-le-mul_right M (mul-le-mul_right b la)) (le_of_eq (ap (λ (z : ℕ). z * M) (mul_comm M b) ∙ mul_assoc b M M)));
      whole = go (ltb (a * b) (M * M)) (ltb-true (a * b) (M * M)) (ltb-false (a * b) (M * M));
      half = λ h. near_product a b 124 h;
      quarter = λ h. near_product a b 123 (halved (a * b) (M * 2 ^ 147) h);
      fine = fine_round (a * b) (M * M) MM_pos (fraction a b la lb);
    }
  where
    ok : T (finite (R (a * b) (M * M)))
    ok = bounded (a * b) (M * M) MM_pos (fraction a b la lb)

    most_l : grid binary32 (a * b) (M * M) ≤ a
    most_l = round_at_most binary32 (a * b) (M * M) a x MM_pos ok hx cx (le_trans (mul-le-mul_right M (mul-le-mul_left a lb)) (le_of_eq (mul_assoc a M M)))

    halved : (n k : ℕ) → n * 2 < k * 2 → n < k
    halved n k h = omega arith

    double : (m n e : ℕ) → m ≤ n → m * 2 ≤ n * 2 + e
    double m n e h = omega arith

    go : (t : Bool) → (t ≡ true → a * b < M * M) → (t ≡ false → M * M ≤ a * b) → grid binary32 (a * b) (M * M) * M * 2 ≤ a * b * 2 + E * M * 4
    go true h k = near_product a b 125 (h refl)
    go false h k = double (grid binary32 (a * b) (M * M) * M) (a * b) (E * M * 4) (le_trans (mul-le-mul_right M (le_trans most_l la)) (k refl))

-- ---- fractions over M
pub M_pos : 0 < M
M_pos = pow_pos 149

pub near_whole : (a j : ℕ) → a < 2 ^ (24 + j) → grid binary32 a M * 2 ≤ a * 2 + 2 ^ j
near_whole a j h = le_of_mul-le-mul_right (le_trans (le_of_eq (mul_right_comm (grid binary32 a M) 2 M)) (le_trans n.0 (le_of_eq right))) M_pos
  where
    n : Near (grid binary32 a M * M) (a * M) (M * 2 ^ j)
    n = round_within binary32 a M j M_pos (lt_of_le_of_lt (le_of_eq (mul-div_cancel a M_pos)) h)

    right : a * M * 2 + M * 2 ^ j ≡ (a * 2 + 2 ^ j) * M
    right = (λ i. mul_right_comm a M 2 i + mul_comm M (2 ^ j) i) ∙ sym (add-mul (a * 2) (2 ^ j) M)

-- the count of 1, and of a half
pub one_counts : Counts binary32 f1 M
unfolding of_bits
one_counts = (refl, refl)

pub half_counts : Counts binary32 half H
unfolding of_bits
half_counts = (refl, refl)

-- ---- what exceeds M by 4 E at most rounds to at most 1
to_one : R (M + 4 * E) M ≡ f1
unfolding round of_bits
to_one = refl

pub up_to_one : (n : ℕ) → n ≤ M + 4 * E → AtMost 1 (R n M) × Unsigned (R n M)
up_to_one n few =
    let ok = round_counts binary32 n M (bounded n M M_pos (le_trans few (lit≤ tt))) in
    let last = counts_le binary32 (R n M) f1 (grid binary32 n M) M ok one_counts (subst (λ (z : Float). T (le (R n M) z)) to_one (round_mono binary32 n M (M + 4 * E) M M_pos M_pos (mul-le-mul_right M few))) in
    (at_most_count binary32 1 (R n M) (grid binary32 n M) ok (le_trans last (le_of_eq (sym (one-mul M)))), round_unsigned binary32 n M)

-- ---- M - a
pub complement : (a : ℕ) → a ≤ M → Fine E U H M a → Complement E U H M a (grid binary32 (M - a) M)
complement a la fa =
    record {
      most = most;
      near = go (ltb 0 a) (ltb-true 0 a) (ltb-false 0 a);
      exact = λ h. ap (λ (z : ℕ). z + a) (exact h fa) ∙ sub-add_cancel la;
      upper = λ h. round_at_least binary32 (M - a) M H half M_pos ok half_fits half_counts (mul-le-mul_right M (more a h));
      fine = fine_round (M - a) M M_pos twice;
    }
  where
    less : (m a : ℕ) → m - a ≤ m
    less m a = omega arith

    twice : M - a ≤ 2 * M
    twice = le_trans (less M a) (dbl M)
      where
        dbl : (m : ℕ) → m ≤ 2 * m
        dbl m = omega arith

    ok : T (finite (R (M - a) M))
    ok = bounded (M - a) M M_pos twice

    most : grid binary32 (M - a) M ≤ M
    most = round_at_most binary32 (M - a) M M f1 M_pos ok one_fits one_counts (mul-le-mul_right M (less M a))

    more : (a : ℕ) → a < H → H ≤ M - a
    more a h = apart H M a h (lit≤ tt)
      where
        apart : (h m a : ℕ) → a < h → h + h ≤ m → h ≤ m - a
        apart h m a l k = omega arith

    go : (t : Bool) → (t ≡ true → 0 < a) → (t ≡ false → a ≤ 0) → grid binary32 (M - a) M + a ≤ M + 2 * E
    go true h k = moved M a (grid binary32 (M - a) M) E la (near_whole (M - a) 125 (strict M a (h refl) M_pos))
      where
        strict : (m a : ℕ) → 0 < a → 0 < m → m - a < m
        strict m a h k = omega arith

        moved : (m a g e : ℕ) → a ≤ m → g * 2 ≤ (m - a) * 2 + e * 4 → g + a ≤ m + 2 * e
        moved m a g e l h = omega arith
    go false h k = none M a (grid binary32 (M - a) M) E (k refl) most
      where
        none : (m a g e : ℕ) → a ≤ 0 → g ≤ m → g + a ≤ m + 2 * e
        none m a g e l h = omega arith

    exact : H ≤ a → Fine E U H M a → grid binary32 (M - a) M ≡ M - a
    exact h (inl l) = absurd (never H a (2 * E) (lit< tt) h l)
      where
        never : (h a e : ℕ) → 0 < e → h ≤ a → a + e ≤ h → ⊥
        never h a e p k l = omega arith
    exact h (inr (k, e)) =
        one_count binary32 (R (M - a) M) (grid binary32 (M - a) M) (M - a) (round_counts binary32 (M - a) M ok)
        (round_exact binary32 false (M - a) M (16777216 - k) 125 M_pos (fewer k (positive k e)) (lt_of_le_of_lt (le_of_eq (sym split)) (lt_of_le_of_lt (less M a) (lit< tt))) (ap (λ (z : ℕ). z * M) split))
      where
        fewer : (k : ℕ) → 0 < k → 16777216 - k < 16777216
        fewer k h = omega arith

        positive : (k : ℕ) → a ≡ k * U → 0 < k
        positive zero e = absurd (none (a) (lt_of_lt_of_le (lit< tt) h) (e ∙ native.Mathlib.Nat.zero-mul U))
          where
            none : (a : ℕ) → 0 < a → a ≡ 0 → ⊥
            none a p q = omega arith
        positive (suc k) e = zero-lt-suc k

        split : M - a ≡ (16777216 - k) * U
        split = ap (λ (z : ℕ). M - z) e ∙ sym (mul_comm (16777216 - k) U ∙ native.Mathlib.Nat.mul-sub U 16777216 k ∙ (λ i. mul_comm U 16777216 i - mul_comm U k i))

-- ---- a + b
pub total : (a b : ℕ) → a ≤ M → b ≤ M → a + b ≤ 2 * M
total a b h k = both M a b h k
  where
    both : (m a b : ℕ) → a ≤ m → b ≤ m → a + b ≤ 2 * m
    both m a b h k = omega arith

pub sum : (a b : ℕ) → a ≤ M → b ≤ M → Sum E U H M a b (grid binary32 (a + b) M)
sum a b la lb =
    record {
      whole = λ h. go (ltb (a + b) M) (ltb-true (a + b) M) (ltb-false (a + b) M) h;
      half = λ h. within (a + b) (grid binary32 (a + b) M) E (near_whole (a + b) 124 h);
      least = λ h. counts_le binary32 (R (a + b) M) half (grid binary32 (a + b) M) H (round_counts binary32 (a + b) M ok) half_counts
          (subst (λ (z : Float). T (le (R (a + b) M) z)) to_half (round_mono binary32 (a + b) M (H + 2 * E) M M_pos M_pos (mul-le-mul_right M h)));
    }
  where
    ok : T (finite (R (a + b) M))
    ok = bounded (a + b) M M_pos (total a b la lb)

    to_half : R (H + 2 * E) M ≡ half
    to_half = unfold round of_bits in refl

    within : (n g e : ℕ) → g * 2 ≤ n * 2 + e * 2 → g ≤ n + e
    within n g e h = omega arith

    within_two : (n g e : ℕ) → g * 2 ≤ n * 2 + e * 4 → g ≤ n + 2 * e
    within_two n g e h = omega arith

    go : (t : Bool) → (t ≡ true → a + b < M) → (t ≡ false → M ≤ a + b) → a + b ≤ M → grid binary32 (a + b) M ≤ a + b + 2 * E
    go true h k l = within_two (a + b) (grid binary32 (a + b) M) E (near_whole (a + b) 125 (h refl))
    go false h k l = slack (a + b) (2 * E) (le_trans (round_at_most binary32 (a + b) M M f1 M_pos ok one_fits one_counts (mul-le-mul_right M l)) (k refl))
      where
        slack : (n e : ℕ) {g : ℕ} → g ≤ n → g ≤ n + e
        slack n e h = omega arith

-- ---- a number from 0 to 1 with a clear sign, by its count
pub record Part (x : Float) (n : ℕ) : Type 0 where
  pub held : T (fits binary32 x)
  pub is : Counts binary32 x n
  pub most : n ≤ M
  pub fine : Fine E U H M n

pub part : {x : Float} → InUnit x → Unsigned x → (n : ℕ) × Part x n
part {x} p u =
    let c = counted binary32 x u (finite_of_lem p) p.held in
    (c.n, record { held = p.held; is = c.is; most = le_trans (count_at_most binary32 1 x c.n (at_most_one p) c.is) (le_of_eq (one-mul M)); fine = fine_count x c })

abbrev pub g : ℕ → ℕ → ℕ
g a b = grid binary32 (a * b) (M * M)

pub product_of : {x y : Float} {a b : ℕ} → Part x a → Part y b → Product E U H M a b (g a b)
product_of {x} {y} {a} {b} p q = product x y a b p.held q.held p.is q.is p.most q.most

pub times : {x y : Float} {a b : ℕ} → Part x a → Part y b → Part (x ⊗ y) (g a b)
times {x} {y} {a} {b} p q =
    let r = product_of p q in
    record {
      held = mul-fits binary32 x y;
      is = subst (λ (z : Float). Counts binary32 z (g a b)) (sym (mul_counts binary32 x y a b p.is q.is)) (round_counts binary32 (a * b) (M * M) (bounded (a * b) (M * M) MM_pos (fraction a b p.most q.most)));
      most = le_trans r.le_l p.most;
      fine = r.fine;
    }

pub less : {x : Float} {a : ℕ} → Part x a → Part (f1 ⊖ x) (grid binary32 (M - a) M)
less {x} {a} p =
    let c = complement a p.most p.fine in
    record {
      held = sub-fits binary32 f1 x;
      is = subst (λ (z : Float). Counts binary32 z (grid binary32 (M - a) M)) (sym (sub_counts binary32 f1 x M a one_counts p.is p.most)) (round_counts binary32 (M - a) M (bounded (M - a) M M_pos (le_trans (sub-le M a) (twice M))));
      most = c.most;
      fine = c.fine;
    }
  where
    twice : (m : ℕ) → m ≤ 2 * m
    twice m = omega arith
