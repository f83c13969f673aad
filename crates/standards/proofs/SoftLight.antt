-- On numbers from 0 to 1 SoftLight's blend lies within 0 and 1. In the units of UnitSteps.antt: D(b) lies from b to 1, up to a quarter by its polynomial
-- and from there on as a root; so b and a part of D(b) - b, which errs by 4 E at most, make at most 1. Up to a half, what is taken from b is at most b.
-- Assumes nothing.
use mathlib.Core.Path.{◌≡◌, refl, sym, ap, ◌∙◌, subst}
use mathlib.Core.Bool.{Bool, true, false, cond, ◌||◌}
use Prim.Native.Nat.{ℕ, zero, suc, ◌+◌, ◌-◌, ◌*◌, ◌^◌, ◌≤◌, ◌<◌, zero-le}
use native.Mathlib.Nat.{le_trans, le_of_eq, lt_of_lt_of_le, lt_of_le_of_lt, le_of_lt, le_refl, mul_comm, mul_assoc, mul-le-mul, mul-le-mul_left, mul-le-mul_right, sub-le}
use native.Mathlib.Omega.{arith}
use lib.IntN.{pos}
use lib.Dec.{T, ltb, lit≤, lit<}
use lib.Ieee.{Float, nan, inf, fin, binary32, of_bits, fits, lt, le, eq, neg}
use lib.Ieee.Fits.{add-fits, sub-fits}
use lib.Ieee.Bits.{of_bits-fits}
use lib.Ieee.Order.{round_mono}
use lib.Ieee.Scale.{grid}
use borrow.Author.Tests.{ltb-true, ltb-false}
use Rattle.float_steps.specs.Notation.{◌⊕◌, ◌⊖◌, ◌⊗◌, f0, f1, f2, half}
use Rattle.float_steps.specs.Literals.{f3, f4, f12, f16, quarter}
use Rattle.float_steps.specs.Root.{sqrt_of}
use Rattle.ieee_laws.specs.Same.{plain, Same}
use Rattle.ieee_laws.specs.Size.{AtMost, Unsigned, Counts}
use Rattle.ieee_laws.proofs.Zero.{plain_twice, add_same, mul_same, sub_same, sub_is}
use Rattle.ieee_laws.proofs.Commute.{add_commutes}
use Rattle.ieee_laws.proofs.Difference.{sub_flips, neg_times}
use Rattle.ieee_laws.proofs.Order.{lt_plain_l}
use Rattle.ieee_laws.proofs.Bound.{at_most_finite, round_bound}
use Rattle.ieee_laws.proofs.Clamp.{zero_fits, one_fits}
use Rattle.ieee_laws.proofs.Root.{rooted, under_one, root_least, sqrt_is}
use Rattle.ieee_laws.proofs.Units.{mul_counts, add_counts, sub_counts, round_counts, round_of, counts_le, round_at_most, round_at_least, one_count}
use Rattle.standards.specs.Compositing.{soft_light_b, D}
use Rattle.standards.specs.Range.{InUnit}
use Rattle.standards.proofs.InRange.{unsigned, not_below, in_unit, in_unit_same, plain_in, complement_in}
use Rattle.standards.proofs.UnitSteps.{up_to_one, E, M, R, g, Part, part, M_pos, MM_pos, bounded, near_whole, one_counts, times, less, product_of}
use Rattle.standards.proofs.HardLight.{twice_in, rest_in}

-- ---- the literals
quarter_counts : Counts binary32 quarter (2 ^ 147)
unfolding of_bits
quarter_counts = (refl, refl)

counts_0 : Counts binary32 f0 0
unfolding of_bits
counts_0 = (refl, refl)

counts_3 : Counts binary32 f3 (3 * M)
unfolding of_bits
counts_3 = (refl, refl)

counts_4 : Counts binary32 f4 (4 * M)
unfolding of_bits
counts_4 = (refl, refl)

counts_12 : Counts binary32 f12 (12 * M)
unfolding of_bits
counts_12 = (refl, refl)

counts_16 : Counts binary32 f16 (16 * M)
unfolding of_bits
counts_16 = (refl, refl)

-- ---- a value whose count lies from lo to hi
record Has (y : Float) (lo hi : ℕ) : Type 0 where
  count : ℕ
  is : Counts binary32 y count
  least : lo ≤ count
  most : count ≤ hi

-- a fraction up to 12, between two values u and v of the format
between : (y u v : Float) (a c lo hi : ℕ) → 0 < c → y ≡ R a c → T (fits binary32 u) → Counts binary32 u lo → T (fits binary32 v) → Counts binary32 v hi → a ≤ 12 * c → lo * c ≤ a * M → a * M ≤ hi * c → Has y lo hi
between y u v a c lo hi C e fu cu fv cv h l m =
    let ok = at_most_finite 12 (R a c) (round_bound binary32 12 (lit≤ tt) false a c C h) in
    record {
      count = grid binary32 a c;
      is = subst (λ (z : Float). Counts binary32 z (grid binary32 a c)) (sym e) (round_counts binary32 a c ok);
      least = round_at_least binary32 a c lo u C ok fu cu l;
      most = round_at_most binary32 a c hi v C ok fv cv m;
    }

product_has : (x y u v : Float) (a b lo hi : ℕ) → Counts binary32 x a → Counts binary32 y b → T (fits binary32 u) → Counts binary32 u lo → T (fits binary32 v) → Counts binary32 v hi → hi ≤ 12 * M → lo * M ≤ a * b → a * b ≤ hi * M
    → Has (x ⊗ y) lo hi
product_has x y u v a b lo hi cx cy fu cu fv cv h l m =
    between (x ⊗ y) u v (a * b) (M * M) lo hi MM_pos (mul_counts binary32 x y a b cx cy) fu cu fv cv (le_trans m (le_trans (mul-le-mul_right M h) (le_of_eq (mul_assoc 12 M M))))
    (le_trans (le_of_eq (sym (mul_assoc lo M M))) (mul-le-mul_right M l)) (le_trans (mul-le-mul_right M m) (le_of_eq (mul_assoc hi M M)))

difference_has : (z x u v : Float) (c a lo hi : ℕ) → Counts binary32 z c → Counts binary32 x a → a ≤ c → T (fits binary32 u) → Counts binary32 u lo → T (fits binary32 v) → Counts binary32 v hi → hi ≤ 12 * M → lo ≤ c - a → c - a ≤ hi
    → Has (z ⊖ x) lo hi
difference_has z x u v c a lo hi cz cx o fu cu fv cv h l m =
    between (z ⊖ x) u v (c - a) M lo hi M_pos (sub_counts binary32 z x c a cz cx o) fu cu fv cv (le_trans m h) (mul-le-mul_right M l) (mul-le-mul_right M m)

-- ---- up to a quarter: the polynomial, as (4 - (12 - 16 x) x) x
module _ (x : Float) (n : ℕ) (p : Part x n) (low : n ≤ 2 ^ 147) where
  has_16 : Has (f16 ⊗ x) 0 (4 * M)
  has_16 = product_has f16 x f0 f4 (16 * M) n 0 (4 * M) counts_16 p.is zero_fits counts_0 (of_bits-fits binary32 0x4080_0000) counts_4 (lit≤ tt) (le_trans (lit≤ tt) zero-le) (le_trans (mul-le-mul_left (16 * M) low) (lit≤ tt))

  has_12 : Has (f12 ⊖ f16 ⊗ x) 0 (12 * M)
  has_12 =
      difference_has f12 (f16 ⊗ x) f0 f12 (12 * M) has_16.count 0 (12 * M) counts_12 has_16.is (le_trans has_16.most (lit≤ tt)) zero_fits counts_0 (of_bits-fits binary32 0x4140_0000) counts_12 (le_refl (12 * M)) zero-le
      (sub-le (12 * M) has_16.count)

  has_3 : Has ((f12 ⊖ f16 ⊗ x) ⊗ x) 0 (3 * M)
  has_3 =
      product_has (f12 ⊖ f16 ⊗ x) x f0 f3 has_12.count n 0 (3 * M) has_12.is p.is zero_fits counts_0 (of_bits-fits binary32 0x4040_0000) counts_3 (lit≤ tt) (le_trans (lit≤ tt) zero-le)
      (le_trans (mul-le-mul has_12.most low) (lit≤ tt))

  has_4 : Has (f4 ⊖ (f12 ⊖ f16 ⊗ x) ⊗ x) M (4 * M)
  has_4 =
      difference_has f4 ((f12 ⊖ f16 ⊗ x) ⊗ x) f1 f4 (4 * M) has_3.count M (4 * M) counts_4 has_3.is (le_trans has_3.most (lit≤ tt)) one_fits one_counts (of_bits-fits binary32 0x4080_0000) counts_4 (lit≤ tt)
      (left M has_3.count has_3.most) (sub-le (4 * M) has_3.count)
    where
      left : (m k : ℕ) → k ≤ 3 * m → m ≤ 4 * m - k
      left m k h = omega arith

  polynomial_has : Has ((f4 ⊖ (f12 ⊖ f16 ⊗ x) ⊗ x) ⊗ x) n M
  polynomial_has =
      product_has (f4 ⊖ (f12 ⊖ f16 ⊗ x) ⊗ x) x x f1 has_4.count n n M has_4.is p.is p.held p.is one_fits one_counts (lit≤ tt)
      (le_trans (le_of_eq (mul_comm n M)) (mul-le-mul_right n has_4.least)) (le_trans (mul-le-mul has_4.most low) (lit≤ tt))

polynomial_is : (x : Float) → Same (((f16 ⊗ x ⊖ f12) ⊗ x ⊕ f4) ⊗ x) ((f4 ⊖ (f12 ⊖ f16 ⊗ x) ⊗ x) ⊗ x)
polynomial_is x =
    let y = f12 ⊖ f16 ⊗ x in
    let z = (f16 ⊗ x ⊖ f12) ⊗ x in
    let turn : Same z (neg (y ⊗ x)) = mul_same binary32 (f16 ⊗ x ⊖ f12) (neg y) x x (sub_flips binary32 (f16 ⊗ x) f12) refl ∙ ap plain (neg_times binary32 y x) in
    mul_same binary32 (z ⊕ f4) (f4 ⊖ y ⊗ x) x x
    (add_same binary32 z (neg (y ⊗ x)) f4 f4 turn refl ∙ ap plain (add_commutes binary32 (neg (y ⊗ x)) f4 ∙ sym (sub_is binary32 f4 (y ⊗ x)))) refl

-- ---- D of a number with a clear sign, of the count n: a value from n to M
record Curve (x : Float) (n : ℕ) : Type 0 where
  value : Float
  same : Same (D x) value
  has : Has value n M

curve : (x : Float) (n : ℕ) → Part x n → Curve x n
unfolding D
curve x n p = go (le x quarter) refl refl
  where
    P : Float
    P = ((f16 ⊗ x ⊖ f12) ⊗ x ⊕ f4) ⊗ x

    -- the order of counts is the order of values
    within : n ≤ 2 ^ 147 → T (le x quarter)
    within h =
        subst (λ (z : Float). T (le z quarter)) (round_of binary32 x n p.held p.is)
        (subst (λ (z : Float). T (le (R n M) z)) (round_of binary32 quarter (2 ^ 147) (of_bits-fits binary32 0x3e80_0000) quarter_counts) (round_mono binary32 n M (2 ^ 147) M M_pos M_pos (mul-le-mul_right M h)))

    root : le x quarter ≡ false → 2 ^ 147 ≤ n
    root k = by (ltb n (2 ^ 147)) (ltb-true n (2 ^ 147)) (ltb-false n (2 ^ 147))
      where
        by : (b : Bool) → (b ≡ true → n < 2 ^ 147) → (b ≡ false → 2 ^ 147 ≤ n) → 2 ^ 147 ≤ n
        by true l m = absurd (subst T k (within (le_of_lt (l refl))))
        by false l m = m refl

    go : (b : Bool) → le x quarter ≡ b → Same (cond (le x quarter) P (sqrt_of x)) (cond b P (sqrt_of x)) → Curve x n
    go true k e =
        record { value = (f4 ⊖ (f12 ⊖ f16 ⊗ x) ⊗ x) ⊗ x; same = e ∙ polynomial_is x; has = polynomial_has x n p (counts_le binary32 x quarter n (2 ^ 147) p.is quarter_counts (subst T (sym k) tt)) }
    go false k e =
        let r = rooted (n * M) (under_one n p.most) in
        record {
          value = sqrt_of x;
          same = e;
          has = record { count = r.count; is = subst (λ (z : Float). Counts binary32 z r.count) (sym (sqrt_is x n p.is (lt_of_lt_of_le (lit< tt) (root k)))) r.is; least = root_least n p.most (root k) p.fine; most = r.most };
        }

small : (x : Float) → lt x quarter ≡ lt (fin false 0 (pos 0)) quarter → le x quarter ≡ true
unfolding le
small x e = ap (λ (b : Bool). b || eq x quarter) (e ∙ first)
  where
    first : lt (fin false 0 (pos 0)) quarter ≡ true
    first = unfold lt of_bits in refl

-- a zero has D's polynomial, whichever its sign
curve_same : (x : Float) → Same (D x) (D (plain x))
unfolding D
curve_same nan = refl
curve_same (inf s) = refl
curve_same (fin s (suc m) e) = refl
curve_same (fin s zero e) =
    let x = fin s 0 e in
    let y = plain (fin s 0 e) in
    let z : Same x y = refl in
    ap (λ (b : Bool). plain (cond b (((f16 ⊗ x ⊖ f12) ⊗ x ⊕ f4) ⊗ x) (sqrt_of x))) (small x (lt_plain_l x quarter))
    ∙ mul_same binary32 ((f16 ⊗ x ⊖ f12) ⊗ x ⊕ f4) ((f16 ⊗ y ⊖ f12) ⊗ y ⊕ f4) x y
    (add_same binary32 ((f16 ⊗ x ⊖ f12) ⊗ x) ((f16 ⊗ y ⊖ f12) ⊗ y) f4 f4 (mul_same binary32 (f16 ⊗ x ⊖ f12) (f16 ⊗ y ⊖ f12) x y (sub_same binary32 (f16 ⊗ x) (f16 ⊗ y) f12 f12 (mul_same binary32 f16 f16 x y refl z) refl) z) refl)
    z
    ∙ sym (ap (λ (b : Bool). plain (cond b (((f16 ⊗ y ⊖ f12) ⊗ y ⊕ f4) ⊗ y) (sqrt_of y))) (small y refl))

-- ---- the two branches
module _ {b t : Float} (p : InUnit b) (q : InUnit t) where
  -- b - t b (1 - b)
  less_in : InUnit (b ⊖ t ⊗ b ⊗ (f1 ⊖ b))
  less_in = by (part (plain_in p) (unsigned p)) (part (plain_in q) (unsigned q))
    where
      clear : (x : Float) → Same x (plain x)
      clear x = sym (plain_twice x)

      same : Same (b ⊖ t ⊗ b ⊗ (f1 ⊖ b)) (plain b ⊖ plain t ⊗ plain b ⊗ (f1 ⊖ plain b))
      same = sub_same binary32 _ _ _ _ (clear b) (mul_same binary32 _ _ _ _ (mul_same binary32 _ _ _ _ (clear t) (clear b)) (sub_same binary32 _ _ _ _ refl (clear b)))

      by : (n : ℕ) × Part (plain b) n → (m : ℕ) × Part (plain t) m → InUnit (b ⊖ t ⊗ b ⊗ (f1 ⊖ b))
      by (n, pb) (m, pt) =
          let c = g (g m n) (grid binary32 (M - n) M) in
          let few : c ≤ n = le_trans (product_of (times pt pb) (less pb)).le_l (product_of pt pb).le_r in
          let is : plain b ⊖ plain t ⊗ plain b ⊗ (f1 ⊖ plain b) ≡ R (n - c) M = sub_counts binary32 (plain b) (plain t ⊗ plain b ⊗ (f1 ⊖ plain b)) n c pb.is (times (times pt pb) (less pb)).is few in
          let r = up_to_one (n - c) (le_trans (sub-le n c) (le_trans pb.most (lit≤ tt))) in
          in_unit_same (b ⊖ t ⊗ b ⊗ (f1 ⊖ b)) (plain b ⊖ plain t ⊗ plain b ⊗ (f1 ⊖ plain b)) (sub-fits binary32 b (t ⊗ b ⊗ (f1 ⊖ b))) same
          (subst Unsigned (sym is) r.1) (subst (AtMost 1) (sym is) r.0)

  -- b + t (D(b) - b)
  more_in : InUnit (b ⊕ t ⊗ (D b ⊖ b))
  more_in = by (part (plain_in p) (unsigned p)) (part (plain_in q) (unsigned q))
    where
      clear : (x : Float) → Same x (plain x)
      clear x = sym (plain_twice x)

      by : (n : ℕ) × Part (plain b) n → (m : ℕ) × Part (plain t) m → InUnit (b ⊕ t ⊗ (D b ⊖ b))
      by (n, pb) (m, pt) = go (part rise r.1)
        where
          C : Curve (plain b) n
          C = curve (plain b) n pb

          y : Float
          y = C.value ⊖ plain b

          k : ℕ
          k = C.has.count - n

          is : C.value ⊖ plain b ≡ R k M
          is = sub_counts binary32 C.value (plain b) C.has.count n C.has.is pb.is C.has.least

          few : k ≤ M
          few = le_trans (sub-le C.has.count n) C.has.most

          r : AtMost 1 y × Unsigned y
          r = subst (λ (z : Float). AtMost 1 z × Unsigned z) (sym is) (up_to_one k (le_trans few (lit≤ tt)))

          rise : InUnit y
          rise = in_unit y (sub-fits binary32 C.value (plain b)) (not_below y r.1) r.0

          same : Same (b ⊕ t ⊗ (D b ⊖ b)) (plain b ⊕ plain t ⊗ y)
          same = add_same binary32 _ _ _ _ (clear b) (mul_same binary32 _ _ _ _ (clear t) (sub_same binary32 _ _ _ _ (curve_same b ∙ C.same) (clear b)))

          go : (e : ℕ) × Part y e → InUnit (b ⊕ t ⊗ (D b ⊖ b))
          go (e, py) =
              let sum : plain b ⊕ plain t ⊗ y ≡ R (n + g m e) M = add_counts binary32 (plain b) (plain t ⊗ y) n (g m e) pb.is (times pt py).is in
              let s = up_to_one (n + g m e) (room n (g m e) e (grid binary32 k M) C.has.count M (2 ^ 126) (4 * E) (product_of pt py).le_r counted (near_whole k 126 (lt_of_le_of_lt few (lit< tt))) C.has.least C.has.most (lit≤ tt)) in
              in_unit_same (b ⊕ t ⊗ (D b ⊖ b)) (plain b ⊕ plain t ⊗ y) (add-fits binary32 b (t ⊗ (D b ⊖ b))) same (subst Unsigned (sym sum) s.1) (subst (AtMost 1) (sym sum) s.0)
            where
              counted : e ≡ grid binary32 k M
              counted = one_count binary32 (R k M) e (grid binary32 k M) (subst (λ (z : Float). Counts binary32 z e) is py.is) (round_counts binary32 k M (bounded k M M_pos (le_trans few (lit≤ tt))))

              room : (n c e h d m x y : ℕ) → c ≤ e → e ≡ h → h * 2 ≤ (d - n) * 2 + x → n ≤ d → d ≤ m → x ≤ y * 2 → n + c ≤ m + y
              room n c e h d m x y a i j l o v = omega arith

pub soft_in : (b s : Float) → InUnit b → InUnit s → InUnit (soft_light_b b s)
unfolding soft_light_b
soft_in b s p q = go (le s half) refl
  where
    go : (v : Bool) → le s half ≡ v → InUnit (cond v (b ⊖ (f1 ⊖ f2 ⊗ s) ⊗ b ⊗ (f1 ⊖ b)) (b ⊕ (f2 ⊗ s ⊖ f1) ⊗ (D b ⊖ b)))
    go true k = less_in p (complement_in (twice_in q k))
    go false k = more_in p (rest_in q k)
