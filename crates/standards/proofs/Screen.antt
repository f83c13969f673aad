-- On numbers from 0 to 1 Screen's blend, x + y - x y with each step rounded, is at most 1. In the units of UnitSteps.antt: the sum errs by 4 E at most, the
-- product by less, and what is too much is at most 4 E, which rounds to 1. Assumes nothing.
use mathlib.Core.Path.{◌≡◌, refl, sym, ap, ◌∙◌, subst}
use mathlib.Core.Logic.{inl, inr}
use mathlib.Core.Bool.{Bool, true, false}
use Prim.Native.Nat.{ℕ, ◌+◌, ◌-◌, ◌*◌, ◌/◌, ◌^◌, ◌≤◌, ◌<◌}
use native.Mathlib.Nat.{le_trans, le_of_eq, lt_of_le_of_lt, lt_of_lt_of_le, add-mul, mul-add, add_comm, add-sub_of_le, mul_comm, mul_assoc, mul_right_comm, mul-sub, mul-le-mul, mul-le-mul_left, mul-le-mul_right, mul-lt-mul_of_pos_right, le_of_mul-le-mul_right, lt_of_mul-lt-mul_right, div-lt_iff_lt-mul}
use native.Mathlib.Omega.{arith}
use lib.Dec.{T, ltb, lit≤, lit<}
use lib.Pow.{pow_pos}
use lib.Ieee.{Float, binary32, of_bits}
use lib.Ieee.Fits.{sub-fits}
use lib.Ieee.Bits.{of_bits-fits}
use lib.Ieee.Exact.{round_exact}
use lib.Ieee.Order.{round_mono}
use lib.Ieee.Scale.{finite, grid}
use borrow.Author.Tests.{ltb-true, ltb-false}
use Rattle.float_steps.specs.Notation.{◌⊕◌, ◌⊖◌, ◌⊗◌, f1, f2}
use Rattle.ieee_laws.specs.Same.{plain, Same}
use Rattle.ieee_laws.specs.Size.{AtMost, Unsigned, Counts, Near}
use Rattle.ieee_laws.proofs.Zero.{plain_twice, add_same, mul_same, sub_same}
use Rattle.ieee_laws.proofs.Units.{add_counts, sub_counts, round_counts, round_within, round_at_most, round_at_least, counts_le}
use Rattle.standards.specs.Range.{InUnit}
use Rattle.standards.proofs.InRange.{unsigned, in_unit_same, plain_in}
use Rattle.standards.proofs.Mixture.{Fine}
use Rattle.standards.proofs.UnitSteps.{up_to_one, E, U, H, M, R, g, Part, part, bounded, fraction, MM_pos, M_pos, near_whole, one_counts, total, times, product_of}

-- ---- whole numbers
module _ (E U H M : ℕ) (e0 : 0 < E) (eU : U ≡ 4 * E) (eH : H ≡ 33554432 * E) (eM : M ≡ 2 * H) where
  pos_m : 0 < M
  pos_m = omega arith

  -- (x + y) M is M M + x y, less the product of what x and y leave of M
  pub left_over : (x y w z : ℕ) → x + w ≡ M → y + z ≡ M → x * M + y * M + w * z ≡ M * M + x * y
  left_over x y w z a b =
      let l : M * M ≡ x * y + x * z + (w * y + w * z) = (λ i. sym a i * sym b i) ∙ add-mul x w (y + z) ∙ (λ i. mul-add x y z i + mul-add w y z i) in
      let c : x * M ≡ x * y + x * z = ap (λ (n : ℕ). x * n) (sym b) ∙ mul-add x y z in
      let d : y * M ≡ y * x + y * w = ap (λ (n : ℕ). y * n) (sym a) ∙ mul-add y x w in
      let i = mul_comm y x in
      let j = mul_comm y w in
      omega arith

  cancel : (s p k : ℕ) → s * M ≤ M * M + p * M + k * M → s ≤ M + p + k
  cancel s p k h = le_of_mul-le-mul_right (le_trans h (le_of_eq (ap (λ (z : ℕ). z + k * M) (sym (add-mul M p M)) ∙ sym (add-mul (M + p) k M)))) pos_m

  moved : (n : ℕ) → E * n * M ≡ E * M * n
  moved n = mul_right_comm E n M

  -- A is x + y, rounded, and p is x y / M
  record Steps (x y A p : ℕ) : Type 0 where
    pub sum : A ≤ x + y + 4 * E
    pub small_sum : x + y < M → A ≤ x + y + 2 * E
    pub product : x * y * 2 ≤ p * M * 2 + E * M * 4
    pub small_product : x * y < M * H → x * y * 2 ≤ p * M * 2 + E * M * 2
    pub by_one : x ≡ M → y ≤ p
    pub large_product : M * H ≤ x * y → x < M → Fine E U H M x → Fine E U H M y → x + y ≤ p + M

  module _ (x y A p : ℕ) (hx : x < M) (hy : y ≤ x) (fx : Fine E U H M x) (fy : Fine E U H M y) (st : Steps x y A p) where
    abbrev w : ℕ
    w = M - x

    abbrev z : ℕ
    z = M - y

    ew : x + w ≡ M
    ew = add-sub_of_le (omega arith)

    ez : y + z ≡ M
    ez = add-sub_of_le (omega arith)

    low : x + y < M → A ≤ p + M + 4 * E
    low h =
        let a = st.small_sum h in
        let b = st.product in
        let c = left_over x y w z ew ez in
        let d = add-mul x y M in
        let e = cancel (x + y) p (E * 2) (subst (λ (n : ℕ). (x + y) * M ≤ M * M + p * M + n) (sym (moved 2)) (omega arith)) in
        omega arith

    -- x is a step or more below 1, and y a quarter
    high : M ≤ x + y → x * y < M * H → A ≤ p + M + 4 * E
    high h l =
        let a = st.sum in
        let b = st.small_product l in
        let c = left_over x y w z ew ez in
        let d = add-mul x y M in
        let q : E * M ≤ w * z = four (E * M) (w * z) (le_trans (le_of_eq step_is) (le_trans (mul-le-mul wide quarter) (le_of_eq quad))) in
        let e = cancel (x + y) p 0 (omega (arith, native.Mathlib.Nat.zero-mul M)) in
        omega arith
      where
        four : (m n : ℕ) → m * 4 ≤ n * 4 → m ≤ n
        four m n h = omega arith

        step_is : E * M * 4 ≡ U * M
        step_is = mul_right_comm E M 4 ∙ ap (λ (n : ℕ). n * M) (mul_comm E 4 ∙ sym eU)

        quad : w * (z * 4) ≡ w * z * 4
        quad = sym (mul_assoc w z 4)

        wide : U ≤ w
        wide = by fx
          where
            by : Fine E U H M x → U ≤ w
            by (inl n) = absurd (none h n hy)
              where
                none : M ≤ x + y → x + 2 * E ≤ H → y ≤ x → ⊥
                none h n k = omega arith
            by (inr (k, e)) =
                let n = lt_of_mul-lt-mul_right U (lt_of_le_of_lt (le_of_eq (sym e)) (lt_of_lt_of_le hx (le_of_eq one_is))) in
                let m = mul-le-mul_right U n in
                let s = native.Mathlib.Nat.suc-mul k U in
                omega (arith, ew)
              where
                one_is : M ≡ 16777216 * U
                one_is = omega arith

        quarter : M ≤ z * 4
        quarter = go (ltb (z * 4) M) (ltb-true (z * 4) M) (ltb-false (z * 4) M)
          where
            square : (a b : ℕ) → a * 3 * (a * 3) ≡ a * a * 9
            square a b = sym (mul_assoc (a * 3) a 3) ∙ ap (λ (n : ℕ). n * 3) (mul_right_comm a 3 a) ∙ mul_assoc (a * a) 3 3

            fours : (a b : ℕ) → a * 4 * (b * 4) ≡ a * b * 16
            fours a b = sym (mul_assoc (a * 4) b 4) ∙ ap (λ (n : ℕ). n * 4) (mul_right_comm a 4 b) ∙ mul_assoc (a * b) 4 4

            go : (t : Bool) → (t ≡ true → z * 4 < M) → (t ≡ false → M ≤ z * 4) → M ≤ z * 4
            go true n k =
                let a = n refl in
                let b : M * 3 ≤ y * 4 = omega (arith, ez) in
                let c : M * 3 ≤ x * 4 = omega arith in
                let d : M * 3 * (M * 3) ≤ x * 4 * (y * 4) = mul-le-mul c b in
                let e : M * 3 * (M * 3) ≡ M * M * 9 = square M 3 in
                let f : x * 4 * (y * 4) ≡ x * y * 16 = fours x y in
                let g : M * M ≡ M * H * 2 = ap (λ (n : ℕ). M * n) (eM ∙ mul_comm 2 H) ∙ sym (mul_assoc M H 2) in
                absurd (omega arith)
            go false n k = k refl

    below_one : A ≤ p + M + 4 * E
    below_one = first (ltb (x + y) M) (ltb-true (x + y) M) (ltb-false (x + y) M)
      where
        second : (t : Bool) → (t ≡ true → x * y < M * H) → (t ≡ false → M * H ≤ x * y) → M ≤ x + y → A ≤ p + M + 4 * E
        second true h k l = high l (h refl)
        second false h k l =
            let a = st.large_product (k refl) hx fx fy in
            let b = st.sum in
            omega arith

        first : (t : Bool) → (t ≡ true → x + y < M) → (t ≡ false → M ≤ x + y) → A ≤ p + M + 4 * E
        first true h k = low (h refl)
        first false h k = second (ltb (x * y) (M * H)) (ltb-true (x * y) (M * H)) (ltb-false (x * y) (M * H)) (k refl)

  ordered : (x y A p : ℕ) → x ≤ M → y ≤ x → Fine E U H M x → Fine E U H M y → Steps x y A p → A ≤ p + M + 4 * E
  ordered x y A p hx hy fx fy st = go (ltb x M) (ltb-true x M) (ltb-false x M)
    where
      go : (t : Bool) → (t ≡ true → x < M) → (t ≡ false → M ≤ x) → A ≤ p + M + 4 * E
      go true h k = below_one x y A p (h refl) hy fx fy st
      go false h k =
          let l = k refl in
          let a = st.by_one (omega arith) in
          let b = st.sum in
          omega arith

-- ---- on binary32
two_counts : Counts binary32 f2 (2 * M)
unfolding of_bits
two_counts = (refl, refl)

pub lower_product : (a b j : ℕ) → a * b < M * 2 ^ (24 + j) → a * b * 2 ≤ g a b * M * 2 + M * 2 ^ j
lower_product a b j h = le_of_mul-le-mul_right (le_trans (le_of_eq (mul_right_comm (a * b) 2 M)) (le_trans n.1 (le_of_eq right))) (pow_pos 149)
  where
    low : a * b * M / (M * M) < 2 ^ (24 + j)
    low = (div-lt_iff_lt-mul MM_pos).1 (lt_of_lt_of_le (mul-lt-mul_of_pos_right h (pow_pos 149)) (le_of_eq (ap (λ (z : ℕ). z * M) (mul_comm M (2 ^ (24 + j))) ∙ mul_assoc (2 ^ (24 + j)) M M)))

    n : Near (g a b * (M * M)) (a * b * M) (M * M * 2 ^ j)
    n = round_within binary32 (a * b) (M * M) j MM_pos low

    right : g a b * (M * M) * 2 + M * M * 2 ^ j ≡ (g a b * M * 2 + M * 2 ^ j) * M
    right =
        (λ i. (ap (λ (z : ℕ). z * 2) (sym (mul_assoc (g a b) M M)) ∙ mul_right_comm (g a b * M) M 2) i + mul_right_comm M M (2 ^ j) i)
        ∙ sym (add-mul (g a b * M * 2) (M * 2 ^ j) M)

module _ {x y : Float} {a b : ℕ} (p : Part x a) (q : Part y b) where
  abbrev A : ℕ
  A = grid binary32 (a + b) M

  pub sum_ok : T (finite (R (a + b) M))
  sum_ok = bounded (a + b) M M_pos (total a b p.most q.most)

  product_ok : T (finite (R (a * b) (M * M)))
  product_ok = bounded (a * b) (M * M) MM_pos (fraction a b p.most q.most)

  pub sum_near : A ≤ a + b + 4 * E
  sum_near = go (ltb (a + b) (2 * M)) (ltb-true (a + b) (2 * M)) (ltb-false (a + b) (2 * M))
    where
      within : (n g e : ℕ) → g * 2 ≤ n * 2 + e * 8 → g ≤ n + 4 * e
      within n g e h = omega arith

      slack : (n e m g : ℕ) → g ≤ m → m ≤ n → g ≤ n + e
      slack n e m g h k = omega arith

      go : (t : Bool) → (t ≡ true → a + b < 2 * M) → (t ≡ false → 2 * M ≤ a + b) → A ≤ a + b + 4 * E
      go true h k = within (a + b) A E (near_whole (a + b) 126 (h refl))
      go false h k =
          slack (a + b) (4 * E) (2 * M) A
          (round_at_most binary32 (a + b) M (2 * M) f2 M_pos sum_ok (of_bits-fits binary32 0x4000_0000) two_counts (mul-le-mul_right M (total a b p.most q.most)))
          (k refl)

  pub sum_nearer : a + b < M → A ≤ a + b + 2 * E
  sum_nearer h = within (a + b) A E (near_whole (a + b) 125 h)
    where
      within : (n g e : ℕ) → g * 2 ≤ n * 2 + e * 4 → g ≤ n + 2 * e
      within n g e h = omega arith

  product_near : a * b * 2 ≤ g a b * M * 2 + E * M * 4
  product_near = go (ltb (a * b) (M * M)) (ltb-true (a * b) (M * M)) (ltb-false (a * b) (M * M))
    where
      double : (m n e : ℕ) → m ≤ n → m * 2 ≤ n * 2 + e
      double m n e h = omega arith

      go : (t : Bool) → (t ≡ true → a * b < M * M) → (t ≡ false → M * M ≤ a * b) → a * b * 2 ≤ g a b * M * 2 + E * M * 4
      go true h k = lower_product a b 125 (h refl)
      go false h k =
          double (a * b) (g a b * M) (E * M * 4)
          (le_trans (mul-le-mul p.most q.most)
          (mul-le-mul_right M (round_at_least binary32 (a * b) (M * M) M f1 MM_pos product_ok (of_bits-fits binary32 0x3f80_0000) one_counts (le_trans (le_of_eq (mul_comm M (M * M))) (mul-le-mul_right M (k refl))))))

  by_one_is : a ≡ M → b ≤ g a b
  by_one_is e =
      round_at_least binary32 (a * b) (M * M) b y MM_pos product_ok q.held q.is (le_of_eq (sym (mul_assoc b M M) ∙ ap (λ (z : ℕ). z * M) (mul_comm b M ∙ ap (λ (z : ℕ). z * b) (sym e))))

  -- x + y - 1 is a number of the format, which x y is not below
  rest_at_least : M * H ≤ a * b → a < M → Fine E U H M a → Fine E U H M b → a + b ≤ g a b + M
  rest_at_least h l fa fb = by (from_half a fa (side q.most h)) (from_half b fb (side p.most (le_trans h (le_of_eq (mul_comm a b)))))
    where
      side : {m n : ℕ} → n ≤ M → M * H ≤ m * n → H ≤ m
      side {m} {n} k h = le_of_mul-le-mul_right (le_trans (le_of_eq (mul_comm H M)) (le_trans h (mul-le-mul_left m k))) M_pos

      from_half : (n : ℕ) → Fine E U H M n → H ≤ n → (k : ℕ) × (n ≡ k * U)
      from_half n (inl h) l = absurd (never H n (2 * E) (lit< tt) l h)
        where
          never : (h a e : ℕ) → 0 < e → h ≤ a → a + e ≤ h → ⊥
          never h a e p k l = omega arith
      from_half n (inr m) l = m

      by : (k : ℕ) × (a ≡ k * U) → (k : ℕ) × (b ≡ k * U) → a + b ≤ g a b + M
      by (k, e) (j, f) = back M (a + b) (g a b) (counts_le binary32 (R w M) (R (a * b) (M * M)) w (g a b) exact (round_counts binary32 (a * b) (M * M) product_ok) (round_mono binary32 w M (a * b) (M * M) M_pos MM_pos (le_trans (le_of_eq (sym (mul_assoc w M M))) (mul-le-mul_right M under))))
        where
          w : ℕ
          w = a + b - M

          back : (m s g : ℕ) → s - m ≤ g → s ≤ g + m
          back m s g h = omega arith

          under : w * M ≤ a * b
          under =
              taken (a * M) (b * M) (M * M) (a * b) (w * M) ((M - a) * (M - b)) (left_over E U H M (lit< tt) refl refl refl a b (M - a) (M - b) (add-sub_of_le p.most) (add-sub_of_le q.most))
              (mul_comm (a + b - M) M ∙ mul-sub M (a + b) M ∙ ap (λ (z : ℕ). z - M * M) (mul_comm M (a + b) ∙ add-mul a b M))
            where
              taken : (u v m n s t : ℕ) → u + v + t ≡ m + n → s ≡ u + v - m → s ≤ n
              taken u v m n s t h e = omega arith

          split : w ≡ (k + j - 16777216) * U
          split = (λ i. e i + f i - M) ∙ ap (λ (z : ℕ). z - 16777216 * U) (sym (add-mul k j U)) ∙ sym (mul_comm (k + j - 16777216) U ∙ mul-sub U (k + j) 16777216 ∙ (λ i. mul_comm U (k + j) i - mul_comm U 16777216 i))

          small : w < M
          small = less M a b l q.most M_pos
            where
              less : (m a b : ℕ) → a < m → b ≤ m → 0 < m → a + b - m < m
              less m a b h k l = omega arith

          few : k + j - 16777216 < 16777216
          few = lt_of_mul-lt-mul_right U (lt_of_le_of_lt (le_of_eq (sym split)) (lt_of_lt_of_le small (lit≤ tt)))

          exact : Counts binary32 (R w M) w
          exact = round_exact binary32 false w M (k + j - 16777216) 125 M_pos few (lt_of_le_of_lt (le_of_eq (sym split)) (lt_of_lt_of_le small (lit≤ tt))) (ap (λ (z : ℕ). z * M) split)

  steps : Steps E U H M (lit< tt) refl refl refl a b A (g a b)
  steps =
      record {
        sum = sum_near;
        small_sum = sum_nearer;
        product = product_near;
        small_product = λ h. lower_product a b 124 h;
        by_one = by_one_is;
        large_product = rest_at_least;
      }

too_much : {x y : Float} {a b : ℕ} → Part x a → Part y b → grid binary32 (a + b) M ≤ g a b + M + 4 * E
too_much {x} {y} {a} {b} p q = go (ltb a b) (ltb-true a b) (ltb-false a b)
  where
    weak : {m n : ℕ} → m < n → m ≤ n
    weak h = omega arith

    go : (t : Bool) → (t ≡ true → a < b) → (t ≡ false → b ≤ a) → grid binary32 (a + b) M ≤ g a b + M + 4 * E
    go true h k =
        subst (λ (n : ℕ). grid binary32 n M ≤ g a b + M + 4 * E) (add_comm b a)
        (subst (λ (n : ℕ). grid binary32 (b + a) M ≤ grid binary32 n (M * M) + M + 4 * E) (mul_comm b a)
        (ordered E U H M (lit< tt) refl refl refl b a (grid binary32 (b + a) M) (g b a) q.most (weak (h refl)) q.fine p.fine (steps q p)))
    go false h k = ordered E U H M (lit< tt) refl refl refl a b (grid binary32 (a + b) M) (g a b) p.most (k refl) p.fine q.fine (steps p q)

screened : (x y : Float) (a b : ℕ) → Part x a → Part y b → AtMost 1 (x ⊕ y ⊖ x ⊗ y) × Unsigned (x ⊕ y ⊖ x ⊗ y)
screened x y a b p q =
    subst (λ (z : Float). AtMost 1 z × Unsigned z) (sym is) (up_to_one n few)
  where
    t : ℕ
    t = grid binary32 (a + b) M

    n : ℕ
    n = t - g a b

    few : n ≤ M + 4 * E
    few = less t (g a b) M (4 * E) (too_much p q)
      where
        less : (t g m e : ℕ) → t ≤ g + m + e → t - g ≤ m + e
        less t g m e h = omega arith

    sum_counts : Counts binary32 (x ⊕ y) t
    sum_counts = subst (λ (z : Float). Counts binary32 z t) (sym (add_counts binary32 x y a b p.is q.is)) (round_counts binary32 (a + b) M (sum_ok p q))

    smaller : g a b ≤ t
    smaller = le_trans (product_of p q).le_l (round_at_least binary32 (a + b) M a x M_pos (sum_ok p q) p.held p.is (mul-le-mul_right M (more a b)))
      where
        more : (a b : ℕ) → a ≤ a + b
        more a b = omega arith

    is : x ⊕ y ⊖ x ⊗ y ≡ R n M
    is = sub_counts binary32 (x ⊕ y) (x ⊗ y) t (g a b) sum_counts (times p q).is smaller

pub screen_in : {x y : Float} → InUnit x → InUnit y → InUnit (x ⊕ y ⊖ x ⊗ y)
screen_in {x} {y} p q = by (part (plain_in p) (unsigned p)) (part (plain_in q) (unsigned q))
  where
    clear : (x : Float) → Same x (plain x)
    clear x = sym (plain_twice x)

    same : Same (x ⊕ y ⊖ x ⊗ y) (plain x ⊕ plain y ⊖ plain x ⊗ plain y)
    same = sub_same binary32 _ _ _ _ (add_same binary32 _ _ _ _ (clear x) (clear y)) (mul_same binary32 _ _ _ _ (clear x) (clear y))

    by : (n : ℕ) × Part (plain x) n → (n : ℕ) × Part (plain y) n → InUnit (x ⊕ y ⊖ x ⊗ y)
    by (a, pa) (b, pb) =
        let r = screened (plain x) (plain y) a b pa pb in
        in_unit_same (x ⊕ y ⊖ x ⊗ y) (plain x ⊕ plain y ⊖ plain x ⊗ plain y) (sub-fits binary32 (x ⊕ y) (x ⊗ y)) same r.1 r.0
