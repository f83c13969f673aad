-- Numbers with a clear sign, counted in units of the format's smallest value: how fine such a number is, and sums, differences, products and rounding in
-- these units. Over the format. Assumes nothing.
use mathlib.Core.Path.{◌≡◌, refl, sym, ap, ◌∙◌, subst}
use mathlib.Core.Logic.{◌⊎◌, inl, inr}
use mathlib.Core.Bool.{Bool, true, false, not, cond, true≢false}
use Prim.Native.Nat.{ℕ, suc, ◌+◌, ◌-◌, ◌*◌, ◌/◌, ◌^◌, ◌≤◌, ◌<◌}
use native.Mathlib.Nat.{le_trans, le_of_eq, suc-mul, add-mul, mul-sub, mul_comm, mul_assoc, mul_right_comm, mul-pos, mul-le-mul_left, mul-le-mul_right, le_of_mul-le-mul_right, eq_of_mul-eq-mul_right}
use native.Mathlib.Omega.{arith}
use lib.Dec.{T, leb, leb→le, nleb→lt}
use lib.Pow.{pow-add, pow_pos, pow_mono}
use lib.Ieee.{Float, nan, inf, fin, Format, prec, low, up, down, round, sum, add, sub, mul, neg, fits, le}
use lib.Ieee.Digits.{back}
use lib.Ieee.Fits.{down_pos}
use lib.Ieee.Exact.{HasValue}
use lib.Ieee.Order.{drop, round_mono}
use lib.Ieee.Scale.{finite, grid, round_same, round_val, round_under}
use borrow.Author.Tests.{le-ltb}
use Rattle.ieee_laws.specs.Size.{two, AtMost, Unsigned, doubles, Counts, Near}
use Rattle.float_steps.proofs.Number.{held, lift, lift_is, round_own}
use Rattle.ieee_laws.proofs.Twice.{values, twice_value}
use Rattle.ieee_laws.proofs.Bound.{at_most}
use Rattle.ieee_laws.proofs.Half.{round_near, unit_at_most}

-- ---- the count: few digits, and zeros after them
pub record Counted (f : Format) (x : Float) : Type 0 where
  pub n : ℕ
  pub is : Counts f x n
  pub digits : ℕ
  pub zeros : ℕ
  pub few : digits < 2 ^ prec f
  pub splits : n ≡ digits * 2 ^ zeros

pub counted : (f : Format) (x : Float) → Unsigned x → T (finite x) → T (fits f x) → Counted f x
counted f nan p h k = absurd p
counted f (inf s) p h k = absurd h
counted f (fin true m e) p h k = absurd p
counted f (fin false m e) p h k =
    let g = held f false m e k in
    record {
      n = m * 2 ^ lift f e;
      is = (refl, mul_assoc m (up e) (2 ^ low f) ∙ ap (λ (z : ℕ). m * z) (lift_is f e g.deep) ∙ sym (mul_assoc m (2 ^ lift f e) (down e)));
      digits = m;
      zeros = lift f e;
      few = g.few;
      splits = refl;
    }

-- n is below 2 ^ prec units of 2 ^ j, by one such unit at least, or a multiple of the next larger unit
abbrev pub Grain : Format → ℕ → ℕ → Type 0
Grain f j n = (n + 2 ^ j ≤ 2 ^ prec f * 2 ^ j) ⊎ ((k : ℕ) × (n ≡ k * 2 ^ suc j))

pub grain : (f : Format) (x : Float) (c : Counted f x) (j : ℕ) → Grain f j c.n
grain f x c j = subst (Grain f j) (sym c.splits) (go (leb c.zeros j) (leb→le c.zeros j) (nleb→lt c.zeros j))
  where
    m : ℕ
    m = c.digits

    L : ℕ
    L = c.zeros

    go : (b : Bool) → (T b → L ≤ j) → (T (not b) → j < L) → Grain f j (m * 2 ^ L)
    go true h k =
        inl (le_trans (add_le (mul-le-mul_left m (pow_mono (h tt)))) (le_trans (le_of_eq (sym (suc-mul m (2 ^ j)))) (mul-le-mul_right (2 ^ j) c.few)))
      where
        add_le : m * 2 ^ L ≤ m * 2 ^ j → m * 2 ^ L + 2 ^ j ≤ m * 2 ^ j + 2 ^ j
        add_le h = omega arith
    go false h k =
        inr (m * 2 ^ (L - suc j), ap (λ (z : ℕ). m * 2 ^ z) (sym (back L (suc j) (k tt))) ∙ ap (λ (z : ℕ). m * z) (pow-add 2 (L - suc j) (suc j)) ∙ sym (mul_assoc m (2 ^ (L - suc j)) (2 ^ suc j)))

-- ---- the operations
pub mul_counts : (f : Format) (x y : Float) (a b : ℕ) → Counts f x a → Counts f y b → mul f x y ≡ round f false (a * b) (2 ^ low f * 2 ^ low f)
mul_counts f x y a b v w = values f x y false a (2 ^ low f) false b (2 ^ low f) (pow_pos (low f)) (pow_pos (low f)) v w

-- two fractions over one denominator C, of which a / M and b / M are given
cross : (A M a c C d : ℕ) → A * M ≡ a * c → C ≡ c * d → A * d * M ≡ a * C
cross A M a c C d e h = mul_right_comm A d M ∙ ap (λ (z : ℕ). z * d) e ∙ mul_assoc a c d ∙ ap (λ (z : ℕ). a * z) (sym h)

pub add_counts : (f : Format) (x y : Float) (a b : ℕ) → Counts f x a → Counts f y b → add f x y ≡ round f false (a + b) (2 ^ low f)
unfolding add sum
add_counts f nan y a b v w = absurd v
add_counts f (inf s) y a b v w = absurd v
add_counts f (fin s m e) nan a b v w = absurd w
add_counts f (fin s m e) (inf t) a b v w = absurd w
add_counts f (fin true m e) (fin t n g) a b v w = absurd (true≢false v.0)
add_counts f (fin false m e) (fin true n g) a b v w = absurd (true≢false w.0)
add_counts f (fin false m e) (fin false n g) a b v w =
    let M = 2 ^ low f in
    let C = down e * down g in
    let p : m * up e * down g * M ≡ a * C = cross (m * up e) M a (down e) C (down g) v.1 refl in
    let q : n * up g * down e * M ≡ b * C = cross (n * up g) M b (down g) C (down e) w.1 (mul_comm (down e) (down g)) in
    round_same f false (m * up e * down g + n * up g * down e) C (a + b) M (mul-pos (down_pos e) (down_pos g)) (pow_pos (low f))
    (add-mul (m * up e * down g) (n * up g * down e) M ∙ (λ i. p i + q i) ∙ sym (add-mul a b C))

sub_mul : (a b k : ℕ) → (a - b) * k ≡ a * k - b * k
sub_mul a b k = mul_comm (a - b) k ∙ mul-sub k a b ∙ (λ i. mul_comm k a i - mul_comm k b i)

pub sub_counts : (f : Format) (x y : Float) (a b : ℕ) → Counts f x a → Counts f y b → b ≤ a → sub f x y ≡ round f false (a - b) (2 ^ low f)
unfolding sub add sum neg
sub_counts f nan y a b v w h = absurd v
sub_counts f (inf s) y a b v w h = absurd v
sub_counts f (fin s m e) nan a b v w h = absurd w
sub_counts f (fin s m e) (inf t) a b v w h = absurd w
sub_counts f (fin true m e) (fin t n g) a b v w h = absurd (true≢false v.0)
sub_counts f (fin false m e) (fin true n g) a b v w h = absurd (true≢false w.0)
sub_counts f (fin false m e) (fin false n g) a b v w h =
    let M = 2 ^ low f in
    let C = down e * down g in
    let A = m * up e * down g in
    let B = n * up g * down e in
    let p : A * M ≡ a * C = cross (m * up e) M a (down e) C (down g) v.1 refl in
    let q : B * M ≡ b * C = cross (n * up g) M b (down g) C (down e) w.1 (mul_comm (down e) (down g)) in
    let l : B ≤ A = le_of_mul-le-mul_right (le_trans (le_of_eq q) (le_trans (mul-le-mul_right C h) (le_of_eq (sym p)))) (pow_pos (low f)) in
    ap (λ (t : Bool). cond t (round f true (B - A) C) (round f false (A - B) C)) (le-ltb A B l)
    ∙ round_same f false (A - B) C (a - b) M (mul-pos (down_pos e) (down_pos g)) (pow_pos (low f)) (sub_mul A B M ∙ (λ i. p i - q i) ∙ sym (sub_mul a b C))

-- ---- rounding
near_more : (x y u v : ℕ) → u ≤ v → Near x y u → Near x y v
near_more x y u v h n = (omega (arith, n.0), omega (arith, n.1))

-- a / c, which is below 2 ^ (prec + j) units, is moved by half of 2 ^ j of them at most
pub round_counts : (f : Format) (a c : ℕ) → T (finite (round f false a c)) → Counts f (round f false a c) (grid f a c)
round_counts f a c h = round_val f a c (round_under f a c h)

pub round_within : (f : Format) (a c j : ℕ) → 0 < c → a * 2 ^ low f / c < 2 ^ (prec f + j) → Near (grid f a c * c) (a * 2 ^ low f) (c * 2 ^ j)
round_within f a c j C h =
    let n = a * 2 ^ low f in
    near_more (grid f a c * c) n (c * 2 ^ drop (prec f) n c) (c * 2 ^ j) (mul-le-mul_left c (pow_mono (unit_at_most f n c j h))) (round_near f a c C)

-- a value of the format is what its count rounds to
pub round_of : (f : Format) (y : Float) (b : ℕ) → T (fits f y) → Counts f y b → round f false b (2 ^ low f) ≡ y
round_of f nan b h v = absurd v
round_of f (inf t) b h v = absurd v
round_of f (fin true n g) b h v = absurd (true≢false v.0)
round_of f (fin false n g) b h v = round_same f false b (2 ^ low f) (n * up g) (down g) (pow_pos (low f)) (down_pos g) (sym v.1) ∙ round_own f false n g h

-- the order of values is the order of counts
pub counts_le : (f : Format) (x y : Float) (a b : ℕ) → Counts f x a → Counts f y b → T (le x y) → a ≤ b
unfolding le
counts_le f nan y a b v w h = absurd v
counts_le f (inf s) y a b v w h = absurd v
counts_le f (fin s m e) nan a b v w h = absurd w
counts_le f (fin s m e) (inf t) a b v w h = absurd w
counts_le f (fin true m e) (fin t n g) a b v w h = absurd (true≢false v.0)
counts_le f (fin false m e) (fin true n g) a b v w h = absurd (true≢false w.0)
counts_le f (fin false m e) (fin false n g) a b v w h =
    let M = 2 ^ low f in
    let C = down e * down g in
    let p : m * up e * down g * M ≡ a * C = cross (m * up e) M a (down e) C (down g) v.1 refl in
    let q : n * up g * down e * M ≡ b * C = cross (n * up g) M b (down g) C (down e) w.1 (mul_comm (down e) (down g)) in
    le_of_mul-le-mul_right (le_trans (le_of_eq (sym p)) (le_trans (mul-le-mul_right M (at_most (m * up e * down g) (n * up g * down e) h)) (le_of_eq q))) (mul-pos (down_pos e) (down_pos g))

-- a fraction that is at most a value of the format rounds to at most that value
pub round_at_most : (f : Format) (a c b : ℕ) (y : Float) → 0 < c → T (finite (round f false a c)) → T (fits f y) → Counts f y b → a * 2 ^ low f ≤ b * c → grid f a c ≤ b
round_at_most f a c b y C h k v l =
    counts_le f (round f false a c) y (grid f a c) b (round_counts f a c h) v
    (subst (λ (z : Float). T (le (round f false a c) z)) (round_of f y b k v) (round_mono f a c b (2 ^ low f) C (pow_pos (low f)) l))

-- and one that is at least such a value to at least it
pub round_at_least : (f : Format) (a c b : ℕ) (y : Float) → 0 < c → T (finite (round f false a c)) → T (fits f y) → Counts f y b → b * c ≤ a * 2 ^ low f → b ≤ grid f a c
round_at_least f a c b y C h k v l =
    counts_le f y (round f false a c) b (grid f a c) v (round_counts f a c h)
    (subst (λ (z : Float). T (le z (round f false a c))) (round_of f y b k v) (round_mono f b (2 ^ low f) a c (pow_pos (low f)) C l))

-- a value has one count
pub one_count : (f : Format) (x : Float) (a b : ℕ) → Counts f x a → Counts f x b → a ≡ b
one_count f nan a b v w = absurd v
one_count f (inf s) a b v w = absurd v
one_count f (fin s m e) a b v w = eq_of_mul-eq-mul_right (down e) (down_pos e) a b (sym v.1 ∙ w.1)

-- the count of N is N times that of 1
pub count_at_most : (f : Format) (N : ℕ) (x : Float) (a : ℕ) → AtMost N x → Counts f x a → a ≤ N * 2 ^ low f
count_at_most f N nan a u v = absurd v
count_at_most f N (inf s) a u v = absurd v
count_at_most f N (fin s m e) a u v =
    le_of_mul-le-mul_right (le_trans (le_of_eq (sym v.1)) (le_trans (mul-le-mul_right (2 ^ low f) u) (le_of_eq (mul_right_comm N (down e) (2 ^ low f))))) (down_pos e)

pub at_most_count : (f : Format) (N : ℕ) (x : Float) (a : ℕ) → Counts f x a → a ≤ N * 2 ^ low f → AtMost N x
at_most_count f N nan a v h = absurd v
at_most_count f N (inf s) a v h = absurd v
at_most_count f N (fin s m e) a v h =
    le_of_mul-le-mul_right (le_trans (le_of_eq v.1) (le_trans (mul-le-mul_right (down e) h) (le_of_eq (mul_right_comm N (2 ^ low f) (down e))))) (pow_pos (low f))

-- twice a value counts twice as much
pub count_twice : (f : Format) (x : Float) (a : ℕ) → T (fits f x) → T (doubles f x) → Counts f x a → Counts f (mul f two x) (a * 2)
count_twice f nan a h d v = absurd v
count_twice f (inf s) a h d v = absurd v
count_twice f (fin s m e) a h d v = rescaled (mul f two (fin s m e)) (twice_value f s m e h d)
  where
    rescaled : (z : Float) → HasValue z s (m * up e * 2) (down e) → Counts f z (a * 2)
    rescaled nan w = absurd w
    rescaled (inf t) w = absurd w
    rescaled (fin t n g) w =
        let M = 2 ^ low f in (
          w.0 ∙ v.0,
          eq_of_mul-eq-mul_right (down e) (down_pos e) (n * up g * M) (a * 2 * down g)
              (mul_right_comm (n * up g) M (down e)
              ∙ ap (λ (z : ℕ). z * M) w.1
              ∙ mul_right_comm (m * up e * 2) (down g) M
              ∙ ap (λ (z : ℕ). z * down g) (mul_right_comm (m * up e) 2 M ∙ ap (λ (z : ℕ). z * 2) v.1 ∙ mul_right_comm a (down e) 2)
              ∙ mul_right_comm (a * 2) (down e) (down g)),
        )
