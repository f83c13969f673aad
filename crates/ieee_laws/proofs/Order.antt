-- The order of values. It is not both ways, a tie is the same value, equality is symmetric and is sameness, and the two zeros stand at one place. Over the
-- format where it matters. Assumes nothing.
use mathlib.Core.Path.{◌≡◌, refl, sym, ap, ◌∙◌, subst}
use mathlib.Core.Bool.{Bool, true, false, not, ◌&&◌, ◌||◌, beq, true≢false}
use Prim.Native.Nat.{ℕ, zero, suc, ◌+◌, ◌*◌, ◌≤◌, ◌<◌, zero-le}
use native.Mathlib.Nat.{zero-lt-suc, zero-mul, zero-add, add-zero, mul-pos, le_antisymm, lt_irrefl}
use native.Mathlib.Omega.{arith}
use lib.IntN.{ℤ, pos}
use lib.Dec.{T, ltb, eqb, eqb→eq}
use lib.Ieee.{Float, nan, inf, fin, Format, up, down, below, level, lt, eq, is_nan, fits}
use lib.Ieee.Fits.{up_pos, down_pos, and_l, and_r}
use borrow.Author.Tests.{ltb-true, ltb-false, eqb-true, lt-ltb, le-ltb, eq-eqb}
use Rattle.ieee_laws.specs.Same.{plain, Same, Zero}
use Rattle.float_steps.proofs.Number.{one_way}

-- ---- sizes
pub no_size : (m : ℕ) (e d : ℤ) → m * up e * down d ≡ 0 → m ≡ 0
no_size zero e d h = refl
no_size (suc m) e d h = absurd (lt_irrefl 0 (subst (λ (z : ℕ). 0 < z) h (mul-pos (mul-pos (zero-lt-suc m) (up_pos e)) (down_pos d))))

pub plain_zero : (s : Bool) (m : ℕ) (e : ℤ) → m ≡ 0 → Zero (fin s m e)
plain_zero s m e h = ap (λ (z : ℕ). plain (fin s z e)) h

left_none : (a b : ℕ) → a + b ≤ 0 → a ≡ 0
left_none a b h = omega arith

right_none : (a b : ℕ) → a + b ≤ 0 → b ≡ 0
right_none a b h = omega arith

never : (a b : ℕ) → a < b → b < a → ⊥
never a b h k = omega arith

-- ---- not both ways
below_asym : (s : Bool) (a : ℕ) (t : Bool) (b : ℕ) → below s a t b ≡ true → below t b s a ≡ false
below_asym false a false b h = le-ltb b a (weak a b (ltb-true a b h))
  where
    weak : (a b : ℕ) → a < b → a ≤ b
    weak a b h = omega arith
below_asym false a true b h = absurd (true≢false (sym h))
below_asym true a false b h = refl
below_asym true a true b h = le-ltb a b (weak a b (ltb-true b a h))
  where
    weak : (a b : ℕ) → b < a → b ≤ a
    weak a b h = omega arith

pub lt_asym : (x y : Float) → lt x y ≡ true → lt y x ≡ false
unfolding lt
lt_asym nan y h = absurd (true≢false (sym h))
lt_asym (inf s) nan h = absurd (true≢false (sym h))
lt_asym (inf true) (inf true) h = refl
lt_asym (inf true) (inf false) h = refl
lt_asym (inf false) (inf t) h = absurd (true≢false (sym h))
lt_asym (inf true) (fin t n d) h = refl
lt_asym (inf false) (fin t n d) h = absurd (true≢false (sym h))
lt_asym (fin s m e) nan h = absurd (true≢false (sym h))
lt_asym (fin s m e) (inf true) h = absurd (true≢false (sym h))
lt_asym (fin s m e) (inf false) h = refl
lt_asym (fin s m e) (fin t n d) h = below_asym s (m * up e * down d) t (n * up d * down e) h

-- ---- neither way
tie_fin : (f : Format) (s : Bool) (m : ℕ) (e : ℤ) (t : Bool) (n : ℕ) (d : ℤ) → T (fits f (fin s m e)) → T (fits f (fin t n d))
    → below s (m * up e * down d) t (n * up d * down e) ≡ false → below t (n * up d * down e) s (m * up e * down d) ≡ false → Same (fin s m e) (fin t n d)
tie_fin f false m e false n d p q h k = ap plain (one_way f false m e n d p q (le_antisymm (ltb-false (n * up d * down e) (m * up e * down d) k) (ltb-false (m * up e * down d) (n * up d * down e) h)))
tie_fin f true m e true n d p q h k = ap plain (one_way f true m e n d p q (le_antisymm (ltb-false (n * up d * down e) (m * up e * down d) h) (ltb-false (m * up e * down d) (n * up d * down e) k)))
tie_fin f false m e true n d p q h k =
    let z = ltb-false 0 (n * up d * down e + m * up e * down d) k in
    plain_zero false m e (no_size m e d (right_none (n * up d * down e) (m * up e * down d) z)) ∙ sym (plain_zero true n d (no_size n d e (left_none (n * up d * down e) (m * up e * down d) z)))
tie_fin f true m e false n d p q h k =
    let z = ltb-false 0 (m * up e * down d + n * up d * down e) h in
    plain_zero true m e (no_size m e d (left_none (m * up e * down d) (n * up d * down e) z)) ∙ sym (plain_zero false n d (no_size n d e (right_none (m * up e * down d) (n * up d * down e) z)))

pub tie : (f : Format) (x y : Float) → T (fits f x) → T (fits f y) → is_nan x ≡ false → is_nan y ≡ false → lt x y ≡ false → lt y x ≡ false → Same x y
unfolding lt is_nan
tie f nan y p q u v h k = absurd (true≢false u)
tie f (inf s) nan p q u v h k = absurd (true≢false v)
tie f (inf true) (inf true) p q u v h k = refl
tie f (inf true) (inf false) p q u v h k = absurd (true≢false h)
tie f (inf false) (inf true) p q u v h k = absurd (true≢false k)
tie f (inf false) (inf false) p q u v h k = refl
tie f (inf true) (fin t n d) p q u v h k = absurd (true≢false h)
tie f (inf false) (fin t n d) p q u v h k = absurd (true≢false k)
tie f (fin s m e) nan p q u v h k = absurd (true≢false v)
tie f (fin s m e) (inf true) p q u v h k = absurd (true≢false k)
tie f (fin s m e) (inf false) p q u v h k = absurd (true≢false h)
tie f (fin s m e) (fin t n d) p q u v h k = tie_fin f s m e t n d p q h k

-- ---- NaN
pub nan_lt : (y : Float) → lt nan y ≡ false
unfolding lt
nan_lt y = refl

pub lt_nan : (x : Float) → lt x nan ≡ false
unfolding lt
lt_nan nan = refl
lt_nan (inf s) = refl
lt_nan (fin s m e) = refl

pub is_nan_lem : (v : Float) → is_nan v ≡ true → v ≡ nan
unfolding is_nan
is_nan_lem nan t = refl
is_nan_lem (inf s) t = absurd (true≢false (sym t))
is_nan_lem (fin s m e) t = absurd (true≢false (sym t))

-- ---- equality
beq_comm : (s t : Bool) → beq s t ≡ beq t s
beq_comm true true = refl
beq_comm true false = refl
beq_comm false true = refl
beq_comm false false = refl

level_comm : (s : Bool) (a : ℕ) (t : Bool) (b : ℕ) → level s a t b ≡ level t b s a
level_comm s a t b = go (eqb a b) (eqb b a) (eqb-true a b) (eqb-true b a) (λ (h : a ≡ b). eq-eqb b a (sym h)) (λ (h : b ≡ a). eq-eqb a b (sym h)) refl refl
  where
    go : (p q : Bool) → (p ≡ true → a ≡ b) → (q ≡ true → b ≡ a) → (a ≡ b → eqb b a ≡ true) → (b ≡ a → eqb a b ≡ true) → eqb a b ≡ p → eqb b a ≡ q → p && (beq s t || eqb a 0) ≡ q && (beq t s || eqb b 0)
    go true true h k x y u v = λ i. beq_comm s t i || eqb (h refl i) 0
    go true false h k x y u v = absurd (true≢false (sym (x (h refl)) ∙ v))
    go false true h k x y u v = absurd (true≢false (sym (y (k refl)) ∙ u))
    go false false h k x y u v = refl

pub eq_comm : (x y : Float) → eq x y ≡ eq y x
unfolding eq
eq_comm nan nan = refl
eq_comm nan (inf t) = refl
eq_comm nan (fin t n d) = refl
eq_comm (inf s) nan = refl
eq_comm (inf s) (inf t) = beq_comm s t
eq_comm (inf s) (fin t n d) = refl
eq_comm (fin s m e) nan = refl
eq_comm (fin s m e) (inf t) = refl
eq_comm (fin s m e) (fin t n d) = level_comm s (m * up e * down d) t (n * up d * down e)

eq_fin : (f : Format) (s : Bool) (m : ℕ) (e : ℤ) (t : Bool) (n : ℕ) (d : ℤ) (b : Bool) → T (fits f (fin s m e)) → T (fits f (fin t n d)) → beq s t ≡ b
    → m * up e * down d ≡ n * up d * down e → T (b || eqb (m * up e * down d) 0) → Same (fin s m e) (fin t n d)
eq_fin f true m e true n d b p q c h k = ap plain (one_way f true m e n d p q h)
eq_fin f false m e false n d b p q c h k = ap plain (one_way f false m e n d p q h)
eq_fin f true m e false n d true p q c h k = absurd (true≢false (sym c))
eq_fin f false m e true n d true p q c h k = absurd (true≢false (sym c))
eq_fin f true m e false n d false p q c h k = let z = eqb→eq (m * up e * down d) 0 k in plain_zero true m e (no_size m e d z) ∙ sym (plain_zero false n d (no_size n d e (sym h ∙ z)))
eq_fin f false m e true n d false p q c h k = let z = eqb→eq (m * up e * down d) 0 k in plain_zero false m e (no_size m e d z) ∙ sym (plain_zero true n d (no_size n d e (sym h ∙ z)))

pub eq_same : (f : Format) (x y : Float) → T (fits f x) → T (fits f y) → T (eq x y) → Same x y
unfolding eq
eq_same f nan y p q h = absurd h
eq_same f (inf s) nan p q h = absurd h
eq_same f (inf true) (inf true) p q h = refl
eq_same f (inf true) (inf false) p q h = absurd h
eq_same f (inf false) (inf true) p q h = absurd h
eq_same f (inf false) (inf false) p q h = refl
eq_same f (inf s) (fin t n d) p q h = absurd h
eq_same f (fin s m e) nan p q h = absurd h
eq_same f (fin s m e) (inf t) p q h = absurd h
eq_same f (fin s m e) (fin t n d) p q h =
    let a = m * up e * down d in
    let b = n * up d * down e in
    eq_fin f s m e t n d (beq s t) p q refl (eqb→eq a b (and_l (eqb a b) (beq s t || eqb a 0) h)) (and_r (eqb a b) (beq s t || eqb a 0) h)

-- ---- the two zeros
scaled : (b k : ℕ) → 0 < k → ltb 0 (b * k) ≡ ltb 0 (b * 1)
scaled zero k h = ap (λ (z : ℕ). ltb 0 z) (zero-mul k ∙ sym (zero-mul 1))
scaled (suc b) k h = lt-ltb 0 (suc b * k) (mul-pos (zero-lt-suc b) h) ∙ sym (lt-ltb 0 (suc b * 1) (mul-pos (zero-lt-suc b) (zero-lt-suc 0)))

from_zero : (s : Bool) (a : ℕ) (t : Bool) (b : ℕ) → a ≡ 0 → below s a t b ≡ (not t && ltb 0 b)
from_zero false a false b e = ap (λ (z : ℕ). ltb z b) e
from_zero false a true b e = refl
from_zero true a false b e = ap (λ (z : ℕ). ltb 0 (z + b)) e ∙ ap (λ (z : ℕ). ltb 0 z) (zero-add b)
from_zero true a true b e = ap (λ (z : ℕ). ltb b z) e ∙ le-ltb b 0 zero-le

to_zero : (t : Bool) (b : ℕ) (s : Bool) (a : ℕ) → a ≡ 0 → below t b s a ≡ (t && ltb 0 b)
to_zero false b false a e = ap (λ (z : ℕ). ltb b z) e ∙ le-ltb b 0 zero-le
to_zero false b true a e = refl
to_zero true b false a e = ap (λ (z : ℕ). ltb 0 (b + z)) e ∙ ap (λ (z : ℕ). ltb 0 z) (add-zero b)
to_zero true b true a e = ap (λ (z : ℕ). ltb z b) e

none : (e d : ℤ) → 0 * up e * down d ≡ 0
none e d = ap (λ (z : ℕ). z * down d) (zero-mul (up e)) ∙ zero-mul (down d)

pub lt_plain_l : (x y : Float) → lt x y ≡ lt (plain x) y
unfolding lt
lt_plain_l nan y = refl
lt_plain_l (inf s) y = refl
lt_plain_l (fin s (suc m) e) y = refl
lt_plain_l (fin s zero e) nan = refl
lt_plain_l (fin s zero e) (inf t) = refl
lt_plain_l (fin s zero e) (fin t n d) =
    from_zero s (0 * up e * down d) t (n * up d * down e) (none e d)
    ∙ ap (λ (b : Bool). not t && b) (scaled (n * up d) (down e) (down_pos e))
    ∙ sym (from_zero false (0 * 1 * down d) t (n * up d * 1) (none (pos 0) d))

pub lt_plain_r : (x y : Float) → lt y x ≡ lt y (plain x)
unfolding lt
lt_plain_r nan y = refl
lt_plain_r (inf s) y = refl
lt_plain_r (fin s (suc m) e) y = refl
lt_plain_r (fin s zero e) nan = refl
lt_plain_r (fin s zero e) (inf t) = refl
lt_plain_r (fin s zero e) (fin t n d) =
    to_zero t (n * up d * down e) s (0 * up e * down d) (none e d)
    ∙ ap (λ (b : Bool). t && b) (scaled (n * up d) (down e) (down_pos e))
    ∙ sym (to_zero t (n * up d * 1) false (0 * 1 * down d) (none (pos 0) d))

pub lt_same : (x x' y y' : Float) → Same x x' → Same y y' → lt x y ≡ lt x' y'
lt_same x x' y y' p q =
    lt_plain_l x y ∙ ap (λ (z : Float). lt z y) p ∙ sym (lt_plain_l x' y) ∙ lt_plain_r y x' ∙ ap (λ (z : Float). lt x' z) q ∙ sym (lt_plain_r y' x')

pub eq_zeros : (x y : Float) → Zero x → Zero y → eq x y ≡ true
unfolding eq
eq_zeros nan y p q = cc
eq_zeros (inf s) y p q = cc
eq_zeros (fin s (suc m) e) y p q = cc
eq_zeros (fin s zero e) nan p q = cc
eq_zeros (fin s zero e) (inf t) p q = cc
eq_zeros (fin s zero e) (fin t (suc n) d) p q = cc
eq_zeros (fin s zero e) (fin t zero d) p q =
    (λ i. eq-eqb (0 * up e * down d) (0 * up d * down e) (none e d ∙ sym (none d e)) i && (beq s t || eq-eqb (0 * up e * down d) 0 (none e d) i)) ∙ or_true (beq s t)
  where
    or_true : (b : Bool) → b || true ≡ true
    or_true true = refl
    or_true false = refl
