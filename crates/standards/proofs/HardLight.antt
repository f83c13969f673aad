-- On numbers from 0 to 1 HardLight's blend lies within 0 and 1: a number up to a half doubles to one up to 1, and past a half 2 s - 1 is one again, so that
-- Screen's bound serves. In the units of UnitSteps.antt. Assumes nothing.
use mathlib.Core.Path.{◌≡◌, refl, sym, ap, ◌∙◌, subst}
use mathlib.Core.Bool.{Bool, true, false, cond, ◌||◌, true≢false}
use Prim.Native.Nat.{ℕ, ◌-◌, ◌*◌, ◌≤◌}
use native.Mathlib.Nat.{le_trans, mul-le-mul_right}
use native.Mathlib.Omega.{arith}
use lib.Dec.{T, lit≤}
use lib.Ieee.{Float, binary32, of_bits, fits, lt, le, eq, is_nan}
use lib.Ieee.Fits.{mul-fits, sub-fits}
use Rattle.float_steps.specs.Notation.{◌⊕◌, ◌⊖◌, ◌⊗◌, f1, f2, half}
use Rattle.ieee_laws.specs.Same.{plain, Same}
use Rattle.ieee_laws.specs.Size.{AtMost, Unsigned, Counts}
use Rattle.ieee_laws.proofs.Zero.{plain_twice, mul_same, sub_same}
use Rattle.ieee_laws.proofs.Order.{lt_same, tie}
use Rattle.ieee_laws.proofs.Bound.{mul_unsigned, round_bound, round_unsigned, at_most_finite}
use Rattle.ieee_laws.proofs.Units.{sub_counts, counts_le, at_most_count, count_twice}
use Rattle.standards.specs.Compositing.{hard_light_b}
use Rattle.standards.specs.Range.{InUnit}
use Rattle.standards.proofs.Constants.{two_is, half_fits, same_half, is_half}
use Rattle.standards.proofs.InRange.{finite_of_lem, unsigned, in_unit_same, product_in, plain_in, doubles_in}
use Rattle.standards.proofs.UnitSteps.{H, M, R, M_pos, one_counts, half_counts, Part, part}
use Rattle.standards.proofs.Screen.{screen_in}

half_number : is_nan half ≡ false
unfolding is_nan of_bits
half_number = refl

level : eq half half ≡ true
unfolding eq of_bits
level = refl

two_unsigned : Unsigned f2
unfolding of_bits
two_unsigned = tt

two_finite : AtMost 2 f2
unfolding of_bits
two_finite = lit≤ tt

-- ---- the test, with +0 for -0
up_to : (s : Float) → T (fits binary32 s) → le s half ≡ true → T (le (plain s) half)
unfolding le
up_to s h k = go (lt s half) refl k
  where
    go : (b : Bool) → lt s half ≡ b → b || eq s half ≡ true → T (lt (plain s) half || eq (plain s) half)
    go true i k = subst (λ (b : Bool). T (b || eq (plain s) half)) (sym i ∙ lt_same s (plain s) half half (sym (plain_twice s)) refl) tt
    go false i k = subst (λ (z : Float). T (le (plain z) half)) (sym (is_half s h (subst T (sym k) tt))) (unfold of_bits le lt eq in tt)

past : (s : Float) → T (fits binary32 s) → is_nan s ≡ false → le s half ≡ false → lt half s ≡ true
unfolding le
past s h n k = go (lt half s) refl (lt s half) refl (eq s half) refl k
  where
    go : (b : Bool) → lt half s ≡ b → (u : Bool) → lt s half ≡ u → (v : Bool) → eq s half ≡ v → u || v ≡ false → b ≡ true
    go true i u j v l k = refl
    go false i true j v l k = absurd (true≢false k)
    go false i false j true l k = absurd (true≢false k)
    go false i false j false l k = absurd (true≢false (sym level ∙ ap (λ (z : Float). eq z half) (sym (same_half s (tie binary32 s half h half_fits n half_number j i))) ∙ l))

-- ---- 2 s, and 2 s - 1, by the count of s
module _ {s : Float} (p : InUnit s) where
  twice_is : Same (f2 ⊗ s) (f2 ⊗ plain s)
  twice_is = mul_same binary32 f2 f2 s (plain s) refl (sym (plain_twice s))

  twice_counts : {a : ℕ} → Part (plain s) a → Counts binary32 (f2 ⊗ plain s) (a * 2)
  twice_counts {a} q = subst (λ (z : Float). Counts binary32 (z ⊗ plain s) (a * 2)) (sym two_is) (count_twice binary32 (plain s) a q.held (doubles_in (plain_in p)) q.is)

  pub twice_in : le s half ≡ true → InUnit (f2 ⊗ s)
  twice_in k = by (part (plain_in p) (unsigned p))
    where
      by : (a : ℕ) × Part (plain s) a → InUnit (f2 ⊗ s)
      by (a, q) =
          in_unit_same (f2 ⊗ s) (f2 ⊗ plain s) (mul-fits binary32 f2 s) twice_is
          (mul_unsigned binary32 f2 (plain s) two_unsigned (unsigned p) (at_most_finite 2 f2 two_finite) (finite_of_lem (plain_in p)))
          (at_most_count binary32 1 (f2 ⊗ plain s) (a * 2) (twice_counts q)
          (le_trans (mul-le-mul_right 2 (counts_le binary32 (plain s) half a H q.is half_counts (up_to s p.held k))) (lit≤ tt)))

  pub rest_in : le s half ≡ false → InUnit (f2 ⊗ s ⊖ f1)
  unfolding le
  rest_in k = by (part (plain_in p) (unsigned p))
    where
      over : T (le half (plain s))
      over = subst (λ (b : Bool). T (b || eq half (plain s))) (sym (past s p.held p.number k) ∙ lt_same half half s (plain s) refl (sym (plain_twice s))) tt

      by : (a : ℕ) × Part (plain s) a → InUnit (f2 ⊗ s ⊖ f1)
      by (a, q) =
          in_unit_same (f2 ⊗ s ⊖ f1) (f2 ⊗ plain s ⊖ f1) (sub-fits binary32 (f2 ⊗ s) f1) (sub_same binary32 (f2 ⊗ s) (f2 ⊗ plain s) f1 f1 twice_is refl)
          (subst Unsigned (sym is) (round_unsigned binary32 (a * 2 - M) M))
          (subst (AtMost 1) (sym is) (round_bound binary32 1 (lit≤ tt) false (a * 2 - M) M M_pos (room a M q.most)))
        where
          room : (a m : ℕ) → a ≤ m → a * 2 - m ≤ 1 * m
          room a m h = omega arith

          is : f2 ⊗ plain s ⊖ f1 ≡ R (a * 2 - M) M
          is =
              sub_counts binary32 (f2 ⊗ plain s) f1 (a * 2) M (twice_counts q) one_counts
              (le_trans (lit≤ tt) (mul-le-mul_right 2 (counts_le binary32 half (plain s) H a half_counts q.is over)))

pub hard_in : (b s : Float) → InUnit b → InUnit s → InUnit (hard_light_b b s)
unfolding hard_light_b
hard_in b s p q = go (le s half) refl
  where
    go : (v : Bool) → le s half ≡ v → InUnit (cond v (b ⊗ (f2 ⊗ s)) (b ⊕ (f2 ⊗ s ⊖ f1) ⊖ b ⊗ (f2 ⊗ s ⊖ f1)))
    go true k = product_in p (twice_in q k)
    go false k = screen_in p (rest_in q k)
