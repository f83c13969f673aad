-- On numbers from 0 to 1 a product over one of its factors, each step rounded, lies within 0 and 1: the product is never above that factor. Assumes nothing.
use mathlib.Core.Path.{◌≡◌, refl, sym, ap, ◌∙◌, subst}
use mathlib.Core.Bool.{Bool, true, false, cond, true≢false}
use Prim.Native.Nat.{ℕ, zero, suc, ◌*◌, ◌≤◌, ◌<◌}
use native.Mathlib.Nat.{le_trans, le_of_eq, mul_right_comm, one-mul, mul-pos, mul-le-mul_right, le_of_mul-le-mul_right, zero-lt-suc}
use lib.Dec.{eqb, eqb-suc-zero, lit≤}
use lib.Ieee.{Float, nan, inf, fin, binary32, up, down, div, round, eq}
use lib.Ieee.Fits.{div-fits, up_pos, down_pos}
use Rattle.float_steps.specs.Notation.{◌⊗◌, ◌⊘◌, f0}
use Rattle.ieee_laws.specs.Same.{plain, Same}
use Rattle.ieee_laws.specs.Size.{AtMost, Unsigned, Counts}
use Rattle.ieee_laws.proofs.Zero.{plain_twice, mul_same, div_same}
use Rattle.ieee_laws.proofs.Order.{eq_zeros}
use Rattle.ieee_laws.proofs.Bound.{round_bound, round_unsigned}
use Rattle.standards.specs.Range.{InUnit}
use Rattle.standards.proofs.Constants.{zero_is}
use Rattle.standards.proofs.InRange.{unsigned, in_unit_same, plain_in}
use Rattle.standards.proofs.BlendRange.{nonzero}
use Rattle.standards.proofs.UnitSteps.{M, M_pos, part, product_of, times}

-- a quotient of two numbers with a clear sign, the first not above the second
over : (x y : Float) (a b : ℕ) → Counts binary32 x a → Counts binary32 y b → eq y f0 ≡ false → a ≤ b → AtMost 1 (x ⊘ y) × Unsigned (x ⊘ y)
unfolding div
over nan y a b v w h l = absurd v
over (inf s) y a b v w h l = absurd v
over (fin s m e) nan a b v w h l = absurd w
over (fin s m e) (inf t) a b v w h l = absurd w
over (fin true m e) (fin t n d) a b v w h l = absurd (true≢false v.0)
over (fin false m e) (fin true n d) a b v w h l = absurd (true≢false w.0)
over (fin false m e) (fin false zero d) a b v w h l = absurd (true≢false (sym (eq_zeros (fin false 0 d) f0 refl zero_is) ∙ h))
over (fin false m e) (fin false (suc n) d) a b v w h l =
    subst (λ (z : Float). AtMost 1 z × Unsigned z) (sym is)
    (round_bound binary32 1 (lit≤ tt) false A B positive (le_trans small (le_of_eq (sym (one-mul B)))), round_unsigned binary32 A B)
  where
    A : ℕ
    A = m * up e * down d

    B : ℕ
    B = suc n * up d * down e

    positive : 0 < B
    positive = mul-pos (mul-pos (zero-lt-suc n) (up_pos d)) (down_pos e)

    is : fin false m e ⊘ fin false (suc n) d ≡ round binary32 false A B
    is = ap (λ (t : Bool). cond t (cond (eqb m 0) nan (inf false)) (round binary32 false A B)) (eqb-suc-zero n)

    left : A * M ≡ a * down e * down d
    left = mul_right_comm (m * up e) (down d) M ∙ ap (λ (z : ℕ). z * down d) v.1

    right : B * M ≡ b * down e * down d
    right = mul_right_comm (suc n * up d) (down e) M ∙ ap (λ (z : ℕ). z * down e) w.1 ∙ mul_right_comm b (down d) (down e)

    small : A ≤ B
    small = le_of_mul-le-mul_right (le_trans (le_of_eq left) (le_trans (mul-le-mul_right (down d) (mul-le-mul_right (down e) l)) (le_of_eq (sym right)))) M_pos

pub quotient_in : {x y : Float} → InUnit x → InUnit y → eq y f0 ≡ false → InUnit ((y ⊗ x) ⊘ y)
quotient_in {x} {y} p q h =
    in_unit_same ((y ⊗ x) ⊘ y) ((y ⊗ plain x) ⊘ y) (div-fits binary32 (y ⊗ x) y) same r.1 r.0
  where
    same : Same ((y ⊗ x) ⊘ y) ((y ⊗ plain x) ⊘ y)
    same = div_same binary32 (y ⊗ x) (y ⊗ plain x) y (mul_same binary32 y y x (plain x) refl (sym (plain_twice x)))

    r : AtMost 1 ((y ⊗ plain x) ⊘ y) × Unsigned ((y ⊗ plain x) ⊘ y)
    r =
        let (a, pa) = part (plain_in p) (unsigned p) in
        let (b, pb) = part q (nonzero y (unsigned q) h) in
        let z = times pb pa in
        over (y ⊗ plain x) y _ b z.is pb.is h (product_of pb pa).le_l
