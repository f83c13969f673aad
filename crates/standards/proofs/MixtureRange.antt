-- On numbers from 0 to 1 the sum of a mixture, three shares of colours up to 1, rounds to at most 1. Assumes nothing.
use mathlib.Core.Path.{◌≡◌, refl, sym, subst}
use Prim.Native.Nat.{ℕ, ◌+◌, ◌-◌, ◌*◌, ◌≤◌}
use native.Mathlib.Nat.{le_trans}
use native.Mathlib.Omega.{arith}
use lib.Dec.{lit<}
use lib.Ieee.{Float, binary32}
use lib.Ieee.Fits.{add-fits}
use lib.Ieee.Scale.{grid}
use Rattle.float_steps.specs.Notation.{◌⊕◌, ◌⊖◌, ◌⊗◌, f1}
use Rattle.ieee_laws.specs.Same.{plain, Same}
use Rattle.ieee_laws.specs.Size.{AtMost, Unsigned, Counts}
use Rattle.ieee_laws.proofs.Zero.{plain_twice, add_same, mul_same, sub_same}
use Rattle.ieee_laws.proofs.Units.{add_counts, round_counts}
use Rattle.standards.proofs.Conventions.{spread, co_by}
use Rattle.standards.specs.Range.{InUnit}
use Rattle.standards.proofs.InRange.{unsigned, in_unit_same, plain_in}
use Rattle.standards.proofs.Mixture.{mixture}
use Rattle.standards.proofs.UnitSteps.{up_to_one, E, U, H, M, R, g, Part, part, bounded, M_pos, total, times, less, product_of, complement, sum}

-- v, s and d are colours, x and y alphas
mixed : (x y v s d : Float) (a b c e h : ℕ) → Part x a → Part y b → Part v c → Part s e → Part d h
    → AtMost 1 (x ⊗ y ⊗ v ⊕ (x ⊗ (f1 ⊖ y) ⊗ s ⊕ y ⊗ (f1 ⊖ x) ⊗ d)) × Unsigned (x ⊗ y ⊗ v ⊕ (x ⊗ (f1 ⊖ y) ⊗ s ⊕ y ⊗ (f1 ⊖ x) ⊗ d))
mixed x y v s d a b c e h px py pv ps pd =
    subst (λ (z : Float). AtMost 1 z × Unsigned z) (sym is) (up_to_one (p' + t) all)
  where
    X : ℕ
    X = grid binary32 (M - a) M

    Y : ℕ
    Y = grid binary32 (M - b) M

    p' : ℕ
    p' = g (g a b) c

    q' : ℕ
    q' = g (g a Y) e

    r' : ℕ
    r' = g (g b X) h

    t : ℕ
    t = grid binary32 (q' + r') M

    qpart : Part (x ⊗ (f1 ⊖ y) ⊗ s) q'
    qpart = times (times px (less py)) ps

    rpart : Part (y ⊗ (f1 ⊖ x) ⊗ d) r'
    rpart = times (times py (less px)) pd

    bound : g a b + t ≤ M + 4 * E
    bound =
        mixture E U H M (lit< tt) refl refl refl a b X Y (g a b) (g a Y) (g b X) q' r' t px.most py.most px.fine py.fine (complement a px.most px.fine) (complement b py.most py.fine)
        (product_of px py) (product_of px (less py)) (product_of py (less px)) (product_of (times px (less py)) ps).le_l (product_of (times py (less px)) pd).le_l (sum q' r' qpart.most rpart.most)

    all : p' + t ≤ M + 4 * E
    all = le_trans (add_le p' (g a b) t (product_of (times px py) pv).le_l) bound
      where
        add_le : (m n k : ℕ) → m ≤ n → m + k ≤ n + k
        add_le m n k h = omega arith

    sum_counts : Counts binary32 (x ⊗ (f1 ⊖ y) ⊗ s ⊕ y ⊗ (f1 ⊖ x) ⊗ d) t
    sum_counts = subst (λ (z : Float). Counts binary32 z t) (sym (add_counts binary32 (x ⊗ (f1 ⊖ y) ⊗ s) (y ⊗ (f1 ⊖ x) ⊗ d) q' r' qpart.is rpart.is)) (round_counts binary32 (q' + r') M (bounded (q' + r') M M_pos (total q' r' qpart.most rpart.most)))

    is : x ⊗ y ⊗ v ⊕ (x ⊗ (f1 ⊖ y) ⊗ s ⊕ y ⊗ (f1 ⊖ x) ⊗ d) ≡ R (p' + t) M
    is = add_counts binary32 (x ⊗ y ⊗ v) (x ⊗ (f1 ⊖ y) ⊗ s ⊕ y ⊗ (f1 ⊖ x) ⊗ d) p' t (times (times px py) pv).is sum_counts

-- ---- with either zero
pub mixed_in : {v s sa d da : Float} → InUnit v → InUnit s → InUnit sa → InUnit d → InUnit da → InUnit (co_by spread v s sa d da)
mixed_in {v} {s} {sa} {d} {da} pv ps psa pd pda = by (of psa) (of pda) (of pv) (of ps) (of pd)
  where
    of : {x : Float} → InUnit x → (n : ℕ) × Part (plain x) n
    of p = part (plain_in p) (unsigned p)

    clear : (x : Float) → Same x (plain x)
    clear x = sym (plain_twice x)

    same : Same (co_by spread v s sa d da) (co_by spread (plain v) (plain s) (plain sa) (plain d) (plain da))
    same =
        add_same binary32 _ _ _ _ (mul_same binary32 _ _ _ _ (mul_same binary32 _ _ _ _ (clear sa) (clear da)) (clear v))
        (add_same binary32 _ _ _ _ (mul_same binary32 _ _ _ _ (mul_same binary32 _ _ _ _ (clear sa) (sub_same binary32 _ _ _ _ refl (clear da))) (clear s)) (mul_same binary32 _ _ _ _ (mul_same binary32 _ _ _ _ (clear da) (sub_same binary32 _ _ _ _ refl (clear sa))) (clear d)))

    by : (n : ℕ) × Part (plain sa) n → (n : ℕ) × Part (plain da) n → (n : ℕ) × Part (plain v) n → (n : ℕ) × Part (plain s) n → (n : ℕ) × Part (plain d) n → InUnit (co_by spread v s sa d da)
    by (a, pa) (b, pb) (c, pc) (e, pe) (h, ph) =
        let r = mixed (plain sa) (plain da) (plain v) (plain s) (plain d) a b c e h pa pb pc pe ph in
        in_unit_same (co_by spread v s sa d da) (co_by spread (plain v) (plain s) (plain sa) (plain d) (plain da)) (add-fits binary32 (sa ⊗ da ⊗ v) _) same r.1 r.0
