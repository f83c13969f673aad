-- A number from 0 to 1 and 1 less it, each step rounded, sum to 1: the complement errs by at most half of the spacing below 1, and all that
-- lies so near to 1 rounds to it. So Atop's coverage is 1 where the picture whose alpha is kept is opaque, and Over's on an opaque one. Assumes nothing.
use mathlib.Core.Path.{◌≡◌, refl, sym, ap, ◌∙◌, subst}
use mathlib.Core.Bool.{Bool, true, false}
use Prim.Native.Nat.{ℕ, ◌+◌, ◌-◌, ◌*◌, ◌^◌, ◌≤◌, ◌<◌}
use native.Mathlib.Nat.{le_trans, le_of_eq, le_antisymm, lt_of_le_of_lt, mul_comm, mul_right_comm, one-mul, mul-div_cancel}
use native.Mathlib.Nat.{mul-le-mul_right, le_of_mul-le-mul_right, add-mul}
use native.Mathlib.Omega.{arith}
use lib.IntN.{pos}
use lib.Dec.{T, ltb, lit≤}
use lib.Ieee.{Float, binary32, of_bits, round, le}
use lib.Ieee.Fits.{round-fits, sub-fits}
use lib.Ieee.Order.{round_mono}
use lib.Ieee.Scale.{grid}
use borrow.Author.Tests.{ltb-true, ltb-false}
use Rattle.float_steps.specs.Notation.{◌⊕◌, ◌⊖◌, ◌⊗◌, f1}
use Rattle.ieee_laws.specs.Same.{plain, Same}
use Rattle.ieee_laws.specs.Size.{Counts, Near}
use Rattle.ieee_laws.proofs.Commute.{add_commutes}
use Rattle.ieee_laws.proofs.Zero.{plain_twice, of_plain, times_zero, zero_plus, add_same, sub_same}
use Rattle.ieee_laws.proofs.Clamp.{one_fits}
use Rattle.ieee_laws.proofs.Units.{add_counts, round_counts, round_within, round_at_least, round_of, counts_le, count_at_most}
use Rattle.standards.specs.PorterDuff.{AoverB, BoverA, AatopB, BatopA, coverage}
use Rattle.standards.specs.Range.{InUnit}
use Rattle.standards.proofs.Constants.{one_is, by_one, one_by, nought}
use Rattle.standards.proofs.InRange.{unsigned, finite_of_lem, plain_in}
use Rattle.standards.proofs.UnitSteps.{up_to_one, E, M, R, Part, part, bounded, M_pos, one_counts, less, complement}

-- ---- what is below 1 by half of the spacing there is a tie, which goes to 1
tie_at_one : R (M - 2 * E) M ≡ f1
unfolding round of_bits
tie_at_one = refl

-- so what is no further below, and no more than the spacing above, rounds to 1
to_one : (n : ℕ) → M ≤ n + 2 * E → n ≤ M + 4 * E → R n M ≡ f1
to_one n low high =
    sym (round_of binary32 (R n M) (grid binary32 n M) (round-fits binary32 false n M) counts)
    ∙ ap (λ (z : ℕ). R z M) (le_antisymm most least)
    ∙ round_of binary32 f1 M one_fits one_counts
  where
    counts : Counts binary32 (R n M) (grid binary32 n M)
    counts = round_counts binary32 n M (bounded n M M_pos (le_trans high (lit≤ tt)))

    most : grid binary32 n M ≤ M
    most = le_trans (count_at_most binary32 1 (R n M) (grid binary32 n M) (up_to_one n high).0 counts) (le_of_eq (one-mul M))

    cut : (m n e : ℕ) → m ≤ n + e → m - e ≤ n
    cut m n e h = omega arith

    least : M ≤ grid binary32 n M
    least =
        counts_le binary32 f1 (R n M) M (grid binary32 n M) one_counts counts
        (subst (λ (z : Float). T (le z (R n M))) tie_at_one (round_mono binary32 (M - 2 * E) M n M M_pos M_pos (mul-le-mul_right M (cut M n (2 * E) low))))

-- ---- the complement errs by half of the spacing at most, downwards too
lower_whole : (a j : ℕ) → a < 2 ^ (24 + j) → a * 2 ≤ grid binary32 a M * 2 + 2 ^ j
lower_whole a j h = le_of_mul-le-mul_right (le_trans (le_of_eq (mul_right_comm a 2 M)) (le_trans n.1 (le_of_eq right))) M_pos
  where
    n : Near (grid binary32 a M * M) (a * M) (M * 2 ^ j)
    n = round_within binary32 a M j M_pos (lt_of_le_of_lt (le_of_eq (mul-div_cancel a M_pos)) h)

    right : grid binary32 a M * M * 2 + M * 2 ^ j ≡ (grid binary32 a M * 2 + 2 ^ j) * M
    right = (λ i. mul_right_comm (grid binary32 a M) M 2 i + mul_comm M (2 ^ j) i) ∙ sym (add-mul (grid binary32 a M * 2) (2 ^ j) M)

not_less : (a : ℕ) → a ≤ M → M ≤ a + grid binary32 (M - a) M + 2 * E
not_less a la = go (ltb 0 a) (ltb-true 0 a) (ltb-false 0 a)
  where
    strict : (m a : ℕ) → 0 < a → 0 < m → m - a < m
    strict m a h k = omega arith

    moved : (m a g e : ℕ) → (m - a) * 2 ≤ g * 2 + e * 4 → m ≤ a + g + 2 * e
    moved m a g e h = omega arith

    all : (m a : ℕ) → a ≤ 0 → m ≤ m - a
    all m a h = omega arith

    slack : (m a g e : ℕ) → m ≤ g → m ≤ a + g + e
    slack m a g e h = omega arith

    twice : (m a : ℕ) → m - a ≤ 2 * m
    twice m a = omega arith

    go : (t : Bool) → (t ≡ true → 0 < a) → (t ≡ false → a ≤ 0) → M ≤ a + grid binary32 (M - a) M + 2 * E
    go true h k = moved M a (grid binary32 (M - a) M) E (lower_whole (M - a) 125 (strict M a (h refl) M_pos))
    go false h k =
        slack M a (grid binary32 (M - a) M) (2 * E)
        (round_at_least binary32 (M - a) M M f1 M_pos (bounded (M - a) M M_pos (twice M a)) one_fits one_counts (mul-le-mul_right M (all M a (k refl))))

-- ---- the sum
clear_sum : {x : Float} {a : ℕ} → Part x a → x ⊕ (f1 ⊖ x) ≡ f1
clear_sum {x} {a} p =
    add_counts binary32 x (f1 ⊖ x) a (grid binary32 (M - a) M) p.is (less p).is
    ∙ to_one (a + grid binary32 (M - a) M) (not_less a p.most) (more a (grid binary32 (M - a) M) M E (complement a p.most p.fine).near)
  where
    more : (a g m e : ℕ) → g + a ≤ m + 2 * e → a + g ≤ m + 4 * e
    more a g m e h = omega arith

-- either zero included
pub whole_again : {x : Float} → InUnit x → x ⊕ (f1 ⊖ x) ≡ f1
whole_again {x} p = of_plain (x ⊕ (f1 ⊖ x)) false 0 (pos 0) (same ∙ ap plain one_is) ∙ sym one_is
  where
    clear : Same x (plain x)
    clear = sym (plain_twice x)

    same : Same (x ⊕ (f1 ⊖ x)) f1
    same =
        add_same binary32 x (plain x) (f1 ⊖ x) (f1 ⊖ plain x) clear (sub_same binary32 f1 f1 x (plain x) refl clear)
        ∙ ap plain (clear_sum (part (plain_in p) (unsigned p)).1)

-- ---- Atop over an opaque picture, and DstAtop
shares : (x : Float) → InUnit x → x ⊗ f1 ⊕ f1 ⊗ (f1 ⊖ x) ≡ f1
shares x p = (λ i. by_one x p.held i ⊕ one_by (f1 ⊖ x) (sub-fits binary32 f1 x) i) ∙ whole_again p

pub atop_opaque : (αA αB : Float) → InUnit αA → αB ≡ f1 → Same αB (coverage AatopB αA αB)
atop_opaque αA αB p e = ap plain (e ∙ sym (shares αA p) ∙ ap (λ (z : Float). αA ⊗ z ⊕ z ⊗ (f1 ⊖ αA)) (sym e))

pub dst_atop_opaque : (αA αB : Float) → InUnit αB → αA ≡ f1 → Same αA (coverage BatopA αA αB)
dst_atop_opaque αA αB p e = atop_opaque αB αA p e ∙ ap plain (add_commutes binary32 (αB ⊗ αA) (αA ⊗ (f1 ⊖ αB)))

-- ---- Over and DstOver on an opaque picture: all is covered
pub over_opaque : (αA αB : Float) → InUnit αA → αB ≡ f1 → Same (coverage AoverB αA αB) f1
over_opaque αA αB p e = ap plain (ap (λ (z : Float). αA ⊗ f1 ⊕ z ⊗ (f1 ⊖ αA)) e ∙ shares αA p)

pub dst_over_opaque : (αA αB : Float) → InUnit αA → αB ≡ f1 → Same (coverage BoverA αA αB) f1
dst_over_opaque αA αB p e =
    ap (λ (z : Float). plain (αA ⊗ (f1 ⊖ z) ⊕ z ⊗ f1)) e
    ∙ ap (λ (z : Float). plain (αA ⊗ (f1 ⊖ f1) ⊕ z)) (by_one f1 one_fits)
    ∙ zero_plus binary32 (αA ⊗ (f1 ⊖ f1)) f1 one_fits (times_zero binary32 αA (f1 ⊖ f1) (finite_of_lem p) nought)
