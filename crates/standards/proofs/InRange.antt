-- Numbers from 0 to 1: their sizes and signs, their products, and 1 less one of them. Assumes nothing.
use mathlib.Core.Path.{◌≡◌, refl, sym, ap, ◌∙◌, subst}
use mathlib.Core.Bool.{Bool, true, false, cond, true≢false}
use Prim.Native.Nat.{ℕ, zero, suc, ◌+◌, ◌-◌, ◌*◌, ◌^◌, ◌≤◌, ◌<◌, zero-le}
use native.Mathlib.Nat.{mul-one, le_trans, le_of_eq, zero-mul, zero-lt-suc, mul-pos, lt_of_lt_of_le, mul-le-mul_right}
use native.Mathlib.Omega.{arith}
use lib.IntN.{ℤ}
use lib.Dec.{T, lt→ltb, lit≤}
use lib.Ieee.{Float, nan, inf, fin, binary32, up, down, of_bits, add, sub, neg, sum, fits, lt, is_nan, round}
use lib.Ieee.Fits.{mul-fits, sub-fits, up_pos, down_pos}
use lib.Ieee.Scale.{finite}
use borrow.Author.Tests.{ltb-false, le-ltb}
use Rattle.float_steps.specs.Notation.{◌⊖◌, ◌⊗◌, f0, f1}
use Rattle.ieee_laws.specs.Same.{plain, Same}
use Rattle.ieee_laws.specs.Size.{AtMost, Unsigned, doubles}
use Rattle.ieee_laws.proofs.Zero.{plain_twice, mul_same, sub_same}
use Rattle.ieee_laws.proofs.Order.{lt_same}
use Rattle.ieee_laws.proofs.Bound.{at_most_finite, mul_bound, plain_bound, same_bound, mul_unsigned, round_bound, round_unsigned}
use Rattle.ieee_laws.proofs.Clamp.{zero_fits, one_fits}
use Rattle.pictures.specs.declared.Rgba.{Rgba}
use Rattle.standards.specs.Operators.{Colour, red, green, blue, at, Held}
use Rattle.standards.specs.Range.{InUnit, InUnits}

-- ---- sizes and signs
single : (a c : ℕ) → a * 1 ≤ 1 * 1 * c → a ≤ 1 * c
single a c h = omega arith

nothing : (a b c : ℕ) → a * 1 + b ≤ 0 → a ≤ 1 * c
nothing a b c h = omega arith

between : (x : Float) → lt x f0 ≡ false → lt f1 x ≡ false → is_nan x ≡ false → AtMost 1 x
unfolding lt of_bits is_nan
between nan h k n = absurd (true≢false n)
between (inf true) h k n = absurd (true≢false h)
between (inf false) h k n = absurd (true≢false k)
between (fin false m e) h k n = single (m * up e) (down e) (ltb-false (1 * 1 * down e) (m * up e * 1) k)
between (fin true m e) h k n = nothing (m * up e) (0 * 1 * down e) (down e) (ltb-false 0 (m * up e * 1 + 0 * 1 * down e) h)

pub at_most_one : {x : Float} → InUnit x → AtMost 1 x
at_most_one {x} p = between x p.low p.high p.number

pub finite_of_lem : {x : Float} → InUnit x → T (finite x)
finite_of_lem {x} p = at_most_finite 1 x (at_most_one p)

-- the sign is clear, that of -0 apart
pub not_negative : (x : Float) → lt x f0 ≡ false → is_nan x ≡ false → Unsigned (plain x)
unfolding lt of_bits is_nan
not_negative nan h n = absurd (true≢false n)
not_negative (inf true) h n = absurd (true≢false h)
not_negative (inf false) h n = tt
not_negative (fin s zero e) h n = tt
not_negative (fin false (suc m) e) h n = tt
not_negative (fin true (suc m) e) h n =
    absurd (none (suc m * up e) (0 * 1 * down e) (mul-pos (zero-lt-suc m) (up_pos e)) (ltb-false 0 (suc m * up e * 1 + 0 * 1 * down e) h))
  where
    none : (a b : ℕ) → 0 < a → a * 1 + b ≤ 0 → ⊥
    none a b p h = omega arith

pub unsigned : {x : Float} → InUnit x → Unsigned (plain x)
unsigned {x} p = not_negative x p.low p.number

pub not_below : (x : Float) → Unsigned x → lt x f0 ≡ false
unfolding lt of_bits
not_below nan p = absurd p
not_below (inf true) p = absurd p
not_below (inf false) p = refl
not_below (fin true m e) p = absurd p
not_below (fin false m e) p = le-ltb (m * up e * 1) (0 * 1 * down e) (subst (λ (z : ℕ). z ≤ m * up e * 1) (sym (ap (λ (z : ℕ). z * down e) (zero-mul 1) ∙ zero-mul (down e))) zero-le)

not_above : (x : Float) → AtMost 1 x → lt f1 x ≡ false
unfolding lt of_bits
not_above nan p = absurd p
not_above (inf s) p = absurd p
not_above (fin true m e) p = refl
not_above (fin false m e) p = le-ltb (1 * 1 * down e) (m * up e * 1) (le_trans (le_of_eq (mul-one (m * up e))) p)

a_number : (x : Float) → AtMost 1 x → is_nan x ≡ false
unfolding is_nan
a_number nan p = absurd p
a_number (inf s) p = refl
a_number (fin s m e) p = refl

pub in_unit : (x : Float) → T (fits binary32 x) → lt x f0 ≡ false → AtMost 1 x → InUnit x
in_unit x h l u = record { held = h; number = a_number x u; low = l; high = not_above x u }

-- of a value that is one with a clear sign, but for a zero's
pub in_unit_same : (x y : Float) → T (fits binary32 x) → Same x y → Unsigned y → AtMost 1 y → InUnit x
in_unit_same x y h e p u = in_unit x h (lt_same x y f0 f0 e refl ∙ not_below y p) (same_bound 1 x y e u)

pub same_in : (x y : Float) → T (fits binary32 x) → Same x y → InUnit y → InUnit x
same_in x y h e q = in_unit_same x (plain y) h (e ∙ sym (plain_twice y)) (unsigned q) (plain_bound 1 y (at_most_one q))

pub zero_in : InUnit f0
unfolding of_bits lt is_nan
zero_in = record { held = zero_fits; number = refl; low = refl; high = refl }

pub one_in : InUnit f1
unfolding of_bits lt is_nan
one_in = record { held = one_fits; number = refl; low = refl; high = refl }

pub cond_in : (b : Bool) (x y : Float) → InUnit x → InUnit y → InUnit (cond b x y)
cond_in true x y p q = p
cond_in false x y p q = q

-- ---- products
plain_finite : {x : Float} → InUnit x → T (finite (plain x))
plain_finite {x} p = at_most_finite 1 (plain x) (plain_bound 1 x (at_most_one p))

pub product_in : {x y : Float} → InUnit x → InUnit y → InUnit (x ⊗ y)
product_in {x} {y} p q =
    in_unit_same (x ⊗ y) (plain x ⊗ plain y) (mul-fits binary32 x y) (mul_same binary32 x (plain x) y (plain y) (sym (plain_twice x)) (sym (plain_twice y)))
    (mul_unsigned binary32 (plain x) (plain y) (unsigned p) (unsigned q) (plain_finite p) (plain_finite q))
    (mul_bound binary32 1 1 (lit≤ tt) (plain x) (plain y) (plain_bound 1 x (at_most_one p)) (plain_bound 1 y (at_most_one q)))

-- ---- 1 - x
room : (m : ℕ) (e : ℤ) → m * up e ≤ 1 * down e → m * up e * 1 ≤ 1 * 1 * down e
room m e h = le_trans (le_of_eq (mul-one (m * up e))) h

pub one_less : (m : ℕ) (e : ℤ) → m * up e ≤ 1 * down e → f1 ⊖ fin false m e ≡ round binary32 false (1 * 1 * down e - m * up e * 1) (1 * down e)
unfolding sub add neg sum of_bits
one_less m e h = ap (λ (b : Bool). cond b (round binary32 true (m * up e * 1 - 1 * 1 * down e) (1 * down e)) (round binary32 false (1 * 1 * down e - m * up e * 1) (1 * down e))) (le-ltb (1 * 1 * down e) (m * up e * 1) (room m e h))

less_in : (x : Float) → Unsigned x → AtMost 1 x → Unsigned (f1 ⊖ x) × AtMost 1 (f1 ⊖ x)
less_in nan p u = absurd p
less_in (inf s) p u = absurd u
less_in (fin true m e) p u = absurd p
less_in (fin false m e) p u =
    let n = 1 * 1 * down e - m * up e * 1 in (
      subst Unsigned (sym (one_less m e u)) (round_unsigned binary32 n (1 * down e)),
      subst (AtMost 1) (sym (one_less m e u)) (round_bound binary32 1 (lit≤ tt) false n (1 * down e) (mul-pos (zero-lt-suc 0) (down_pos e)) (cut (m * up e * 1) (down e))),
    )
  where
    cut : (a c : ℕ) → 1 * 1 * c - a ≤ 1 * (1 * c)
    cut a c = omega arith

pub complement_in : {x : Float} → InUnit x → InUnit (f1 ⊖ x)
complement_in {x} p =
    let q = less_in (plain x) (unsigned p) (plain_bound 1 x (at_most_one p)) in
    in_unit_same (f1 ⊖ x) (f1 ⊖ plain x) (sub-fits binary32 f1 x) (sub_same binary32 f1 f1 x (plain x) refl (sym (plain_twice x))) q.0 q.1

-- ---- +0 for -0
pub plain_in : {x : Float} → InUnit x → InUnit (plain x)
plain_in {x} p = in_unit (plain x) (plain_fits x p.held) (lt_same (plain x) x f0 f0 (plain_twice x) refl ∙ p.low) (plain_bound 1 x (at_most_one p))
  where
    plain_fits : (x : Float) → T (fits binary32 x) → T (fits binary32 (plain x))
    plain_fits nan h = h
    plain_fits (inf s) h = h
    plain_fits (fin s (suc m) e) h = h
    plain_fits (fin s zero e) h = unfold fits in tt

-- ---- twice a number from 0 to 1 does not overflow
pub doubles_in : {x : Float} → InUnit x → T (doubles binary32 x)
doubles_in {x} p = each x (at_most_one p)
  where
    each : (x : Float) → AtMost 1 x → T (doubles binary32 x)
    each nan u = absurd u
    each (inf s) u = absurd u
    each (fin s m e) u = lt→ltb (m * up e * 2) (2 ^ 128 * down e) (lt_of_lt_of_le (four (m * up e) (down e) (down_pos e) u) (mul-le-mul_right (down e) (lit≤ tt)))
      where
        four : (a c : ℕ) → 0 < c → a ≤ 1 * c → a * 2 < 4 * c
        four a c p h = omega arith

-- ---- pixels
pub unit_at : (c : Colour) (p : Rgba) → InUnits p → InUnit (at c p)
unit_at red p h = h.r
unit_at green p h = h.g
unit_at blue p h = h.b

pub held_of : (p : Rgba) → InUnits p → Held p
held_of p h = record { r = h.r.held; g = h.g.held; b = h.b.held; a = h.a.held }
