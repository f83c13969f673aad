-- W3C's B of two numbers from 0 to 1: as rounded, it is one again. The modes with a proof of their own have a file each. Assumes nothing.
use mathlib.Core.Path.{◌≡◌, refl, sym, ap, ◌∙◌, subst}
use mathlib.Core.Bool.{Bool, true, false, cond, ◌||◌, ◌&&◌, true≢false}
use Prim.Native.Nat.{ℕ, zero, suc, ◌+◌, ◌-◌, ◌*◌, ◌≤◌, ◌<◌}
use native.Mathlib.Nat.{le_trans, le_of_eq, mul-le-mul_right, mul-pos, mul_assoc, mul_comm, mul-one, zero-mul}
use native.Mathlib.Omega.{arith}
use lib.IntN.{ℤ}
use lib.Dec.{T, ltb, eqb, lit≤}
use lib.Ieee.{Float, nan, inf, fin, binary32, up, down, of_bits, add, sub, div, neg, sum, round, fits, lt, eq, is_nan}
use lib.Ieee.Fits.{sub-fits, div-fits, down_pos}
use borrow.Author.Tests.{ltb-true, ltb-false, eq-eqb}
use Rattle.float_steps.specs.Notation.{◌⊖◌, ◌⊘◌, f0, f1}
use Rattle.float_steps.specs.Order.{smaller_of, larger_of}
use Rattle.float_steps.specs.Sign.{abs_of}
use Rattle.ieee_laws.specs.Same.{plain, Same}
use Rattle.ieee_laws.specs.Size.{AtMost, Unsigned}
use Rattle.ieee_laws.proofs.Zero.{plain_twice, sub_same, div_plain}
use Rattle.ieee_laws.proofs.Order.{lt_same}
use Rattle.ieee_laws.proofs.Bound.{round_bound, round_unsigned, plain_bound, same_bound}
use Rattle.ieee_laws.proofs.Clamp.{smaller_fits, one_fits}
use Rattle.ieee_laws.proofs.Abs.{abs_fits, abs_bound, abs_unsigned}
use Rattle.standards.specs.Compositing.{Mode, multiply, screen, overlay, darken, lighten, color_dodge, color_burn, hard_light, soft_light, difference, exclusion, B, color_dodge_b, color_burn_b}
use Rattle.standards.specs.Range.{InUnit}
use Rattle.standards.proofs.InRange.{at_most_one, unsigned, not_below, in_unit, zero_in, one_in, cond_in, product_in, one_less, complement_in}
use Rattle.standards.proofs.Screen.{screen_in}
use Rattle.standards.proofs.Exclusion.{exclusion_in}
use Rattle.standards.proofs.HardLight.{hard_in}
use Rattle.standards.proofs.SoftLight.{soft_in}

-- ---- 1
one_under : AtMost 1 f1
unfolding of_bits
one_under = lit≤ tt

-- ---- the smaller of 1 and a quotient that is not negative
below_one : (x : Float) → lt x f1 ≡ true → lt x f0 ≡ false → AtMost 1 x
unfolding lt of_bits
below_one nan h k = absurd (true≢false (sym h))
below_one (inf true) h k = absurd (true≢false k)
below_one (inf false) h k = absurd (true≢false (sym h))
below_one (fin false m e) h k = lower (m * up e) (down e) (ltb-true (m * up e * 1) (1 * 1 * down e) h)
  where
    lower : (a c : ℕ) → a * 1 < 1 * 1 * c → a ≤ 1 * c
    lower a c h = omega arith
below_one (fin true m e) h k = nothing (m * up e) (0 * 1 * down e) (down e) (ltb-false 0 (m * up e * 1 + 0 * 1 * down e) k)
  where
    nothing : (a b c : ℕ) → a * 1 + b ≤ 0 → a ≤ 1 * c
    nothing a b c h = omega arith

one_number : is_nan f1 ≡ false
unfolding of_bits is_nan
one_number = refl

pub capped : (x : Float) → lt x f0 ≡ false → AtMost 1 (smaller_of f1 x)
unfolding smaller_of
capped x h = subst (λ (b : Bool). AtMost 1 (cond b x (cond (lt x f1) x f1))) (sym one_number) (go (lt x f1) refl)
  where
    go : (b : Bool) → lt x f1 ≡ b → AtMost 1 (cond b x f1)
    go true e = below_one x e h
    go false e = one_under

-- 1 - x has a clear sign
pub less_plus : (x : Float) → Unsigned (plain x) → AtMost 1 x → Unsigned (f1 ⊖ x)
unfolding sub add neg sum of_bits
less_plus nan p u = absurd p
less_plus (inf s) p u = absurd u
less_plus (fin false m e) p u = subst Unsigned (sym (one_less m e u)) (round_unsigned binary32 (1 * 1 * down e - m * up e * 1) (1 * down e))
less_plus (fin true zero e) p u = round_unsigned binary32 (1 * 1 * down e + 0 * up e * 1) (1 * down e)
less_plus (fin true (suc m) e) p u = absurd p

pub ratio : (x y : Float) → Unsigned x → Unsigned y → lt (x ⊘ y) f0 ≡ false
unfolding div lt of_bits
ratio nan y p q = absurd p
ratio (inf true) y p q = absurd p
ratio (inf false) nan p q = refl
ratio (inf false) (inf t) p q = refl
ratio (inf false) (fin true n d) p q = absurd q
ratio (inf false) (fin false n d) p q = refl
ratio (fin true m e) y p q = absurd p
ratio (fin false m e) nan p q = refl
ratio (fin false m e) (inf true) p q = absurd q
ratio (fin false m e) (inf false) p q = refl
ratio (fin false m e) (fin true n d) p q = absurd q
ratio (fin false m e) (fin false n d) p q = go (eqb n 0) (eqb m 0)
  where
    go : (a b : Bool) → lt (cond a (cond b nan (inf false)) (round binary32 false (m * up e * down d) (n * up d * down e))) (of_bits binary32 0) ≡ false
    go true true = refl
    go true false = refl
    go false b = not_below (round binary32 false (m * up e * down d) (n * up d * down e)) (round_unsigned binary32 (m * up e * down d) (n * up d * down e))

pub ratio_plain : (x y : Float) → Unsigned (plain x) → Unsigned y → lt (x ⊘ y) f0 ≡ false
ratio_plain x y p q = lt_same (x ⊘ y) (plain x ⊘ y) f0 f0 (div_plain binary32 x y) refl ∙ ratio (plain x) y p q

-- a number that is not a zero has its own sign
pub nonzero : (x : Float) → Unsigned (plain x) → eq x f0 ≡ false → Unsigned x
unfolding eq of_bits
nonzero nan p h = p
nonzero (inf s) p h = p
nonzero (fin s (suc m) e) p h = p
nonzero (fin false zero e) p h = tt
nonzero (fin true zero e) p h = absurd (true≢false (sym (both (eqb (0 * up e * 1) (0 * 1 * down e)) (eqb (0 * up e * 1) 0) (eq-eqb (0 * up e * 1) (0 * 1 * down e) (a ∙ sym b)) (eq-eqb (0 * up e * 1) 0 a)) ∙ h))
  where
    a : 0 * up e * 1 ≡ 0
    a = mul-one (0 * up e) ∙ zero-mul (up e)

    b : 0 * 1 * down e ≡ 0
    b = zero-mul (down e)

    both : (u v : Bool) → u ≡ true → v ≡ true → u && (false || v) ≡ true
    both true true i j = refl
    both true false i j = absurd (true≢false (sym j))
    both false v i j = absurd (true≢false (sym i))

-- the smaller of 1 and what is not negative
cap_in : (x : Float) → T (fits binary32 x) → lt x f0 ≡ false → InUnit (smaller_of f1 x)
cap_in x h l = in_unit (smaller_of f1 x) (smaller_fits binary32 f1 x one_fits h) (low x l) (capped x l)
  where
    low : (x : Float) → lt x f0 ≡ false → lt (smaller_of f1 x) f0 ≡ false
    low x l = unfold smaller_of in go (is_nan f1) (lt x f1)
      where
        go : (u v : Bool) → lt (cond u x (cond v x f1)) f0 ≡ false
        go true v = l
        go false true = l
        go false false = one_in.low

dodge_in : (b s : Float) → InUnit b → InUnit s → InUnit (color_dodge_b b s)
unfolding color_dodge_b
dodge_in b s p q =
    let y = b ⊘ (f1 ⊖ s) in
    cond_in (eq b f0) f0 (cond (eq s f1) f1 (smaller_of f1 y)) zero_in
    (cond_in (eq s f1) f1 (smaller_of f1 y) one_in (cap_in y (div-fits binary32 b (f1 ⊖ s)) (ratio_plain b (f1 ⊖ s) (unsigned p) (less_plus s (unsigned q) (at_most_one q)))))

burn_in : (b s : Float) → InUnit b → InUnit s → InUnit (color_burn_b b s)
unfolding color_burn_b
burn_in b s p q = cond_in (eq b f1) f1 (cond (eq s f0) f0 (f1 ⊖ smaller_of f1 ((f1 ⊖ b) ⊘ s))) one_in (go (eq s f0) refl)
  where
    go : (v : Bool) → eq s f0 ≡ v → InUnit (cond v f0 (f1 ⊖ smaller_of f1 ((f1 ⊖ b) ⊘ s)))
    go true e = zero_in
    go false e =
        complement_in (cap_in ((f1 ⊖ b) ⊘ s) (div-fits binary32 (f1 ⊖ b) s) (ratio (f1 ⊖ b) s (less_plus b (unsigned p) (at_most_one p)) (nonzero s (unsigned q) e)))

-- ---- the size of a difference of two numbers from 0 to 1
apart : (m : ℕ) (e : ℤ) (n : ℕ) (d : ℤ) → m * up e ≤ 1 * down e → n * up d ≤ 1 * down d → AtMost 1 (fin false m e ⊖ fin false n d)
unfolding sub add neg sum
apart m e n d h k = go (ltb a b)
  where
    a : ℕ
    a = m * up e * down d

    b : ℕ
    b = n * up d * down e

    c : ℕ
    c = down e * down d

    ha : a ≤ 1 * c
    ha = le_trans (mul-le-mul_right (down d) h) (le_of_eq (mul_assoc 1 (down e) (down d)))

    hb : b ≤ 1 * c
    hb = le_trans (mul-le-mul_right (down e) k) (le_of_eq (mul_assoc 1 (down d) (down e) ∙ ap (λ (z : ℕ). 1 * z) (mul_comm (down d) (down e))))

    part : (x y z : ℕ) → x ≤ z → x - y ≤ z
    part x y z h = omega arith

    go : (v : Bool) → AtMost 1 (cond v (round binary32 true (b - a) c) (round binary32 (false && ltb b a) (a - b) c))
    go true = round_bound binary32 1 (lit≤ tt) true (b - a) c (mul-pos (down_pos e) (down_pos d)) (part b a (1 * c) hb)
    go false = round_bound binary32 1 (lit≤ tt) (false && ltb b a) (a - b) c (mul-pos (down_pos e) (down_pos d)) (part a b (1 * c) ha)

apart_in : (x y : Float) → Unsigned x → Unsigned y → AtMost 1 x → AtMost 1 y → AtMost 1 (x ⊖ y)
apart_in nan y p q h k = absurd p
apart_in (inf s) y p q h k = absurd h
apart_in (fin true m e) y p q h k = absurd p
apart_in (fin false m e) nan p q h k = absurd q
apart_in (fin false m e) (inf t) p q h k = absurd k
apart_in (fin false m e) (fin true n d) p q h k = absurd q
apart_in (fin false m e) (fin false n d) p q h k = apart m e n d h k

difference_in : (b s : Float) → InUnit b → InUnit s → InUnit (abs_of (b ⊖ s))
difference_in b s p q =
    let e : Same (b ⊖ s) (plain b ⊖ plain s) = sub_same binary32 b (plain b) s (plain s) (sym (plain_twice b)) (sym (plain_twice s)) in
    let h = sub-fits binary32 b s in
    let u : AtMost 1 (b ⊖ s) = same_bound 1 (b ⊖ s) (plain b ⊖ plain s) e (apart_in (plain b) (plain s) (unsigned p) (unsigned q) (plain_bound 1 b (at_most_one p)) (plain_bound 1 s (at_most_one q))) in
    in_unit (abs_of (b ⊖ s)) (abs_fits (b ⊖ s)) (not_below (abs_of (b ⊖ s)) (abs_unsigned 1 (b ⊖ s) h u)) (abs_bound 1 (b ⊖ s) h u)

-- ---- every mode
pub blend_in_lem : (m : Mode) (b s : Float) → InUnit b → InUnit s → InUnit (B m b s)
blend_in_lem multiply b s p q = product_in p q
blend_in_lem screen b s p q = screen_in p q
blend_in_lem overlay b s p q = hard_in s b q p
blend_in_lem darken b s p q = unfold smaller_of in cond_in (is_nan b) s (cond (lt s b) s b) q (cond_in (lt s b) s b q p)
blend_in_lem lighten b s p q = unfold larger_of in cond_in (is_nan b) s (cond (lt b s) s b) q (cond_in (lt b s) s b q p)
blend_in_lem color_dodge b s p q = dodge_in b s p q
blend_in_lem color_burn b s p q = burn_in b s p q
blend_in_lem hard_light b s p q = hard_in b s p q
blend_in_lem soft_light b s p q = soft_in b s p q
blend_in_lem difference b s p q = difference_in b s p q
blend_in_lem exclusion b s p q = exclusion_in p q
