-- Both pixels of `axis_of` lie on the side, for every coordinate and every side that has a pixel and whose numbers are f32s. Assumes nothing.
use Rattle.std.proofs.Common.{◌≡◌, ℕ, suc, ◌-◌, ◌*◌, ◌/◌, ◌^◌, ◌<◌, ◌≤◌, min, Bool, true, false, cond, not, T, pos, sym, refl, ap, ◌∙◌, subst, true≢false, le_trans, le_of_eq, lt_of_le_of_lt, suc-mul, div-lt_iff_lt-mul, mul-one, mul_right_comm, le_of_mul-le-mul_right, arith, lit<, ltb-false}
use lib.Ieee.{Float, nan, inf, fin, binary32, of_bits, up, down, lt, is_nan, of_int}
use lib.Ieee.Fits.{down_pos}
use lib.Ieee.Exact.{HasValue}
use lib.Ieee.Back.{round_whole}
use Rattle.float_steps.specs.Order.{clamp_of}
use Rattle.float_steps.specs.Whole.{floor_of}
use Rattle.float_steps.specs.Axis.{held_of, axis_at, axis_of}
use Rattle.float_steps.proofs.Choice.{never}
use Rattle.float_steps.proofs.WholePart.{floor_value}

-- ---- a coordinate that is held within 0 and n floors to n at most
floor_under : (hi v : Float) (n : ℕ) → HasValue hi false n 1 → lt hi v ≡ false → T (not (is_nan v)) → floor_of v ≤ n
unfolding lt floor_of is_nan
floor_under nan v n h l t = absurd h
floor_under (inf s) v n h l t = absurd h
floor_under (fin true m e) v n h l t = absurd (true≢false h.0)
floor_under (fin false m e) nan n h l t = absurd t
floor_under (fin false m e) (inf true) n h l t = omega arith
floor_under (fin false m e) (inf false) n h l t = never (sym l)
floor_under (fin false m e) (fin true k d) n h l t = omega arith
floor_under (fin false m e) (fin false k d) n h l t =
    let a : k * up d * down e ≤ m * up e * down d = ltb-false (m * up e * down d) (k * up d * down e) l in
    let b : m * up e * down d ≡ n * down d * down e = ap (λ (z : ℕ). z * down d) (sym (mul-one (m * up e)) ∙ h.1) ∙ mul_right_comm n (down e) (down d) in
    let c : k * up d ≤ n * down d = le_of_mul-le-mul_right (le_trans a (le_of_eq b)) (down_pos e) in
    capped_le (k * up d / down d) n (under_div (k * up d) n (down d) (down_pos d) c)
  where
    capped_le : (x y : ℕ) → x ≤ y → min x 0xffff_ffff_ffff_ffff ≤ y
    capped_le x y g = omega arith

    under_div : (x y z : ℕ) → 0 < z → x ≤ y * z → x / z ≤ y
    under_div x y z Z g = less_suc (x / z) y ((div-lt_iff_lt-mul Z).1 (lt_of_le_of_lt g (more y z Z)))
      where
        less_suc : (p q : ℕ) → p < suc q → p ≤ q
        less_suc p q f = omega arith

        more : (p q : ℕ) → 0 < q → p * q < suc p * q
        more p q Q = omega (arith, suc-mul p q)

whole_hi : (n : ℕ) → n ≤ 2 ^ 24 → HasValue (of_int binary32 (pos n)) false n 1
unfolding of_int
whole_hi n h = round_whole binary32 false n h

floor_hi : (n : ℕ) → n ≤ 2 ^ 24 → floor_of (of_int binary32 (pos n)) ≤ n
floor_hi n h = le_trans (le_of_eq (floor_value (of_int binary32 (pos n)) n 1 (lit< tt) (whole_hi n h) (omega arith))) (omega arith)

floor_nought : (n : ℕ) → floor_of (of_bits binary32 0) ≤ n
unfolding floor_of of_bits
floor_nought n = omega arith

pub floor_held : (x : Float) (n : ℕ) → n ≤ 2 ^ 24 → floor_of (held_of x (of_int binary32 (pos n))) ≤ n
unfolding held_of clamp_of
floor_held x n h = go (is_nan x) (lt x (of_bits binary32 0)) (lt (of_int binary32 (pos n)) x) refl refl
  where
    go : (a b c : Bool) → is_nan x ≡ a → lt (of_int binary32 (pos n)) x ≡ c → floor_of (cond a (of_bits binary32 0) (cond b (of_bits binary32 0) (cond c (of_int binary32 (pos n)) x))) ≤ n
    go true b c p q = floor_nought n
    go false true c p q = floor_nought n
    go false false true p q = floor_hi n h
    go false false false p q = floor_under (of_int binary32 (pos n)) x n (whole_hi n h) q (subst (λ (z : Bool). T (not z)) (sym p) tt)

pub axis_inside : (x : Float) (side : ℕ) → 1 ≤ side → side ≤ 2 ^ 24 → ((axis_of x side).at < side) × ((axis_of x side).next < side)
unfolding axis_of axis_at
axis_inside x side h small =
    let f : floor_of (held_of x (of_int binary32 (pos (side - 1)))) ≤ side - 1 = floor_held x (side - 1) (omega arith) in
    (omega arith, omega arith)
