-- A pixel's reads are at most five to the power of the maps beneath it: a map needs five pixels at most, and any other layer one. Assumes nothing.
use Rattle.std.proofs.Common.{◌≡◌, ℕ, zero, suc, ◌+◌, ◌*◌, ◌^◌, ◌<◌, ◌≤◌, Bool, true, false, cond, List, [], ◌∷◌, ◌++◌, sym, ap, ◌∙◌, arith, le_trans, le_of_eq}
use Rattle.std.proofs.Math.Nat.{add-zero, mul_comm, pow-suc, one-le-pow, pow-le-pow_right}
use native.Mathlib.Numerals.{add-one}
use Rattle.float_steps.specs.declared.axis.Axis.{Axis}
use Rattle.layers.specs.declared.Layer.{Layer}
use Rattle.layers.specs.Inputs.{Inputs}
use Rattle.compose.specs.Compose.{reads_through, map_column, map_row}
use Rattle.spots.specs.Spots.{layer_in, around, needed_of, sum_of, reads_of, maps_of}
use Rattle.spots.proofs.Needed.{pixel_in}

-- by the three tests of a layer, and whether all its channels are on
sum_most : (f : ℕ → ℕ) (b : ℕ) → 1 ≤ b → ((a : ℕ) → f a ≤ b) → (w s m all : Bool) (dw j : ℕ) (x y : Axis)
    → sum_of f (cond w (cond s [] (cond m (around dw x y ++ cond all [] (j ∷ [])) (j ∷ []))) (j ∷ [])) ≤ cond m (5 * b) b
sum_most f b o h false s true all dw j x y = omega (arith, h j)
sum_most f b o h false s false all dw j x y = omega (arith, h j)
sum_most f b o h true true true all dw j x y = omega arith
sum_most f b o h true true false all dw j x y = omega arith
sum_most f b o h true false true true dw j x y =
    omega (arith, h (y.at * dw + x.at), h (y.at * dw + x.next), h (y.next * dw + x.at), h (y.next * dw + x.next))
sum_most f b o h true false true false dw j x y =
    omega (arith, h (y.at * dw + x.at), h (y.at * dw + x.next), h (y.next * dw + x.at), h (y.next * dw + x.next), h j)
sum_most f b o h true false false all dw j x y = omega (arith, h j)

needed_most : (f : ℕ → ℕ) (b : ℕ) → 1 ≤ b → ((a : ℕ) → f a ≤ b) → (samples : List ℕ) (l : Layer) (dw dh j : ℕ) → sum_of f (needed_of samples l dw dh j) ≤ cond (reads_through l.op) (5 * b) b
unfolding needed_of
needed_most f b o h samples l dw dh j =
    let s = pixel_in samples l dw dh j in
    sum_most f b o h _ _ (reads_through l.op) _ dw j (map_column l dw s j) (map_row l dw dh s j)

-- a layer more is a map or none
power : (m : Bool) (e : ℕ) → cond m (5 * 5 ^ e) (5 ^ e) ≡ 5 ^ (e + cond m 1 0)
power true e = mul_comm 5 (5 ^ e) ∙ sym (pow-suc 5 e) ∙ ap (λ (n : ℕ). 5 ^ n) (sym (add-one e))
power false e = ap (λ (n : ℕ). 5 ^ n) (sym (add-zero e))

pub reads_most : (i : Inputs) (k j : ℕ) → reads_of i k j ≤ 5 ^ maps_of i.table i.args k
unfolding reads_of maps_of
reads_most i zero j = omega arith
reads_most i (suc k) j =
    let e = maps_of i.table i.args k in
    le_trans
    (needed_most (reads_of i k) (5 ^ e) (one-le-pow e 5 (omega arith)) (reads_most i k) i.samples (layer_in i k) _ _ j)
    (le_of_eq (power (reads_through (layer_in i k).op) e))

-- with four maps at most they are no more than 625
pub few_reads : (i : Inputs) (k j : ℕ) → maps_of i.table i.args k ≤ 4 → reads_of i k j ≤ 625
few_reads i k j h =
    let five : 0 < 5 = omega arith in
    let p : 5 ^ maps_of i.table i.args k ≤ 625 = pow-le-pow_right five h in
    le_trans (reads_most i k j) p
