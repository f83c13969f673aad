-- `sqrt_of` where no root is made: of a zero, of plus infinity, of a NaN and of what is below zero; and the words of the values above zero. Assumes nothing.
use Rattle.std.proofs.Common.{◌≡◌, ℕ, zero, suc, ◌+◌, ◌*◌, ◌/◌, ◌%◌, ◌^◌, ◌<◌, ◌≤◌, Bool, true, false, ◌&&◌, ◌||◌, cond, T, eqb, leb, ℤ, sym, refl, ap, ◌∙◌, subst, inl, inr, true≢false, le_trans, le_of_eq, mod-eq_of_lt, eq-zero-or-pos, mul-pos, lt_of_not-le, zero-mul, mul-one, arith, le→leb, ltb-false, ltb-true, eq-eqb, ne_eqb}
use mathlib.Core.Bool.{beq, or-true}
use lib.Arith.{lt_of_le-ne}
use lib.Ieee.{Float, nan, inf, fin, binary32, up, down, odd, of_fields, of_bits, to_bits, fits, lt, eq}
use lib.Ieee.Fits.{up_pos}
use lib.Ieee.Bits.{of_bits-to_bits, is_true}
use Rattle.float_steps.specs.Root.{nearest_root, sqrt_of}
use Rattle.float_steps.proofs.Choice.{never}
use Rattle.float_steps.proofs.Nan.{nan_made, nan_word}
use Rattle.float_steps.proofs.Patterns.{of_bits_is}

-- ---- `sqrt_of` where the code makes no root
-- the literals, by their bits
abbrev nought : Float
nought = of_bits binary32 0

abbrev endless : Float
endless = of_bits binary32 0x7f80_0000

first_zero : (n u : ℕ) → 0 < u → n * u * 1 ≤ 0 → n ≡ 0
first_zero zero u U h = refl
first_zero (suc n) u U h = absurd (none (suc n * u) (mul-pos (lit' n) U) (le_trans (le_of_eq (sym (mul-one (suc n * u)))) h))
  where
    none : (y : ℕ) → 0 < y → y ≤ 0 → ⊥
    none y a b = omega arith

    lit' : (y : ℕ) → 0 < suc y
    lit' y = omega arith

own : (s : Bool) (m : ℕ) (e : ℤ) → m ≡ 0 → fin s m e ≡ sqrt_of (fin s m e)
unfolding sqrt_of
own s m e z = sym (ap (λ (b : Bool). cond b (fin s m e) (cond s nan (nearest_root (m * up e * 2 ^ 298 / down e)))) (eq-eqb m 0 z))

is_nought : (s : Bool) (m : ℕ) (e : ℤ) → m ≡ 0 → eq (fin s m e) nought ≡ true
unfolding eq of_bits
is_nought s m e z =
    let a : m * up e * 1 ≡ 0 = mul-one (m * up e) ∙ ap (λ (y : ℕ). y * up e) z ∙ zero-mul (up e) in
    ap (λ (y : ℕ). eqb y (0 * down e) && (beq s false || eqb y 0)) a ∙ ap (λ (y : ℕ). eqb 0 y && (beq s false || true)) (zero-mul (down e)) ∙ or-true (beq s false)

pub sqrt_below : (v : Float) → lt v nought ≡ true → nan_made ≡ sqrt_of v
unfolding lt sqrt_of of_bits
sqrt_below nan h = refl
sqrt_below (inf true) h = refl
sqrt_below (inf false) h = never h
sqrt_below (fin true m e) h = ap (λ (b : Bool). cond b (fin true m e) nan) (sym (ne_eqb m 0 (λ (z : m ≡ 0). some z (ltb-true 0 (m * up e * 1 + 0 * down e) h))))
  where
    some : m ≡ 0 → 0 < m * up e * 1 + 0 * down e → ⊥
    some z p = let y : m * up e ≡ 0 = ap (λ (x : ℕ). x * up e) z ∙ zero-mul (up e) in omega (arith, zero-mul (down e))
sqrt_below (fin false m e) h = absurd (none (zero-mul (down e)) (ltb-true (m * up e * 1) (0 * down e) h))
  where
    none : 0 * down e ≡ 0 → m * up e * 1 < 0 * down e → ⊥
    none z p = omega arith

-- a zero and a NaN
pub sqrt_own : (v : Float) → lt v nought ≡ false → lt nought v ≡ false → v ≡ sqrt_of v
unfolding lt sqrt_of of_bits
sqrt_own nan g h = refl
sqrt_own (inf true) g h = never (sym g)
sqrt_own (inf false) g h = never (sym h)
sqrt_own (fin true m e) g h = own true m e (first_zero m (up e) (up_pos e) (omega (arith, ltb-false 0 (m * up e * 1 + 0 * down e) g)))
sqrt_own (fin false m e) g h = own false m e (first_zero m (up e) (up_pos e) (le_trans (ltb-false (0 * down e) (m * up e * 1) h) (le_of_eq (zero-mul (down e)))))

-- plus infinity
pub sqrt_endless : (v : Float) → lt v endless ≡ false → lt nought v ≡ true → v ≡ sqrt_of v
unfolding lt sqrt_of of_bits
sqrt_endless nan g h = refl
sqrt_endless (inf true) g h = never (sym g)
sqrt_endless (inf false) g h = refl
sqrt_endless (fin s m e) g h = never (sym g)

-- ---- the word of a value above zero
odd_neg : (d q k l : ℕ) → lt nought (odd d true q k l) ≡ true → ⊥
unfolding odd lt of_bits
odd_neg d zero k l p = true≢false (sym p)
odd_neg d (suc q) k l p = true≢false (sym p)

fields_neg : (x t : ℕ) → lt nought (of_fields binary32 true x t) ≡ true → ⊥
unfolding of_fields lt of_bits
fields_neg zero t p = odd_neg 24 t 0 149 p
fields_neg (suc x) t p = go (eqb (suc x) 255) (eqb t 0) p
  where
    go : (a b : Bool) → lt nought (cond a (cond b (inf true) nan) (odd 24 true (0x80_0000 + t) x 149)) ≡ true → ⊥
    go true true q = true≢false (sym q)
    go true false q = true≢false (sym q)
    go false b q = odd_neg 24 (0x80_0000 + t) x 149 q

negative : (i : ℕ) → 0x8000_0000 ≤ i → lt nought (of_bits binary32 i) ≡ true → ⊥
negative i l p =
    fields_neg (i % 0x8000_0000 / 0x80_0000) (i % 0x80_0000)
    (subst (λ (v : Float). lt nought v ≡ true) (of_bits_is i ∙ ap (λ (s : Bool). of_fields binary32 s (i % 0x8000_0000 / 0x80_0000) (i % 0x80_0000)) (is_true (leb 0x8000_0000 i) (le→leb 0x8000_0000 i l))) p)

not_nan_above : lt nought nan ≡ true → ⊥
unfolding lt of_bits
not_nan_above p = true≢false (sym p)

zero_not_above : lt nought (of_bits binary32 0) ≡ true → ⊥
unfolding lt of_bits
zero_not_above p = true≢false (sym p)

not_below_own : lt endless endless ≡ true → ⊥
unfolding lt of_bits
not_below_own p = true≢false (sym p)

pub above_word : (v : Float) → T (fits binary32 v) → lt nought v ≡ true → lt v endless ≡ true → (0 < to_bits binary32 v) × (to_bits binary32 v < 0x7f80_0000)
above_word v f p n =
    let i = to_bits binary32 v in
    let back : of_bits binary32 i ≡ v = of_bits-to_bits binary32 v f in
    let q : lt nought (of_bits binary32 i) ≡ true = ap (λ (x : Float). lt nought x) back ∙ p in
    let s : i < 0x8000_0000 = lt_of_not-le (λ (g : 0x8000_0000 ≤ i). negative i g q) in
    let k : i ≡ 0x7f80_0000 → ⊥ = λ (e : i ≡ 0x7f80_0000). not_below_own (subst (λ (x : Float). lt x endless ≡ true) (sym back ∙ ap (λ (w : ℕ). of_bits binary32 w) e) n) in (
      elim (eq-zero-or-pos i) [ inl e ↦ absurd (zero_not_above (subst (λ (x : ℕ). lt nought (of_bits binary32 x) ≡ true) e q)) | inr g ↦ g ],
      lt_of_not-le (λ (g : 0x7f80_0000 ≤ i).
          not_nan_above (subst (λ (x : Float). lt nought x ≡ true) (nan_word i (subst (λ (x : ℕ). 0x7f80_0000 < x) (sym (mod-eq_of_lt s)) (next i g k))) q)),
    )
  where
    next : (y : ℕ) → 0x7f80_0000 ≤ y → (y ≡ 0x7f80_0000 → ⊥) → 0x7f80_0000 < y
    next y g k = lt_of_le-ne g (λ (e : 0x7f80_0000 ≡ y). k (sym e))
