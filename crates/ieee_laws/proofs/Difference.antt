-- The sign of a difference: y - x is -(x - y), but for the sign of a zero; and of a product: (-x) y is -(x y). NaN and the infinities included. Over the
-- format. Assumes nothing.
use mathlib.Core.Path.{◌≡◌, refl, sym, ap, ◌∙◌}
use mathlib.Core.Bool.{Bool, true, false, not, cond, ◌&&◌}
use Prim.Native.Nat.{ℕ, zero, suc, ◌+◌, ◌-◌, ◌*◌, ◌/◌, ◌%◌, ◌^◌, ◌≤◌, ◌<◌, compare}
use native.Mathlib.Nat.{add_comm, mul_comm, mul-pos}
use native.Mathlib.Omega.{arith}
use lib.Dec.{ltb, eqb}
use lib.Ieee.{Float, nan, inf, fin, Format, emax, prec, low, up, down, unlike, size, nearest, odd, units, round, sum, add, sub, mul, neg}
use lib.Ieee.Fits.{down_pos}
use borrow.Author.Tests.{ltb-true, ltb-false}
use Rattle.ieee_laws.specs.Same.{plain, Same}
use Rattle.ieee_laws.proofs.Zero.{round_zero}

pub neg_neg : (x : Float) → neg (neg x) ≡ x
unfolding neg
neg_neg nan = refl
neg_neg (inf true) = refl
neg_neg (inf false) = refl
neg_neg (fin true m e) = refl
neg_neg (fin false m e) = refl

-- ---- rounding does not look at the sign
odd_neg : (d : ℕ) (s : Bool) (q k l : ℕ) → odd d (not s) q k l ≡ neg (odd d s q k l)
unfolding odd neg
odd_neg d s zero k l = refl
odd_neg d s (suc q) k l = refl

units_neg : (f : Format) (s : Bool) (q k : ℕ) → units f (not s) q k ≡ neg (units f s q k)
unfolding units
units_neg f s q k = go (ltb (q * 2 ^ k) (2 ^ (low f + suc (emax f))))
  where
    go : (b : Bool) → cond b (odd (suc (prec f)) (not s) q k (low f)) (inf (not s)) ≡ neg (cond b (odd (suc (prec f)) s q k (low f)) (inf s))
    go true = odd_neg (suc (prec f)) s q k (low f)
    go false = unfold neg in refl

pub round_neg : (f : Format) (s : Bool) (a c : ℕ) → round f (not s) a c ≡ neg (round f s a c)
unfolding round
round_neg f s a c =
    let n = a * 2 ^ low f in
    let k = size (n / c) - prec f in
    let u = c * 2 ^ k in
    units_neg f s (nearest (n / u) (compare (n % u * 2) u)) k

-- ---- ±a against ∓b, both ways round
never : (a b : ℕ) → a < b → b < a → ⊥
never a b h k = omega arith

none : (a b : ℕ) → b ≤ a → a ≤ b → a - b ≡ 0
none a b h k = omega arith

-- two of one sign, of which the one is taken from the other
apart : (f : Format) (s : Bool) (a b c : ℕ) → 0 < c
    → Same (cond (ltb a b) (round f (not s) (b - a) c) (round f (s && ltb b a) (a - b) c)) (neg (cond (ltb b a) (round f (not s) (a - b) c) (round f (s && ltb a b) (b - a) c)))
apart f s a b c h = go (ltb a b) (ltb b a) (ltb-true a b) (ltb-true b a) (ltb-false a b) (ltb-false b a)
  where
    and_true : (s : Bool) → s && true ≡ s
    and_true true = refl
    and_true false = refl

    flip : (s : Bool) (n : ℕ) → round f (not s) n c ≡ neg (round f (s && true) n c)
    flip s n = round_neg f s n c ∙ ap (λ (u : Bool). neg (round f u n c)) (sym (and_true s))

    zero_of : (u v : Bool) (m n : ℕ) → m ≡ 0 → n ≡ 0 → Same (round f u m c) (neg (round f v n c))
    zero_of u v m n p q =
        round_zero f u m c h p ∙ sym (round_zero f (not v) n c h q) ∙ ap plain (round_neg f v n c)

    go : (p q : Bool) → (p ≡ true → a < b) → (q ≡ true → b < a) → (p ≡ false → b ≤ a) → (q ≡ false → a ≤ b)
        → Same (cond p (round f (not s) (b - a) c) (round f (s && q) (a - b) c)) (neg (cond q (round f (not s) (a - b) c) (round f (s && p) (b - a) c)))
    go true true x y u v = absurd (never a b (x refl) (y refl))
    go true false x y u v = ap plain (flip s (b - a))
    go false true x y u v = ap plain (sym (neg_neg (round f (s && true) (a - b) c)) ∙ ap neg (sym (flip s (a - b))))
    go false false x y u v = zero_of (s && false) (s && false) (a - b) (b - a) (none a b (u refl) (v refl)) (none b a (v refl) (u refl))

sum_flips : (f : Format) (s t : Bool) (a b c : ℕ) → 0 < c → Same (sum f s a (not t) b c) (neg (sum f t b (not s) a c))
unfolding sum
sum_flips f true true a b c h = apart f true a b c h
sum_flips f false false a b c h = apart f false a b c h
sum_flips f true false a b c h = ap plain (ap (λ (z : ℕ). round f true z c) (add_comm a b) ∙ round_neg f false (b + a) c)
sum_flips f false true a b c h = ap plain (ap (λ (z : ℕ). round f false z c) (add_comm a b) ∙ round_neg f true (b + a) c)

pub sub_flips : (f : Format) (x y : Float) → Same (sub f x y) (neg (sub f y x))
unfolding sub add neg
sub_flips f nan nan = refl
sub_flips f nan (inf t) = refl
sub_flips f nan (fin t n d) = refl
sub_flips f (inf s) nan = refl
sub_flips f (inf true) (inf true) = refl
sub_flips f (inf true) (inf false) = refl
sub_flips f (inf false) (inf true) = refl
sub_flips f (inf false) (inf false) = refl
sub_flips f (inf true) (fin t n d) = refl
sub_flips f (inf false) (fin t n d) = refl
sub_flips f (fin s m e) nan = refl
sub_flips f (fin s m e) (inf true) = refl
sub_flips f (fin s m e) (inf false) = refl
sub_flips f (fin s m e) (fin t n d) =
    sum_flips f s t (m * up e * down d) (n * up d * down e) (down e * down d) (mul-pos (down_pos e) (down_pos d))
    ∙ ap (λ (z : ℕ). plain (neg (sum f t (n * up d * down e) (not s) (m * up e * down d) z))) (mul_comm (down e) (down d))

-- ---- a product with one sign turned
turned : (s t : Bool) → unlike (not s) t ≡ not (unlike s t)
turned true true = refl
turned true false = refl
turned false true = refl
turned false false = refl

pub neg_times : (f : Format) (x y : Float) → mul f (neg x) y ≡ neg (mul f x y)
unfolding mul neg
neg_times f nan y = refl
neg_times f (inf s) nan = refl
neg_times f (inf s) (inf t) = ap inf (turned s t)
neg_times f (inf s) (fin t n d) = go (eqb n 0)
  where
    go : (b : Bool) → cond b nan (inf (unlike (not s) t)) ≡ neg (cond b nan (inf (unlike s t)))
    go true = refl
    go false = ap inf (turned s t)
neg_times f (fin s m e) nan = refl
neg_times f (fin s m e) (inf t) = go (eqb m 0)
  where
    go : (b : Bool) → cond b nan (inf (unlike (not s) t)) ≡ neg (cond b nan (inf (unlike s t)))
    go true = refl
    go false = ap inf (turned s t)
neg_times f (fin s m e) (fin t n d) =
    ap (λ (b : Bool). round f b (m * up e * (n * up d)) (down e * down d)) (turned s t) ∙ round_neg f (unlike s t) (m * up e * (n * up d)) (down e * down d)
