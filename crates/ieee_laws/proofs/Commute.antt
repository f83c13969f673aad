-- Sums and products commute, for all values, NaN and the infinities included. Over the format. Assumes nothing.
use mathlib.Core.Path.{◌≡◌, refl, sym, ap, ◌∙◌}
use mathlib.Core.Bool.{Bool, true, false, cond, ◌&&◌, beq}
use Prim.Native.Nat.{ℕ, ◌-◌, ◌*◌, ◌≤◌, ◌<◌}
use native.Mathlib.Nat.{add_comm, mul_comm}
use native.Mathlib.Omega.{arith}
use lib.Dec.{ltb, eqb}
use lib.Ieee.{Float, nan, inf, fin, Format, up, down, unlike, round, sum, add, mul}
use borrow.Author.Tests.{ltb-true, ltb-false}

-- ---- products
unlike_commutes : (s t : Bool) → unlike s t ≡ unlike t s
unlike_commutes true true = refl
unlike_commutes true false = refl
unlike_commutes false true = refl
unlike_commutes false false = refl

pub mul_commutes : (f : Format) (x y : Float) → mul f x y ≡ mul f y x
unfolding mul
mul_commutes f nan nan = refl
mul_commutes f nan (inf t) = refl
mul_commutes f nan (fin t n d) = refl
mul_commutes f (inf s) nan = refl
mul_commutes f (inf s) (inf t) = ap inf (unlike_commutes s t)
mul_commutes f (inf s) (fin t n d) = ap (λ (b : Bool). cond (eqb n 0) nan (inf b)) (unlike_commutes s t)
mul_commutes f (fin s m e) nan = refl
mul_commutes f (fin s m e) (inf t) = ap (λ (b : Bool). cond (eqb m 0) nan (inf b)) (unlike_commutes s t)
mul_commutes f (fin s m e) (fin t n d) = λ i. round f (unlike_commutes s t i) (mul_comm (m * up e) (n * up d) i) (mul_comm (down e) (down d) i)

-- ---- sums
other : (f : Format) (s t : Bool) (a b c : ℕ) → cond (ltb a b) (round f t (b - a) c) (round f (s && ltb b a) (a - b) c) ≡ cond (ltb b a) (round f s (a - b) c) (round f (t && ltb a b) (b - a) c)
other f s t a b c = go (ltb a b) (ltb b a) (ltb-true a b) (ltb-true b a) (ltb-false a b) (ltb-false b a)
  where
    never : (a b : ℕ) → a < b → b < a → ⊥
    never a b h k = omega arith

    and_true : (s : Bool) → s && true ≡ s
    and_true true = refl
    and_true false = refl

    and_false : (s : Bool) → s && false ≡ false
    and_false true = refl
    and_false false = refl

    level : (a b : ℕ) → b ≤ a → a ≤ b → a - b ≡ b - a
    level a b h k = omega arith

    go : (p q : Bool) → (p ≡ true → a < b) → (q ≡ true → b < a) → (p ≡ false → b ≤ a) → (q ≡ false → a ≤ b)
        → cond p (round f t (b - a) c) (round f (s && q) (a - b) c) ≡ cond q (round f s (a - b) c) (round f (t && p) (b - a) c)
    go true true h k x y = absurd (never a b (h refl) (k refl))
    go true false h k x y = ap (λ (u : Bool). round f u (b - a) c) (sym (and_true t))
    go false true h k x y = ap (λ (u : Bool). round f u (a - b) c) (and_true s)
    go false false h k x y = ap (λ (u : Bool). round f u (a - b) c) (and_false s ∙ sym (and_false t)) ∙ ap (λ (z : ℕ). round f (t && false) z c) (level a b (x refl) (y refl))

sum_comm : (f : Format) (s : Bool) (a : ℕ) (t : Bool) (b c : ℕ) → sum f s a t b c ≡ sum f t b s a c
unfolding sum
sum_comm f true a true b c = ap (λ (z : ℕ). round f true z c) (add_comm a b)
sum_comm f false a false b c = ap (λ (z : ℕ). round f false z c) (add_comm a b)
sum_comm f true a false b c = other f true false a b c
sum_comm f false a true b c = other f false true a b c

infs : (s t : Bool) → cond (beq s t) (inf s) nan ≡ cond (beq t s) (inf t) nan
infs true true = refl
infs true false = refl
infs false true = refl
infs false false = refl

pub add_commutes : (f : Format) (x y : Float) → add f x y ≡ add f y x
unfolding add
add_commutes f nan nan = refl
add_commutes f nan (inf t) = refl
add_commutes f nan (fin t n d) = refl
add_commutes f (inf s) nan = refl
add_commutes f (inf s) (inf t) = infs s t
add_commutes f (inf s) (fin t n d) = refl
add_commutes f (fin s m e) nan = refl
add_commutes f (fin s m e) (inf t) = refl
add_commutes f (fin s m e) (fin t n d) = sum_comm f s (m * up e * down d) t (n * up d * down e) (down e * down d) ∙ ap (λ (z : ℕ). sum f t (n * up d * down e) s (m * up e * down d) z) (mul_comm (down e) (down d))
