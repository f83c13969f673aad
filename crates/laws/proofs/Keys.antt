-- Laws on the keys of a match: a number that is none of the first n is at least n; and an arm's answer for its key is that for the number matched.
-- Assumes nothing.
use mathlib.Core.Path.{◌≡◌, sym, ap, ◌∙◌}
use Prim.Native.Nat.{ℕ, zero, suc, ◌≤◌}
use native.Mathlib.Omega.{arith}

abbrev pub NoneBelow : ℕ → ℕ → Type 0
NoneBelow k zero = Unit {0}
NoneBelow k (suc n) = NoneBelow k n × (k ≡ n → ⊥)

pub at_least : (k n : ℕ) → NoneBelow k n → n ≤ k
at_least k zero none = omega arith
at_least k (suc n) none = let below = at_least k n none.0 in let other = none.1 in omega arith

pub at_key : (f : ℕ → ℕ) {x k r : ℕ} → x ≡ k → r ≡ f k → r ≡ f x
at_key f e g = g ∙ ap f (sym e)
