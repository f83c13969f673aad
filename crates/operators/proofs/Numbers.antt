-- What the match answers for a number is what the number names. Assumes nothing.
use mathlib.Core.Path.{◌≡◌}
use mathlib.Core.Bool.{false}
use mathlib.Core.Logic.{◌⊎◌, inl, inr}
use Prim.Native.Nat.{ℕ, zero, suc, ◌≤◌}
use native.Mathlib.Omega.{arith}
use lib.IntN.{pos}
use borrow.Author.Tests.{lt-ltb, le-ltb, ne_eqb}
use Rattle.operators.specs.Operators.{count, number_of, same_op}
use Rattle.operators.specs.Numbers.{named, op_of}
use Rattle.operators.specs.Listed.{NoneBelow, ListedAt}
use Rattle.operators.specs.declared.CompositeOp.{CompositeOp}
use Rattle.operators.specs.declared.CompositeOp.TheVariants.{Interpolate, Blur}
use Rattle.std.specs.Prelude.{Option, Some, None, Ok, Err}
use Rattle.faults.specs.declared.Fault.TheVariants.{Operator, Curve}
use Rattle.operators.proofs.Places.{at_number, number_below, one_number}

-- a number that is none of those below k is not below k
past : (k n : ℕ) → NoneBelow k n → k ≤ n
past zero n h = omega arith
past (suc k) n h =
    let i : k ≤ n = past k n h.0 in
    let d : n ≡ k → ⊥ = h.1 in
    omega arith

module _ (n : ℕ) (r : Option CompositeOp) (is : ListedAt n r) where
  pub found : {o : CompositeOp} → r ≡ Some o → named o ≡ op_of (pos n)
  found {o} e =
      let k : n ≡ number_of o = rw e at is in
      rw (k, lt-ltb (number_of o) count (number_below o), at_number o)

  -- the refused range
  pub refused : r ≡ None → Err Operator ≡ op_of (pos n)
  refused e = rw (le-ltb n count (past count n (rw e at is)))

-- an operator other than p is not p
other : (o p : CompositeOp) → (o ≡ p → ⊥) → same_op o p ≡ false
other o p h = ne_eqb (number_of o) (number_of p) (λ e. h (one_number o p e))

-- what the number of a carried operator names, and that of the others
pub not_carried : (o : CompositeOp) → (o ≡ Interpolate) ⊎ (o ≡ Blur) → Err Curve ≡ named o
unfolding named
not_carried o (inl e) = rw e
not_carried o (inr e) = rw e

pub carried : (o : CompositeOp) → (o ≡ Interpolate → ⊥) → (o ≡ Blur → ⊥) → Ok o ≡ named o
unfolding named
carried o h k = rw (other o Interpolate h, other o Blur k)
