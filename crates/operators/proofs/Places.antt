-- The list of the operators, their numbers and the enum's order agree. Assumes nothing.
use mathlib.Core.Path.{◌≡◌, sym, ◌∙◌}
use Prim.Native.Nat.{ℕ, ◌<◌, ◌≤◌}
use lib.Dec.{eqb, eqb→eq, ltb, ltb→lt}
use lib.ListN.{get_or-eq_default}
use denote.Enum.Declared.{tag_of}
use Rattle.laws.proofs.Tables.{at_each}
use Rattle.laws.proofs.Variants.{each, one_tag}
use Rattle.operators.specs.Operators.{count, operators, number_of, op_at}
use Rattle.operators.specs.declared.CompositeOp.{CompositeOp}
use Rattle.operators.specs.declared.CompositeOp.TheVariants.{Over}
use Rattle.operators.specs.contracts.CompositeOp.{enum, the_type}

-- the operator with a number has that number
pub number_of_lem : (n : ℕ) → n < count → n ≡ number_of (op_at n)
number_of_lem n h = eqb→eq n (number_of (op_at n)) (at_each (λ k o. eqb k (number_of o)) Over operators tt n h)

-- an operator's number is its place in the enum
tag_is : (o : CompositeOp) → tag_of the_type o ≡ number_of o
tag_is o = eqb→eq _ _ (each enum (λ x. eqb (tag_of the_type x) (number_of x)) tt o)

-- so that two operators with one number are one, as `same` takes them to be
pub one_number : (o p : CompositeOp) → number_of o ≡ number_of p → o ≡ p
one_number o p e = one_tag enum tt o p (tag_is o ∙ e ∙ sym (tag_is p))

pub number_below : (o : CompositeOp) → number_of o < count
number_below o = ltb→lt _ _ (each enum (λ x. ltb (number_of x) count) tt o)

-- an operator stands at its number
pub at_number : (o : CompositeOp) → op_at (number_of o) ≡ o
at_number o = one_number (op_at (number_of o)) o (sym (number_of_lem (number_of o) (number_below o)))

-- past the last number stands Over
pub past_the_last : (n : ℕ) → count ≤ n → Over ≡ op_at n
past_the_last n h = sym (get_or-eq_default operators Over {n = n} h)
