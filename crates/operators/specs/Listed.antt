-- What the code's match from numbers to operators answers. Definitions only.
use Rattle.std.specs.Prelude.{◌≡◌, ℕ, zero, suc, Option, Some, None}
use Rattle.operators.specs.Operators.{count, number_of}
use Rattle.operators.specs.declared.CompositeOp.{CompositeOp}

-- n is none of the numbers below k
abbrev pub NoneBelow : ℕ → ℕ → Type 0
NoneBelow zero n = Unit
NoneBelow (suc k) n = NoneBelow k n × (n ≡ k → ⊥)

-- the operator that has the number n; or none has it
abbrev pub ListedAt : ℕ → Option CompositeOp → Type 0
ListedAt n (Some o) = n ≡ number_of o
ListedAt n None = NoneBelow count n
