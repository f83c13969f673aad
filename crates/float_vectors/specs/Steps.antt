-- What each float step gives, and what a row asks. Definitions only.
use Rattle.std.specs.Prelude.{cond, ◌||◌, List, [], ◌∷◌, ℕ, ◌-◌, ltb, Float, get_or}
use Rattle.std.specs.Float.Ieee as Ieee
use Rattle.std.specs.Float.{binary32}
use Rattle.float_steps.specs.Axis.{axis_of}
use Rattle.float_steps.specs.Order.{smaller_of, larger_of, clamp_of, unit_of, finite_of}
use Rattle.float_steps.specs.Remainder.{rem_euclid_of, wrap_of}
use Rattle.float_steps.specs.Root.{sqrt_of}
use Rattle.float_steps.specs.Sign.{abs_of, square_of}
use Rattle.float_steps.specs.Whole.{floor_of, byte_of}
use Rattle.float_steps.specs.Words.{value_of, word_of}
use Rattle.vector_lines.specs.declared.numbers.Read.{Read}
use Rattle.vector_lines.specs.Numbers.{nowhere, number_at, expected_at}
use Rattle.verdicts.specs.Lines.{first_of}
use Rattle.float_vectors.specs.declared.steps.Step.{Step}
use Rattle.float_vectors.specs.declared.steps.Step.TheVariants.{Word, Smaller, Larger, Clamp, Unit, Finite, Rem, RemEuclid, Wrap, Sqrt, Abs, Square, Floor, Byte, AxisAt, AxisNext, AxisAlong}

-- a step's place among the steps: how far its letter is from a
abbrev pub number_of : Step → ℕ
number_of Word = 0
number_of Smaller = 1
number_of Larger = 2
number_of Clamp = 3
number_of Unit = 4
number_of Finite = 5
number_of Rem = 6
number_of RemEuclid = 7
number_of Wrap = 8
number_of Sqrt = 9
number_of Abs = 10
number_of Square = 11
number_of Floor = 12
number_of Byte = 13
number_of AxisAt = 14
number_of AxisNext = 15
number_of AxisAlong = 16

-- the steps in the order of their letters, a to q: each result is a word, a whole number, or 1 for true
unfoldable pub steps_of : (a b c : Float) → (side : ℕ) → List ℕ
steps_of a b c side =
    word_of a
    ∷ word_of (smaller_of a b)
    ∷ word_of (larger_of a b)
    ∷ word_of (clamp_of a b c)
    ∷ word_of (unit_of a)
    ∷ cond (finite_of a) 1 0
    ∷ word_of (Ieee.rem binary32 a b)
    ∷ word_of (rem_euclid_of a b)
    ∷ word_of (wrap_of a)
    ∷ word_of (sqrt_of a)
    ∷ word_of (abs_of a)
    ∷ word_of (square_of a)
    ∷ floor_of a
    ∷ byte_of a
    ∷ (axis_of a side).at
    ∷ (axis_of a side).next
    ∷ word_of (axis_of a side).along
    ∷ []

-- the side of an axis, for a coordinate: from 1 to 2^24, as far as each whole number is an f32
unfoldable pub side_of : ℕ → ℕ
side_of n = cond (ltb n 1) 1 (cond (ltb 0x100_0000 n) 0x100_0000 n)

-- the operands are words; the second is also the side
unfoldable pub given_of : (step a b c : ℕ) → ℕ
given_of step a b c = get_or (steps_of (value_of a) (value_of b) (value_of c) (side_of b)) step 0

-- STEP a b c: result, and the place after it, if it is what the step gives
abbrev pub operand_at : List ℕ → ℕ → Read ℕ
operand_at = number_at 4294967295

unfoldable pub result_at : List ℕ → (a b c : Read ℕ) → ℕ
result_at row a b c = expected_at row c.next (given_of (first_of row - 97) a.value b.value c.value)

unfoldable pub third_at : List ℕ → (a b : Read ℕ) → ℕ
third_at row a b = result_at row a b (operand_at row b.next)

unfoldable pub second_at : List ℕ → (a : Read ℕ) → ℕ
second_at row a = third_at row a (operand_at row a.next)

unfoldable pub taken_at : List ℕ → ℕ
taken_at row = cond (ltb (first_of row) 97 || ltb 113 (first_of row)) nowhere (second_at row (operand_at row 1))
