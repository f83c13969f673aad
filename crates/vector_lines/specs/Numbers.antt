-- What a token and a number of a line mean; oracle/README.md has the form. A place is counted from the line's start. Once something is
-- malformed the place is `nowhere`, and past a line's end there is neither a space nor a digit, so it stays `nowhere`.
use Rattle.std.specs.Prelude.{Bool, cond, ◌&&◌, List, [], ◌∷◌, ℕ, ◌+◌, ◌-◌, ◌*◌, eqb, ltb, length, get_or, drop, ℤ, pos, negsuc, Option, Some, None}
use Rattle.std.specs.Ordering.{int_eq}
use Rattle.vector_lines.specs.declared.numbers.Read.{Read}

abbrev pub nowhere : ℕ
nowhere = 18446744073709551615

-- the most that 64 binary digits hold, and the most that a signed number has after its sign
abbrev pub largest : ℕ
largest = 18446744073709551615

abbrev pub most_signed : ℕ
most_signed = 9223372036854775807

-- a line's byte; 0 past its end
abbrev pub byte_of : List ℕ → ℕ → ℕ
byte_of line at = get_or line at 0

abbrev pub past_of : ℕ → ℕ
past_of at = cond (ltb at nowhere) (at + 1) nowhere

-- where the token after a space starts
abbrev pub token_at : List ℕ → ℕ → ℕ
token_at line at = cond (eqb (byte_of line at) 32) (past_of at) nowhere

-- the value of a small hexadecimal digit; 16 of any other byte
unfoldable pub digit_of : ℕ → ℕ
digit_of b = cond (ltb b 48) 16 (cond (ltb b 58) (b - 48) (cond (ltb b 97) 16 (cond (ltb b 103) (b - 87) 16)))

-- the digit that a byte is, if it is one
abbrev pub digit_in : ℕ → Option ℕ
digit_in b = cond (ltb (digit_of b) 16) (Some (digit_of b)) None

-- the digits that a text begins with, by their values
unfoldable pub digits_of : List ℕ → List ℕ
digits_of [] = []
digits_of (b ∷ text) = cond (ltb (digit_of b) 16) (digit_of b ∷ digits_of text) []

-- the number that digits spell after those that spell v
unfoldable pub value_of : ℕ → List ℕ → ℕ
value_of v [] = v
value_of v (d ∷ ds) = value_of (v * 16 + d) ds

abbrev pub none : Read ℕ
none = record { value = 0; next = nowhere }

-- a number of at most `most`, and the place after it
abbrev pub up_to : ℕ → ℕ → ℕ → Read ℕ
up_to most v next = cond (ltb most v) none (record { value = v; next = next })

-- the number whose digits go on at a place after those that spell v: at most 64 binary digits
abbrev pub gone_on : List ℕ → ℕ → ℕ → Read ℕ
gone_on line at v = up_to largest (value_of v (digits_of (drop at line))) (at + length (digits_of (drop at line)))

-- digits at a place as a number: at least one, no zero before others, at most 64 binary digits (which is sixteen of these)
unfoldable pub spelt : ℕ → List ℕ → Read ℕ
spelt at [] = none
spelt at (d ∷ ds) = cond (eqb d 0 && ltb 0 (length ds)) none (up_to largest (value_of d ds) (at + 1 + length ds))

abbrev pub digits_at : List ℕ → ℕ → Read ℕ
digits_at line at = spelt at (digits_of (drop at line))

-- the same, if it is at most `most`
abbrev pub short_at : ℕ → List ℕ → ℕ → Read ℕ
short_at most line at = up_to most (digits_at line at).value (digits_at line at).next

-- the number after a space
abbrev pub number_at : ℕ → List ℕ → ℕ → Read ℕ
number_at most line at = short_at most line (token_at line at)

-- each kind of number that lists have: bytes, 32-bit words and 64-bit numbers; signed ones are below
unfoldable pub u8_at : List ℕ → ℕ → Read ℕ
u8_at = number_at 255

unfoldable pub u32_at : List ℕ → ℕ → Read ℕ
u32_at = number_at 4294967295

unfoldable pub u64_at : List ℕ → ℕ → Read ℕ
u64_at = number_at largest

-- the place after what was read, if it is `value` by a test of two numbers
unfoldable pub expected_by : {A : Type 0} → (A → A → Bool) → Read A → A → ℕ
expected_by test n value = cond (test n.value value) n.next nowhere

-- the place after a number that must be `value`
abbrev pub expected_at : List ℕ → ℕ → ℕ → ℕ
expected_at line at = expected_by eqb (u64_at line at)

-- a signed number after a space: one below zero is '~' and its complement, -1 - n; both have at most 63 binary digits
abbrev pub integer_of : Read ℕ → Read ℤ
integer_of n = record { value = pos n.value; next = n.next }

abbrev pub complement_of : Read ℕ → Read ℤ
complement_of n = record { value = negsuc n.value; next = n.next }

abbrev pub signed_by : List ℕ → ℕ → Read ℤ
signed_by line start =
    cond (eqb (byte_of line start) 126) (complement_of (short_at most_signed line (past_of start))) (integer_of (short_at most_signed line start))

unfoldable pub signed_at : List ℕ → ℕ → Read ℤ
signed_at line at = signed_by line (token_at line at)

-- the place after a signed number that must be `value`
abbrev pub expected_signed_at : List ℕ → ℕ → ℤ → ℕ
expected_signed_at line at = expected_by int_eq (signed_at line at)

-- what stands in the place of a list that has room for `room` numbers: '=', after which none follow, or their count
abbrev pub kept_at : List ℕ → ℕ → Bool
kept_at line at = eqb (byte_of line (token_at line at)) 61

-- the place after '=', if it stands there
abbrev pub kept_past_at : List ℕ → ℕ → Option ℕ
kept_past_at line at = cond (kept_at line at) (Some (past_of (token_at line at))) None

abbrev pub head_at : ℕ → List ℕ → ℕ → Read ℕ
head_at room line at =
    cond (kept_at line at)
    (record { value = 0; next = past_of (token_at line at) })
    (number_at room line at)

-- a list's count after that: '=' keeps it
abbrev pub count_at : ℕ → List ℕ → ℕ → ℕ → ℕ
count_at room line at count = cond (kept_at line at) count (number_at room line at).value
