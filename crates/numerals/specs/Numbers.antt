-- The numbers of a card (document 02, A.2): "decimal, of at most ten digits, without leading zeros or a minus before 0", and words as "eight small
-- hexadecimal digits". Each as it is printed, and as it is read. Definitions only.
use Rattle.std.specs.Prelude.{Option, Some, None, Bool, true, false, cond, not, ◌&&◌, List, [], ◌∷◌, ℕ, zero, suc, ◌^◌, eqb, leb, ltb, ℤ, pos, negsuc, length}
use Prim.Native.Char.{code}
use Rattle.numerals.specs.Digits.{digits_from, number_in}

-- ---- printed

abbrev pub most_digits : ℕ
most_digits = 10

-- without a sign
abbrev pub unsigned_text : ℕ → List ℕ
unsigned_text n = digits_from false 10 most_digits n []

unfoldable pub decimal_text : ℤ → List ℕ
decimal_text (pos n) = unsigned_text n
decimal_text (negsuc n) = code "-" ∷ unsigned_text (suc n)

-- the numbers that have at most ten digits
unfoldable pub is_decimal : ℤ → Bool
is_decimal (pos n) = ltb n (10 ^ most_digits)
is_decimal (negsuc n) = ltb (suc n) (10 ^ most_digits)

-- a word of 32 bits
abbrev pub word_digits : ℕ
word_digits = 8

abbrev pub hex_text : ℕ → List ℕ
hex_text w = digits_from true 16 word_digits w []

unfoldable pub is_word : ℕ → Bool
is_word w = ltb w (16 ^ word_digits)

-- ---- read

-- at least one digit, and no zero before others
abbrev pub leads : List ℕ → Bool
leads [] = false
leads (b ∷ []) = true
leads (b ∷ c ∷ bs) = not (eqb b (code "0"))

unfoldable pub unsigned_of : List ℕ → Option ℕ
unsigned_of bs = cond (leb (length bs) most_digits && leads bs) (number_in 10 bs) None

abbrev pub plus : Option ℕ → Option ℤ
plus (Some n) = Some (pos n)
plus None = None

-- a minus stands before any number but 0
abbrev pub minus : Option ℕ → Option ℤ
minus (Some zero) = None
minus (Some (suc n)) = Some (negsuc n)
minus None = None

unfoldable pub decimal_of : List ℕ → Option ℤ
decimal_of [] = None
decimal_of (b ∷ bs) = cond (eqb b (code "-")) (minus (unsigned_of bs)) (plus (unsigned_of (b ∷ bs)))

unfoldable pub hex_of : List ℕ → Option ℕ
hex_of bs = cond (eqb (length bs) word_digits) (number_in 16 bs) None
