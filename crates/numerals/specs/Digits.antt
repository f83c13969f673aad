-- Numbers as text in a base of at most 16: digits 0 to 9 and a to f, the most significant first. One printer and one reader for every base. Definitions only.
use Rattle.std.specs.Prelude.{Option, Some, None, Bool, true, cond, ◌||◌, ◌&&◌, List, [], ◌∷◌, ℕ, zero, suc, ◌+◌, ◌*◌, ◌-◌, ◌/◌, ◌%◌, leb, ltb}

-- the byte of a digit
unfoldable pub char_of : ℕ → ℕ
char_of d = cond (ltb d 10) (48 + d) (87 + d)

-- the digits of n, before those that are printed already: just so many (padded), or at most so many and no zero before others
abbrev pub digits_from : (padded : Bool) → (base : ℕ) → (many : ℕ) → ℕ → List ℕ → List ℕ
digits_from padded base zero n bs = bs
digits_from padded base (suc k) n bs =
    cond (padded || leb base n) (digits_from padded base k (n / base) (char_of (n % base) ∷ bs)) (char_of n ∷ bs)

-- the digit that a byte is; 16 where it is none
unfoldable pub digit_of : ℕ → ℕ
digit_of b = cond (ltb b 48) 16 (cond (ltb b 58) (b - 48) (cond (ltb b 97) 16 (cond (ltb b 103) (b - 87) 16)))

-- each byte is a digit of the base
abbrev pub are_digits : ℕ → List ℕ → Bool
are_digits base [] = true
are_digits base (b ∷ bs) = ltb (digit_of b) base && are_digits base bs

-- the number that digits spell after those that spell n
abbrev pub value_from : ℕ → ℕ → List ℕ → ℕ
value_from base n [] = n
value_from base n (b ∷ bs) = value_from base (n * base + digit_of b) bs

-- a text of digits, read
unfoldable pub number_in : ℕ → List ℕ → Option ℕ
number_in base bs = cond (are_digits base bs) (Some (value_from base 0 bs)) None
