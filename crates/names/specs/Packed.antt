-- Document 02, A.4: the 83 names "end to end in one list of bytes, each once, beside their lengths: cut at these, the list gives the 83 names with nothing
-- left over" (`names_packed`, proofs/EndToEnd). And how the code keeps such a list, in numbers of eight bytes. Definitions only.
use Rattle.std.specs.Prelude.{Option, Some, None, cond, List, [], ◌∷◌, ◌++◌, map, ℕ, zero, suc, ◌+◌, ◌*◌, ◌/◌, ◌%◌, ◌^◌, length, take, drop}
use Rattle.operators.specs.Operators.{number_of}
use Rattle.names.specs.Names.{Entry, entries, aliases, same}

-- the words, and the operators' numbers
abbrev pub words : List Entry → List (List ℕ)
words es = map (λ (e : Entry). e.word) es

abbrev pub numbers_of : List Entry → List ℕ
numbers_of es = map (λ (e : Entry). number_of e.op) es

unfoldable pub numbers : List ℕ
numbers = numbers_of entries

-- lists, one after the other
abbrev pub joined : List (List ℕ) → List ℕ
joined [] = []
joined (w ∷ ws) = w ++ joined ws

-- the 83 names end to end, and their lengths
unfoldable pub letters : List ℕ
letters = joined (words entries)

unfoldable pub lengths : List ℕ
lengths = map length (words entries)

-- no name is longer (`none_longer`, proofs/EndToEnd)
abbrev pub most_letters : ℕ
most_letters = 16

-- the operators' numbers of the 13 aliases; the number of a name that is no alias is its place
unfoldable pub aliased : List ℕ
aliased = numbers_of aliases

abbrev pub total : List ℕ → ℕ
total [] = 0
total (n ∷ ns) = n + total ns

-- the list bs cut into pieces of the lengths ns
abbrev pub cut : List ℕ → List ℕ → List (List ℕ)
cut [] bs = []
cut (n ∷ ns) bs = take n bs ∷ cut ns (drop n bs)

-- the place, counted from i, of the first word that is the key
abbrev pub place_from : ℕ → List ℕ → List (List ℕ) → Option ℕ
place_from i k [] = None
place_from i k (w ∷ ws) = cond (same k w) (Some i) (place_from (suc i) k ws)

-- the first n bytes of a list as one number, the first the lowest; past the list's end they are 0
abbrev pub value_of : ℕ → List ℕ → ℕ
value_of zero bs = 0
value_of (suc n) [] = 0
value_of (suc n) (b ∷ bs) = value_of n bs * 256 + b

-- the k-th eight bytes of a list, and the i-th byte of such a number
abbrev pub eight_of : List ℕ → ℕ → ℕ
eight_of bs k = value_of 8 (drop (8 * k) bs)

abbrev pub byte_of : ℕ → ℕ → ℕ
byte_of w i = (w / 2 ^ (8 * i)) % 256
