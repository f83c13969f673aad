-- What stands in the holes of a card's lines (document 02, A.2): "one of the 83 names as `from_name` spells them", a number, or "zero to four arguments
-- as eight small hexadecimal digits of f32 bits". Definitions only.
use Rattle.std.specs.Prelude.{Option, Some, None, Bool, true, false, ◌&&◌, List, [], ◌∷◌, ◌++◌, ℕ, eqb, leb, ℤ, pos, length}
use Prim.Native.Char.{code}
use Rattle.layers.specs.Limits.{arg_words}
use Rattle.names.specs.Names.{entries, lookup}
use Rattle.numerals.specs.Numbers.{decimal_text, is_decimal, hex_text, is_word}

-- a name by its bytes, a number, or arguments by their words
pub data Cell : Type 0 where
  name : List ℕ → Cell
  number : ℤ → Cell
  arguments : List ℕ → Cell

-- ---- as they are printed

-- each argument stands after a space
abbrev pub arguments_text : List ℕ → List ℕ
arguments_text [] = []
arguments_text (w ∷ ws) = code " " ∷ (hex_text w ++ arguments_text ws)

abbrev pub spell : Cell → List ℕ
spell (name w) = w
spell (number z) = decimal_text z
spell (arguments ws) = arguments_text ws

-- ---- which there are: the letter of the hole says of which kind

abbrev pub name_hole : ℕ
name_hole = code "N"

abbrev pub number_hole : ℕ
number_hole = code "D"

abbrev pub arguments_hole : ℕ
arguments_hole = code "A"

abbrev pub is_known : Option ℕ → Bool
is_known (Some n) = true
is_known None = false

-- a name is spelt just as the list of names spells it
unfoldable pub is_name : List ℕ → Bool
is_name w = is_known (lookup w entries)

abbrev pub are_words : List ℕ → Bool
are_words [] = true
are_words (w ∷ ws) = is_word w && are_words ws

abbrev pub is_cell : (hole : ℕ) → Cell → Bool
is_cell c (name w) = eqb c name_hole && is_name w
is_cell c (number z) = eqb c number_hole && is_decimal z
is_cell c (arguments ws) = eqb c arguments_hole && (leb (length ws) arg_words && are_words ws)

-- ---- as the layer table has them

-- the operator's number; 0 where there is none
abbrev pub operator_of : Option ℕ → ℕ
operator_of (Some n) = n
operator_of None = 0

-- a cell's number: its operator's, itself, or how many arguments there are
abbrev pub column_of : Cell → ℤ
column_of (name w) = pos (operator_of (lookup w entries))
column_of (number z) = z
column_of (arguments ws) = pos (length ws)

abbrev pub words_in : Cell → List ℕ
words_in (name w) = []
words_in (number z) = []
words_in (arguments ws) = ws
