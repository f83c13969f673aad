-- What the functions within the reader answer and leave: they write each cell to the lists, where the definitions list them. Definitions only.
use Rattle.std.specs.Prelude.{Option, Some, None, Result, Ok, Err, ◌≡◌, Bool, true, cond, ◌&&◌, List, [], ◌∷◌, ℕ, suc, ◌+◌, ◌*◌, eqb, leb, ℤ, length, set}
use Rattle.std.specs.Borrow.{Bor}
use Rattle.layers.specs.Limits.{columns, arg_words}
use Rattle.cards.specs.declared.BadCard.{BadCard}
use Rattle.cards.specs.declared.holes.Part.{Part}
use Rattle.cards.specs.Cells.{Cell, column_of, words_in}
use Rattle.cards.specs.Forms.{is_hole, Scan, bad, scanned}
use Rattle.cards.specs.Card.{Lines, refused, lines}
use Rattle.cards.specs.Answers.{numbers_of, row_of, table_of, words_of}

-- ---- a hole

-- small letters, of which all names are
unfoldable pub is_letter : ℕ → Bool
is_letter b = leb 97 b && leb b 122

abbrev pub are_letters : List ℕ → Bool
are_letters [] = true
are_letters (b ∷ s) = is_letter b && are_letters s

-- the number of a cell
abbrev pub column : Option Cell → Option ℤ
column None = None
column (Some v) = Some (column_of v)

-- what is left of a text after a byte with which it begins
abbrev pub after_byte : ℕ → List ℕ → Option (List ℕ)
after_byte c [] = None
after_byte c (b ∷ s) = cond (eqb b c) (Some s) None

-- elements put into a list from place n on
abbrev pub put : {A : Type 0} → List A → ℕ → List A → List A
put xs n [] = xs
put xs n (y ∷ ys) = put (set xs n y) (suc n) ys

-- the words of cells, put into the arguments from place w on
abbrev pub put_words : List ℕ → ℕ → List Cell → List ℕ
put_words args w [] = args
put_words args w (v ∷ vs) = put_words (put args w (words_in v)) w vs

-- what one byte of a form finds: its cell's number, where it is a hole, the arguments then, and what is left of the text
pub data Found : Type 0 where
  nothing : Found
  found : Option ℤ → List ℕ → List ℕ → Found

abbrev pub found_by : Option Part → (args : List ℕ) → Found
found_by None args = nothing
found_by (Some p) args = found p.value args p.rest.now

abbrev pub value_in : List Cell → Option ℤ
value_in [] = None
value_in (v ∷ vs) = Some (column_of v)

abbrev pub found_in : (args : List ℕ) → Scan → Found
found_in args bad = nothing
found_in args (scanned vs t) = found (value_in vs) (put_words args 0 vs) t

-- what is found has nothing to do with the arguments: they stay, whatever they are
abbrev pub Apart : Option Part → Scan → Type 0
Apart p r = (args : List ℕ) → found_by p args ≡ found_in args r

-- ---- a form

abbrev pub holes : List ℕ → ℕ
holes [] = 0
holes (c ∷ cs) = cond (is_hole c) (suc (holes cs)) (holes cs)

-- what a form leaves: the row, the arguments, and the rest of the text
pub data Filled : Type 0 where
  unfilled : Filled
  filled : List ℤ → List ℕ → List ℕ → Filled

abbrev pub filled_by : Option (Bor (List ℕ)) → (row : List ℤ) → (args : List ℕ) → Filled
filled_by None row args = unfilled
filled_by (Some rest) row args = filled row args rest.now

-- the numbers of its holes go to the row from place n on
abbrev pub filled_in : (row : List ℤ) → ℕ → (args : List ℕ) → Scan → Filled
filled_in row n args bad = unfilled
filled_in row n args (scanned vs t) = filled (put row n (numbers_of vs)) (put_words args 0 vs) t

-- .. and the window after those of a layer's line
abbrev pub layer_in : (row : List ℤ) → (args : List ℕ) → Scan → Filled
layer_in row args bad = unfilled
layer_in row args (scanned vs t) = filled (put row 0 (row_of vs)) (put_words args 0 vs) t

-- the numbers of a line without arguments, and the rest of the text
abbrev pub numbers_in : Scan → Option (List ℤ × List ℕ)
numbers_in bad = None
numbers_in (scanned vs t) = Some (numbers_of vs, t)

-- ---- lines

-- rows put into the table, and their words into the arguments, from layer k on
abbrev pub put_rows : List ℤ → ℕ → List (List Cell) → List ℤ
put_rows table k [] = table
put_rows table k (v ∷ vs) = put_rows (put table (k * columns) (row_of v)) (suc k) vs

abbrev pub put_args : List ℕ → ℕ → List (List Cell) → List ℕ
put_args args k [] = args
put_args args k (v ∷ vs) = put_args (put_words args (k * arg_words) v) (suc k) vs

-- what lines leave: the table and the arguments with as many layers; or the line at which they stop
pub data Counted : Type 0 where
  stopped : ℕ → Counted
  counted : List ℤ → List ℕ → ℕ → Counted

abbrev pub counted_by : Result ℕ BadCard → (table : List ℤ) → (args : List ℕ) → Counted
counted_by (Ok k) table args = counted table args k
counted_by (Err e) table args = stopped e.line

abbrev pub counted_in : (table : List ℤ) → (args : List ℕ) → ℕ → Lines → Counted
counted_in table args k (refused n) = stopped n
counted_in table args k (lines vs) = counted (put_rows table k vs) (put_args args k vs) (k + length vs)

-- what the layers' lines leave of the lent lists: the whole of them filled, or as they were
pub record Written : Type 0 where
  pub count : Result ℕ BadCard
  pub table : List ℤ
  pub args : List ℕ

abbrev pub written : Result ℕ BadCard → List ℤ → List ℕ → Written
written count table args = record { count = count; table = table; args = args }

abbrev pub written_of : Lines → (table : List ℤ) → (args : List ℕ) → Written
written_of (refused n) table args = written (Err (record { line = n })) table args
written_of (lines vs) table args = written (Ok (length vs)) (table_of vs) (words_of vs)
