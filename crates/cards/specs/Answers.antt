-- What a host has after a card was read (document 02, A.2): "The reader answers the tray's width, height and channels and the layer count, and fills sheet
-- and arguments, unused arguments 0. Both are lent for the most layers a job may have, and rows past the last layer become 0"; another length is 12, with 0
-- for the line, before any line; a line out of form or one too many is 12, "with the first such line counted from 1, nothing filled and the other answers
-- 0". Edition 1 has no field for a window: "a card of edition 1 yields 0, 0, 2,048, 2,048" (A.3). Definitions only.
use Rattle.std.specs.Prelude.{◌≡◌, Result, Ok, Err, cond, not, ◌||◌, List, [], ◌∷◌, ◌++◌, map, ◌⊎◌, ℕ, ◌*◌, ◌-◌, eqb, ℤ, pos, length, get_or, replicate}
use Rattle.faults.specs.Faults.{NONE, CARD}
use Rattle.layers.specs.Cells.{cell_of}
use Rattle.layers.specs.Limits.{columns, arg_words, most_layers, at_left, at_top, at_window_width, at_window_height}
use Rattle.cards.specs.declared.Header.{Header}
use Rattle.cards.specs.declared.BadCard.{BadCard}
use Rattle.cards.specs.Cells.{Cell, column_of, words_in}
use Rattle.cards.specs.Card.{Card, printed, Read, bad_line, read, read_card, Printable, Refusal}

-- a list that is followed by as many of an element as make up the length
abbrev pub padded : {A : Type 0} → ℕ → A → List A → List A
padded n x xs = xs ++ replicate (n - length xs) x

-- ---- what a card fills

-- the numbers of a line's cells
abbrev pub numbers_of : List Cell → List ℤ
numbers_of v = map column_of v

-- left, top, width and height of the window of edition 1. It names no limit of a job: "a window of 2,048 by 2,048 does not grow" with them (A.9)
abbrev pub full_window : List ℤ
full_window = pos 0 ∷ pos 0 ∷ pos 2048 ∷ pos 2048 ∷ []

-- a layer's row, and its words
abbrev pub row_of : List Cell → List ℤ
row_of v = numbers_of v ++ full_window

abbrev pub args_in : List Cell → List ℕ
args_in [] = []
args_in (v ∷ vs) = words_in v ++ args_in vs

abbrev pub rows_of : List (List Cell) → List ℤ
rows_of [] = []
rows_of (v ∷ vs) = row_of v ++ rows_of vs

-- unused arguments are 0
abbrev pub args_of : List (List Cell) → List ℕ
args_of [] = []
args_of (v ∷ vs) = padded arg_words 0 (args_in v) ++ args_of vs

-- the numbers that the lent lists must have
abbrev pub table_length : ℕ
table_length = most_layers * columns

abbrev pub args_length : ℕ
args_length = most_layers * arg_words

-- rows past the last layer are 0
abbrev pub table_of : (layers : List (List Cell)) → List ℤ
table_of layers = padded table_length (pos 0) (rows_of layers)

abbrev pub words_of : (layers : List (List Cell)) → List ℕ
words_of layers = padded args_length 0 (args_of layers)

-- ---- the outcome

-- what is answered: the number, NONE or CARD; the first line out of form or too many, 0 for a list of another length; the destination's width, height and
-- channels, and the count of layers
pub record Answer : Type 0 where
  pub number : ℕ
  pub line : ℕ
  pub width : ℤ
  pub height : ℤ
  pub channels : ℤ
  pub layers : ℤ

-- what is answered, and the whole of both lists
pub record Outcome : Type 0 where
  pub answer : Answer
  pub table : List ℤ
  pub args : List ℕ

abbrev pub outcome : Answer → List ℤ → List ℕ → Outcome
outcome answer table args = record { answer = answer; table = table; args = args }

abbrev pub answer : (number line : ℕ) → (width height channels layers : ℤ) → Answer
answer number line width height channels layers =
    record { number = number; line = line; width = width; height = height; channels = channels; layers = layers }

abbrev pub refusal : ℕ → Answer
refusal n = answer CARD n (pos 0) (pos 0) (pos 0) (pos 0)

-- the code's answer in these numbers
abbrev pub answer_of : Result Header BadCard → Answer
answer_of (Ok h) = answer NONE 0 h.width h.height h.channels h.layers
answer_of (Err e) = refusal e.line

abbrev pub accepted : Card → Answer
accepted c = let row = numbers_of c.tray in answer NONE 0 (get_or row 0 (pos 0)) (get_or row 1 (pos 0)) (get_or row 2 (pos 0)) (pos (length c.layers))

abbrev pub outcome_of : Read → (table : List ℤ) → (args : List ℕ) → Outcome
outcome_of (bad_line n) table args = outcome (refusal n) table args
outcome_of (read c) table args = outcome (accepted c) (table_of c.layers) (words_of c.layers)

-- the text read into the two lists
unfoldable pub read_of : (text : List ℕ) → (table : List ℤ) → (args : List ℕ) → Outcome
read_of text table args =
    cond (not (eqb (length table) table_length) || not (eqb (length args) args_length))
    (outcome (refusal 0) table args)
    (outcome_of (read_card text) table args)

-- ---- what is shown of the outcome (proofs/Reader, Windows)

-- both lists are lent for the most layers; or one is lent for another number
abbrev pub RightLengths : List ℤ → List ℕ → Type 0
RightLengths table args = (length table ≡ table_length) × (length args ≡ args_length)

abbrev pub OtherLength : List ℤ → List ℕ → Type 0
OtherLength table args = ((length table ≡ table_length) → ⊥) ⊎ ((length args ≡ args_length) → ⊥)

-- the text is the print of a card that can be printed, and that card is what was answered and filled
pub record Accepted (text : List ℕ) (table : List ℤ) (args : List ℕ) (o : Outcome) : Type 0 where
  pub lengths : RightLengths table args
  pub card : Card
  pub printable : Printable card
  pub print : text ≡ printed card
  pub filled : o ≡ outcome (accepted card) (table_of card.layers) (words_of card.layers)

-- CARD with a line, both lists as they were: 0 for another length, whatever the text; a line at which the text is to be refused where the lengths are right
pub record Refused (text : List ℕ) (table : List ℤ) (args : List ℕ) (o : Outcome) : Type 0 where
  pub line : ℕ
  pub answered : o ≡ outcome (refusal line) table args
  pub why : ((line ≡ 0) × OtherLength table args) ⊎ (RightLengths table args × Refusal text line)

-- a row has the window of edition 1
abbrev pub Windowed : (row : List ℤ) → Type 0
Windowed row =
    (cell_of row at_left ≡ pos 0) × (cell_of row at_top ≡ pos 0) × (cell_of row at_window_width ≡ pos 2048) × (cell_of row at_window_height ≡ pos 2048)
