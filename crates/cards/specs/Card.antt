-- A card (document 02, A.2) as a value, its bytes, and what a text is read as. `card_there` and `card_back` (proofs/Card) say that what is accepted is just
-- what is printed, `card_refused` and `card_line` that a text is refused just where the end of this file says. Definitions only.
use Rattle.std.specs.Prelude.{◌≡◌, Bool, true, false, not, ◌&&◌, List, [], ◌∷◌, ◌++◌, ◌⊎◌, ℕ, zero, suc, ◌+◌, ◌<◌, ◌≤◌, eqb, length}
use Rattle.layers.specs.Limits.{most_layers}
use Rattle.cards.specs.Cells.{Cell}
use Rattle.cards.specs.Forms.{newline, tray_form, layer_form, fill, fits, Scan, bad, scanned, read_form}

-- the cells of the tray's line, and of each layer's, lowest first
pub record Card : Type 0 where
  pub tray : List Cell
  pub layers : List (List Cell)

-- ---- printing

-- lines of one form
abbrev pub print_lines : (form : List ℕ) → List (List Cell) → List ℕ
print_lines form [] = []
print_lines form (v ∷ vs) = fill form v ++ print_lines form vs

abbrev pub printed : Card → List ℕ
printed c = fill tray_form c.tray ++ print_lines layer_form c.layers

-- each line has the cells of its form
abbrev pub all_fit : (form : List ℕ) → List (List Cell) → Bool
all_fit form [] = true
all_fit form (v ∷ vs) = fits form v && all_fit form vs

-- ---- reading

-- the cells of each line; or the number of the first line that is out of form or one too many
pub data Lines : Type 0 where
  refused : ℕ → Lines
  lines : List (List Cell) → Lines

abbrev pub one_more_line : List Cell → Lines → Lines
one_more_line v (refused n) = refused n
one_more_line v (lines vs) = lines (v ∷ vs)

abbrev pub after_line : ℕ → Scan → (List ℕ → Lines) → Lines
after_line n bad f = refused n
after_line n (scanned v s) f = one_more_line v (f s)

-- nothing, unless there is more to read
abbrev pub if_more : List ℕ → Lines → Lines
if_more [] r = lines []
if_more (b ∷ s) r = r

-- at most so many lines, the first of which has the number n
abbrev pub read_lines : (form : List ℕ) → (most : ℕ) → (n : ℕ) → List ℕ → Lines
read_lines form zero n s = if_more s (refused n)
read_lines form (suc m) n s = if_more s (after_line n (read_form form s) (read_lines form m (suc n)))

pub data Read : Type 0 where
  bad_line : ℕ → Read
  read : Card → Read

abbrev pub as_card : List Cell → Lines → Read
as_card tray (refused n) = bad_line n
as_card tray (lines vs) = read record { tray = tray; layers = vs }

abbrev pub after_tray : Scan → Read
after_tray bad = bad_line 1
after_tray (scanned v s) = as_card v (read_lines layer_form most_layers 2 s)

unfoldable pub read_card : List ℕ → Read
read_card s = after_tray (read_form tray_form s)

-- ---- what is shown of reading (proofs/Card)

-- a card that can be printed: numbers of at most ten digits, names that are names, zero to four arguments of 32 bits, and no layer too many
pub record Printable (c : Card) : Type 0 where
  pub tray : fits tray_form c.tray ≡ true
  pub layers : all_fit layer_form c.layers ≡ true
  pub few : length c.layers ≤ most_layers

-- one line: byte 10 ends it, and stands nowhere else in it
abbrev pub is_line : List ℕ → Bool
is_line [] = false
is_line (b ∷ []) = eqb b newline
is_line (b ∷ c ∷ s) = not (eqb b newline) && is_line (c ∷ s)

-- the line with which a text begins is out of form: whatever stands after it, it is no print of cells
abbrev pub OutOfForm : (form : List ℕ) → List ℕ → Type 0
OutOfForm form s = (v : List Cell) (t : List ℕ) → fits form v ≡ true → s ≡ fill form v ++ t → ⊥

-- why a text is refused at line n: its first line is out of form; or a card's lines stand before line n, and that is one too many or out of form
pub data Refusal (s : List ℕ) (n : ℕ) : Type 0 where
  at_first : n ≡ 1 → OutOfForm tray_form s → Refusal s n
  later : (c : Card) (rest : List ℕ) → Printable c → s ≡ printed c ++ rest → n ≡ 2 + length c.layers → 0 < length rest
      → (length c.layers ≡ most_layers) ⊎ OutOfForm layer_form rest → Refusal s n
