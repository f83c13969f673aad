-- The rows of the table that a card of edition 1 fills (document 02, A.3). `card_window`: every layer's row ends in the window 0, 0, 2,048, 2,048.
-- `card_past`: rows past the last layer are 0. Assumes nothing.
use mathlib.Core.Path.{◌≡◌, sym, ap, ◌∙◌}
use mathlib.Core.Bool.{true}
use mathlib.Core.List.{List, [], ◌∷◌, ◌++◌, append_assoc}
use Prim.Native.Nat.{ℕ, zero, suc, ◌+◌, ◌*◌, ◌-◌, ◌<◌, ◌≤◌}
use native.Mathlib.Omega.{arith}
use lib.IntN.{ℤ, pos}
use lib.ListN.{length, get_or, take, drop, replicate, length-replicate, replicate-append-replicate}
use lib.Seq.{take_at, drop_at, drop-append-add, get_or-append-add}
use Rattle.layers.specs.Cells.{row_at, cell_of}
use Rattle.layers.specs.Limits.{columns, most_layers, at_left}
use Rattle.numerals.proofs.Bools.{and_true}
use Rattle.cards.specs.Cells.{Cell}
use Rattle.cards.specs.Forms.{layer_form, fits}
use Rattle.cards.specs.Card.{Card, all_fit, Printable}
use Rattle.cards.specs.Answers.{numbers_of, full_window, row_of, rows_of, table_length, table_of, Windowed}
use Rattle.cards.proofs.Outcome.{numbers_length, layer_holes, row_length, rows_length}

-- a layer's row has the window after its numbers
row_windowed : (v : List Cell) → fits layer_form v ≡ true → Windowed (row_of v)
row_windowed v h = (cell 0, cell 1, cell 2, cell 3)
  where
    cell : (i : ℕ) → cell_of (row_of v) (at_left + i) ≡ get_or full_window i (pos 0)
    cell i =
        ap (λ (n : ℕ). cell_of (row_of v) (n + i)) (sym (numbers_length layer_form v h ∙ layer_holes)) ∙ get_or-append-add (numbers_of v) full_window i (pos 0)

-- .. which is row k of layers' rows, whatever stands after them
rows_windowed : (vs : List (List Cell)) (after : List ℤ) (k : ℕ) → all_fit layer_form vs ≡ true → k < length vs → Windowed (row_at (rows_of vs ++ after) k)
rows_windowed [] after k f h = absurd (omega arith)
rows_windowed (v ∷ vs) after zero f h =
    let p = and_true (fits layer_form v) (all_fit layer_form vs) f in
    rw (append_assoc (row_of v) (rows_of vs) after, take_at (row_of v) (rows_of vs ++ after) columns (row_length v p.0)) (row_windowed v p.0)
rows_windowed (v ∷ vs) after (suc k) f h =
    let p = and_true (fits layer_form v) (all_fit layer_form vs) f in
    let l = row_length v p.0 in
    let q : suc k * columns ≡ length (row_of v) + k * columns = omega arith in
    rw (append_assoc (row_of v) (rows_of vs) after, q, drop-append-add (row_of v) (rows_of vs ++ after) (k * columns)) (rows_windowed vs after k p.1 (omega arith))

-- a part of zeros
zeros : (n m l : ℕ) → take m (drop n (replicate (n + (m + l)) (pos 0))) ≡ replicate m (pos 0)
zeros n m l =
    ap (λ (x : List ℤ). take m (drop n x)) (sym (replicate-append-replicate n (m + l) (pos 0)))
    ∙ ap (take m) (drop_at (replicate n (pos 0)) (replicate (m + l) (pos 0)) n (length-replicate n (pos 0)) ∙ sym (replicate-append-replicate m l (pos 0)))
    ∙ take_at (replicate m (pos 0)) (replicate l (pos 0)) m (length-replicate m (pos 0))

module _ (c : Card) (g : Printable c) (k : ℕ) where
  pub card_window : k < length c.layers → Windowed (row_at (table_of c.layers) k)
  card_window h = rows_windowed c.layers (replicate (table_length - length (rows_of c.layers)) (pos 0)) k g.layers h

  pub card_past : length c.layers ≤ k → k < most_layers → row_at (table_of c.layers) k ≡ replicate columns (pos 0)
  card_past h m =
      let rows = rows_of c.layers in
      let e = rows_length c.layers g.layers in
      let n = k * columns - length rows in
      let l = table_length - (k * columns + columns) in
      let at : k * columns ≡ length rows + n = omega arith in
      let room : table_length - length rows ≡ n + (columns + l) = omega arith in
      ap (λ (x : ℕ). take columns (drop x (table_of c.layers))) at
      ∙ ap (take columns) (drop-append-add rows (replicate (table_length - length rows) (pos 0)) n)
      ∙ ap (λ (x : ℕ). take columns (drop n (replicate x (pos 0)))) room
      ∙ zeros n columns l
