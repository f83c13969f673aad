-- What lines leave of lists of zeros is the table and the arguments of the card that was read. Assumes nothing.
use mathlib.Core.Path.{◌≡◌, refl, sym, ap, ◌∙◌}
use mathlib.Core.Bool.{Bool, true, false, cond, not, ◌&&◌, or-true}
use mathlib.Core.List.{List, [], ◌∷◌, ◌++◌, append_assoc, append-nil}
use Prim.Native.Nat.{ℕ, suc, ◌+◌, ◌*◌, ◌-◌, ◌≤◌}
use native.Mathlib.Omega.{arith}
use lib.Dec.{eqb, leb}
use lib.IntN.{ℤ, pos}
use lib.ListN.{length, get_or, length-append, length-map, replicate}
use borrow.Author.Tests.{leb-true, not-true, eq-eqb, ne_eqb}
use Rattle.std.specs.Prelude.{Some, None, Result, Ok, Err}
use Rattle.cards.specs.declared.BadCard.{BadCard}
use Rattle.faults.specs.Faults.{NONE}
use Rattle.layers.specs.Limits.{columns, arg_words, most_layers, at_left}
use Rattle.numerals.proofs.Bools.{split, and_true}
use Rattle.cards.specs.Cells.{Cell, name, number, arguments, is_cell, are_words, name_hole, number_hole, arguments_hole, column_of, words_in}
use Rattle.cards.specs.Forms.{tray_form, layer_form, is_hole, fits, Scan, bad, scanned, read_form}
use Rattle.cards.specs.Card.{all_fit, Lines, refused, lines, read_lines, Read, as_card, after_tray, read_card}
use Rattle.cards.specs.Answers.{padded, numbers_of, full_window, row_of, args_in, rows_of, args_of, table_length, args_length, table_of, words_of}
use Rattle.cards.specs.Answers.{Answer, outcome, answer, refusal, outcome_of, read_of}
use Rattle.cards.specs.Steps.{put, put_words, holes, unfilled, filled, filled_in, numbers_in, put_rows, put_args, Counted, stopped, counted, counted_in, Written, written, written_of}
use Rattle.cards.proofs.Card.{Says, lines_say, layer_some, layer_shaped}
use Rattle.cards.proofs.Forms.{form_back}
use Rattle.cards.proofs.Puts.{put_past, put_front, put_padded, padded_length}

-- ---- the cells of a form

-- a form has as many cells as holes
pub fits_length : (form : List ℕ) (vs : List Cell) → fits form vs ≡ true → length vs ≡ holes form
fits_length [] [] h = refl
fits_length [] (v ∷ vs) h = absurd (cc)
fits_length (c ∷ cs) [] h =
    let p = and_true (not (is_hole c)) (fits cs []) h in
    rw (not-true (is_hole c) p.0) (fits_length cs [] p.1)
fits_length (c ∷ cs) (v ∷ vs) h =
    split (is_hole c)
    (λ e. rw e (ap suc (fits_length cs vs (and_true (is_cell c v) (fits cs vs) (rw e at h)).1)))
    (λ e. rw e (fits_length cs (v ∷ vs) (rw e at h)))

pub numbers_length : (form : List ℕ) (v : List Cell) → fits form v ≡ true → length (numbers_of v) ≡ holes form
numbers_length form v h = length-map v column_of ∙ fits_length form v h

-- no hole is for arguments
abbrev bare : (form : List ℕ) → Bool
bare [] = true
bare (c ∷ cs) = not (eqb c arguments_hole) && bare cs

-- .. and one at the most
abbrev pub single : (form : List ℕ) → Bool
single [] = true
single (c ∷ cs) = cond (eqb c arguments_hole) (bare cs) (single cs)

-- a cell of another hole has no words
no_words : (c : ℕ) (v : Cell) → eqb c arguments_hole ≡ false → is_cell c v ≡ true → words_in v ≡ []
no_words c (name w) h e = refl
no_words c (number z) h e = refl
no_words c (arguments ws) h e = let z : ◌≡◌ {A = Bool} false true = rw h at e in absurd (cc)

-- a cell has four words at the most
few_words : (c : ℕ) (v : Cell) → is_cell c v ≡ true → length (words_in v) ≤ arg_words
few_words c (name w) e = omega arith
few_words c (number z) e = omega arith
few_words c (arguments ws) e =
    leb-true (length ws) arg_words (and_true (leb (length ws) arg_words) (are_words ws) (and_true (eqb c arguments_hole) (leb (length ws) arg_words && are_words ws) e).1).0

-- what putting the words of cells comes to
record Worded (vs : List Cell) : Type 0 where
  puts : (args : List ℕ) (w : ℕ) → put_words args w vs ≡ put args w (args_in vs)
  few : length (args_in vs) ≤ arg_words

record Bare (vs : List Cell) : Type 0 where
  puts : (args : List ℕ) (w : ℕ) → put_words args w vs ≡ args
  none : args_in vs ≡ []

bare_cells : (form : List ℕ) (vs : List Cell) → bare form ≡ true → fits form vs ≡ true → Bare vs
bare_cells [] [] b h = record { puts = λ args w. refl; none = refl }
bare_cells [] (v ∷ vs) b h = absurd (cc)
bare_cells (c ∷ cs) [] b h = record { puts = λ args w. refl; none = refl }
bare_cells (c ∷ cs) (v ∷ vs) b h =
    let p = and_true (not (eqb c arguments_hole)) (bare cs) b in
    split (is_hole c)
    (λ e. let q = and_true (is_cell c v) (fits cs vs) (rw e at h) in
    let n = no_words c v (not-true (eqb c arguments_hole) p.0) q.0 in
    let r = bare_cells cs vs p.1 q.1 in
    record { puts = λ args w. rw n (r.puts args w); none = rw n r.none })
    (λ e. bare_cells cs (v ∷ vs) p.1 (rw e at h))

-- the one list of arguments, and no other after it
last_cells : (c : ℕ) (v : Cell) (vs : List Cell) → is_cell c v ≡ true → Bare vs → Worded (v ∷ vs)
last_cells c v vs h r =
    let q : words_in v ++ args_in vs ≡ words_in v = ap (λ (l : List ℕ). words_in v ++ l) r.none ∙ append-nil (words_in v) in
    record {
      puts = λ args w. r.puts (put args w (words_in v)) w ∙ ap (put args w) (sym q);
      few = omega (arith, ap length q, few_words c v h);
    }

arguments_hole_lem : (c : ℕ) → eqb c arguments_hole ≡ true → is_hole c ≡ true
unfolding is_hole
arguments_hole_lem c a = rw (a, or-true (eqb c number_hole), or-true (eqb c name_hole))

other_cells : (c : ℕ) (v : Cell) (vs : List Cell) → eqb c arguments_hole ≡ false → is_cell c v ≡ true → Worded vs → Worded (v ∷ vs)
other_cells c v vs a h r =
    let n = no_words c v a h in
    record { puts = λ args w. rw n (r.puts args w); few = rw n r.few }

one_cells : (form : List ℕ) (vs : List Cell) → single form ≡ true → fits form vs ≡ true → Worded vs
one_cells [] [] b h = record { puts = λ args w. refl; few = omega arith }
one_cells [] (v ∷ vs) b h = absurd (cc)
one_cells (c ∷ cs) [] b h = record { puts = λ args w. refl; few = omega arith }
one_cells (c ∷ cs) (v ∷ vs) b h =
    split (eqb c arguments_hole)
    (λ a. let q = and_true (is_cell c v) (fits cs vs) (rw (arguments_hole_lem c a) at h) in
    last_cells c v vs q.0 (bare_cells cs vs (rw a at b) q.1))
    (λ a. split (is_hole c)
    (λ e. let q = and_true (is_cell c v) (fits cs vs) (rw e at h) in
    other_cells c v vs a q.0 (one_cells cs vs (rw a at b) q.1))
    (λ e. one_cells cs (v ∷ vs) (rw a at b) (rw e at h)))

-- ---- layers

-- the numbers before the window
pub layer_holes : holes layer_form ≡ at_left
unfolding layer_form is_hole
layer_holes = refl

layer_single : single layer_form ≡ true
unfolding layer_form
layer_single = refl

pub row_length : (v : List Cell) → fits layer_form v ≡ true → length (row_of v) ≡ columns
row_length v h = omega (arith, length-append (numbers_of v) full_window, numbers_length layer_form v h, layer_holes)

-- a front, and after it the layers' numbers or words, each layer's as many as there is room for
pub rows_put : (vs : List (List Cell)) (front : List ℤ) (k m : ℕ) → k * columns ≡ length front → all_fit layer_form vs ≡ true
    → put_rows (front ++ replicate (length vs * columns + m) (pos 0)) k vs ≡ front ++ (rows_of vs ++ replicate m (pos 0))
rows_put [] front k m e h = let q : 0 * columns + m ≡ m = omega arith in ap (λ (n : ℕ). front ++ replicate n (pos 0)) q
rows_put (v ∷ vs) front k m e h =
    let p = and_true (fits layer_form v) (all_fit layer_form vs) h in
    let l = row_length v p.0 in
    let others = length vs * columns + m in
    let q : suc (length vs) * columns + m ≡ length (row_of v) + others = omega arith in
    let n : suc k * columns ≡ length (front ++ row_of v) = omega (arith, length-append front (row_of v)) in
    ap (λ (x : ℕ). put_rows (front ++ replicate x (pos 0)) k (v ∷ vs)) q
    ∙ ap (λ (t : List ℤ). put_rows t (suc k) vs)
    (put_past front (replicate (length (row_of v) + others) (pos 0)) (k * columns) (row_of v) e
    ∙ ap (λ (t : List ℤ). front ++ t) (put_front (pos 0) (row_of v) others)
    ∙ sym (append_assoc front (row_of v) (replicate others (pos 0))))
    ∙ rows_put vs (front ++ row_of v) (suc k) m n p.1
    ∙ append_assoc front (row_of v) (rows_of vs ++ replicate m (pos 0))
    ∙ ap (λ (t : List ℤ). front ++ t) (sym (append_assoc (row_of v) (rows_of vs) (replicate m (pos 0))))

pub args_put : (vs : List (List Cell)) (front : List ℕ) (k m : ℕ) → k * arg_words ≡ length front → all_fit layer_form vs ≡ true
    → put_args (front ++ replicate (length vs * arg_words + m) 0) k vs ≡ front ++ (args_of vs ++ replicate m 0)
args_put [] front k m e h = let q : 0 * arg_words + m ≡ m = omega arith in ap (λ (n : ℕ). front ++ replicate n 0) q
args_put (v ∷ vs) front k m e h =
    let p = and_true (fits layer_form v) (all_fit layer_form vs) h in
    let w = one_cells layer_form v layer_single p.0 in
    let l = padded_length 0 (args_in v) arg_words w.few in
    let own = padded arg_words 0 (args_in v) in
    let others = length vs * arg_words + m in
    let q : suc (length vs) * arg_words + m ≡ arg_words + others = omega arith in
    let n : suc k * arg_words ≡ length (front ++ own) = omega (arith, length-append front own) in
    ap (λ (x : ℕ). put_args (front ++ replicate x 0) k (v ∷ vs)) q
    ∙ ap (λ (t : List ℕ). put_args t (suc k) vs)
    (w.puts (front ++ replicate (arg_words + others) 0) (k * arg_words)
    ∙ put_past front (replicate (arg_words + others) 0) (k * arg_words) (args_in v) e
    ∙ ap (λ (t : List ℕ). front ++ t) (put_padded 0 (args_in v) arg_words others w.few)
    ∙ sym (append_assoc front own (replicate others 0)))
    ∙ args_put vs (front ++ own) (suc k) m n p.1
    ∙ append_assoc front own (args_of vs ++ replicate m 0)
    ∙ ap (λ (t : List ℕ). front ++ t) (sym (append_assoc own (args_of vs) (replicate m 0)))

-- ---- a card

pub rows_length : (vs : List (List Cell)) → all_fit layer_form vs ≡ true → length (rows_of vs) ≡ length vs * columns
rows_length [] h = omega arith
rows_length (v ∷ vs) h =
    let p = and_true (fits layer_form v) (all_fit layer_form vs) h in
    omega (arith, length-append (row_of v) (rows_of vs), row_length v p.0, rows_length vs p.1)

args_length_lem : (vs : List (List Cell)) → all_fit layer_form vs ≡ true → length (args_of vs) ≡ length vs * arg_words
args_length_lem [] h = omega arith
args_length_lem (v ∷ vs) h =
    let p = and_true (fits layer_form v) (all_fit layer_form vs) h in
    let w = one_cells layer_form v layer_single p.0 in
    let own = padded arg_words 0 (args_in v) in
    omega (arith, length-append own (args_of vs), padded_length 0 (args_in v) arg_words w.few, args_length_lem vs p.1)

module _ (vs : List (List Cell)) (fit : all_fit layer_form vs ≡ true) (few : length vs ≤ most_layers) where
  table_put : put_rows (replicate table_length (pos 0)) 0 vs ≡ table_of vs
  table_put =
      let l = rows_length vs fit in
      let q : table_length ≡ length vs * columns + (table_length - length (rows_of vs)) = omega arith in
      ap (λ (n : ℕ). put_rows (replicate n (pos 0)) 0 vs) q ∙ rows_put vs [] 0 (table_length - length (rows_of vs)) (omega arith) fit

  words_put : put_args (replicate args_length 0) 0 vs ≡ words_of vs
  words_put =
      let l = args_length_lem vs fit in
      let q : args_length ≡ length vs * arg_words + (args_length - length (args_of vs)) = omega arith in
      ap (λ (n : ℕ). put_args (replicate n 0) 0 vs) q ∙ args_put vs [] 0 (args_length - length (args_of vs)) (omega arith) fit

tray_holes : holes tray_form ≡ 3
unfolding tray_form is_hole
tray_holes = refl

-- the tray's row
tray_put : (v : List Cell) → fits tray_form v ≡ true → put (replicate 3 (pos 0)) 0 (numbers_of v) ≡ numbers_of v
tray_put v h =
    let l : length (numbers_of v) ≡ 3 = numbers_length tray_form v h ∙ tray_holes in
    let q : 3 ≡ length (numbers_of v) + 0 = omega arith in
    ap (λ (n : ℕ). put (replicate n (pos 0)) 0 (numbers_of v)) q ∙ put_front (pos 0) (numbers_of v) 0 ∙ append-nil (numbers_of v)

-- .. which a scan leaves of three zeros
module _ (s : List ℕ) (args : List ℕ) where
  pub tray_none : unfilled ≡ filled_in (replicate 3 (pos 0)) 0 args (read_form tray_form s) → None ≡ numbers_in (read_form tray_form s)
  tray_none e = by (read_form tray_form s) e
    where
      by : (x : Scan) → unfilled ≡ filled_in (replicate 3 (pos 0)) 0 args x → None ≡ numbers_in x
      by bad f = refl
      by (scanned v t) f = absurd (cc)

  pub tray_some : (row : List ℤ) (words t : List ℕ) → filled row words t ≡ filled_in (replicate 3 (pos 0)) 0 args (read_form tray_form s)
      → Some (row, t) ≡ numbers_in (read_form tray_form s)
  tray_some row words t e = by (read_form tray_form s) refl e
    where
      by : (x : Scan) → read_form tray_form s ≡ x → filled row words t ≡ filled_in (replicate 3 (pos 0)) 0 args x → Some (row, t) ≡ numbers_in x
      by bad i f = absurd (cc)
      by (scanned v u) i f =
          let a : row ≡ put (replicate 3 (pos 0)) 0 (numbers_of v) = cc in
          let b : t ≡ u = cc in
          let c : row ≡ numbers_of v = a ∙ tray_put v (form_back tray_form s v u i).1 in
          rw (b, c)

-- ---- the layers' lines, read into lists of zeros

module _ (t : List ℕ) (table : List ℤ) (args : List ℕ) where
  abbrev Counts : Lines → Counted → Type 0
  Counts x c = c ≡ counted_in (replicate table_length (pos 0)) (replicate args_length 0) 0 x

  pub layers_refused : (e : BadCard) → Counts (read_lines layer_form most_layers 2 t) (stopped e.line)
      → written (Err e) table args ≡ written_of (read_lines layer_form most_layers 2 t) table args
  layers_refused e q = by (read_lines layer_form most_layers 2 t) q
    where
      by : (x : Lines) → Counts x (stopped e.line) → written (Err e) table args ≡ written_of x table args
      by (refused m) f = let i : e.line ≡ m = cc in rw (← i)
      by (lines vs) f = absurd (cc)

  pub layers_written : (rows : List ℤ) (words : List ℕ) (k : ℕ) → Counts (read_lines layer_form most_layers 2 t) (counted rows words k)
      → written (Ok k) rows words ≡ written_of (read_lines layer_form most_layers 2 t) table args
  layers_written rows words k q = by (read_lines layer_form most_layers 2 t) (lines_say layer_form layer_some layer_shaped most_layers 2 t) q
    where
      by : (x : Lines) → Says layer_form layer_some layer_shaped most_layers 2 t x → Counts x (counted rows words k) → written (Ok k) rows words ≡ written_of x table args
      by (refused m) w f = absurd (cc)
      by (lines vs) w f =
          let i : k ≡ 0 + length vs = cc in
          let l : 0 + length vs ≡ length vs = omega arith in
          let a : rows ≡ put_rows (replicate table_length (pos 0)) 0 vs = cc in
          let b : words ≡ put_args (replicate args_length 0) 0 vs = cc in
          ap (λ (n : ℕ). written (Ok n) rows words) (i ∙ l)
          ∙ ap (λ (x : List ℤ). written (Ok (length vs)) x words) (a ∙ table_put vs w.fit w.few)
          ∙ ap (λ (x : List ℕ). written (Ok (length vs)) (table_of vs) x) (b ∙ words_put vs w.fit w.few)

  -- there are as many layers as a job may have, at the most
  pub layers_few : (k : ℕ) (rows : List ℤ) (words : List ℕ) → written (Ok k) rows words ≡ written_of (read_lines layer_form most_layers 2 t) table args → k ≤ most_layers
  layers_few k rows words e = by (read_lines layer_form most_layers 2 t) (lines_say layer_form layer_some layer_shaped most_layers 2 t) (ap (λ (l : Written). l.count) e)
    where
      by : (x : Lines) → Says layer_form layer_some layer_shaped most_layers 2 t x → Ok k ≡ (written_of x table args).count → k ≤ most_layers
      by (refused m) w f = absurd (cc)
      by (lines vs) w f = let i : k ≡ length vs = cc in omega (arith, w.few)

-- ---- what the reader answers

abbrev pub answer_by : List ℤ → ℕ → Answer
answer_by row k = answer NONE 0 (get_or row 0 (pos 0)) (get_or row 1 (pos 0)) (get_or row 2 (pos 0)) (pos k)

module _ (s : List ℕ) (table : List ℤ) (args : List ℕ) where
  pub tray_refused : None ≡ numbers_in (read_form tray_form s) → outcome (refusal 1) table args ≡ outcome_of (read_card s) table args
  unfolding read_card
  tray_refused e = by (read_form tray_form s) e
    where
      by : (r : Scan) → None ≡ numbers_in r → outcome (refusal 1) table args ≡ outcome_of (after_tray r) table args
      by bad f = refl
      by (scanned v t) f = absurd (cc)

  -- after a tray's line with the numbers `row`, which leaves u, and the layers' lines
  module _ (row : List ℤ) (u : List ℕ) (e : Some (row, u) ≡ numbers_in (read_form tray_form s)) where
    -- the tray's cells
    record Tray : Type 0 where
      v : List Cell
      is : read_form tray_form s ≡ scanned v u
      numbers : row ≡ numbers_of v

    tray : Tray
    tray = by (read_form tray_form s) refl e
      where
        by : (r : Scan) → read_form tray_form s ≡ r → Some (row, u) ≡ numbers_in r → Tray
        by bad q f = absurd (cc)
        by (scanned v t) q f =
            let p : ◌≡◌ {A = List ℤ × List ℕ} (row, u) (numbers_of v, t) = cc in
            record { v = v; is = q ∙ ap (scanned v) (sym (ap (λ (x : List ℤ × List ℕ). x.1) p)); numbers = ap (λ (x : List ℤ × List ℕ). x.0) p }

    card : read_card s ≡ as_card tray.v (read_lines layer_form most_layers 2 u)
    unfolding read_card
    card = ap after_tray tray.is

    module _ (t : List ℤ) (a : List ℕ) where
      line_outcome : (b : BadCard) (x : Lines) → written (Err b) t a ≡ written_of x table args → outcome (refusal b.line) t a ≡ outcome_of (as_card tray.v x) table args
      line_outcome b (refused j) f =
          let c : Err b ≡ Err (record { line = j }) = ap (λ (l : Written). l.count) f in
          let d : b ≡ record { line = j } = cc in
          rw (ap (λ (x : BadCard). x.line) d, ap (λ (l : Written). l.table) f, ap (λ (l : Written). l.args) f)
      line_outcome b (lines vs) f =
          let c : Err b ≡ Ok (length vs) = ap (λ (l : Written). l.count) f in
          absurd (cc)

      pub line_refused : (b : BadCard) → written (Err b) t a ≡ written_of (read_lines layer_form most_layers 2 u) table args
          → outcome (refusal b.line) t a ≡ outcome_of (read_card s) table args
      line_refused b f = line_outcome b (read_lines layer_form most_layers 2 u) f ∙ sym (ap (λ (r : Read). outcome_of r table args) card)

      card_outcome : (k : ℕ) (x : Lines) → written (Ok k) t a ≡ written_of x table args
          → outcome (answer_by (numbers_of tray.v) k) t a ≡ outcome_of (as_card tray.v x) table args
      card_outcome k (refused j) f =
          let c : ◌≡◌ {A = Result ℕ BadCard} (Ok k) (Err (record { line = j })) = ap (λ (l : Written). l.count) f in
          absurd (cc)
      card_outcome k (lines vs) f =
          let c : Ok k ≡ Ok (length vs) = ap (λ (l : Written). l.count) f in
          let i : k ≡ length vs = cc in
          let p : t ≡ table_of vs = ap (λ (l : Written). l.table) f in
          let q : a ≡ words_of vs = ap (λ (l : Written). l.args) f in
          ap (λ (j : ℕ). outcome (answer_by (numbers_of tray.v) j) t a) i
          ∙ ap (λ (l : List ℤ). outcome (answer_by (numbers_of tray.v) (length vs)) l a) p
          ∙ ap (λ (l : List ℕ). outcome (answer_by (numbers_of tray.v) (length vs)) (table_of vs) l) q

      pub card_read : (k : ℕ) → written (Ok k) t a ≡ written_of (read_lines layer_form most_layers 2 u) table args
          → outcome (answer_by row k) t a ≡ outcome_of (read_card s) table args
      card_read k f =
          ap (λ (l : List ℤ). outcome (answer_by l k) t a) tray.numbers
          ∙ card_outcome k (read_lines layer_form most_layers 2 u) f
          ∙ sym (ap (λ (r : Read). outcome_of r table args) card)

-- the lengths of the lent lists
module _ (s : List ℕ) (table : List ℤ) (args : List ℕ) where
  pub table_other : (length table ≡ table_length → ⊥) → outcome (refusal 0) table args ≡ read_of s table args
  unfolding read_of
  table_other h = rw (ne_eqb (length table) table_length h)

  pub args_other : (length args ≡ args_length → ⊥) → outcome (refusal 0) table args ≡ read_of s table args
  unfolding read_of
  args_other h = rw (ne_eqb (length args) args_length h, or-true (not (eqb (length table) table_length)))

  pub lengths_right : length table ≡ table_length → length args ≡ args_length → outcome_of (read_card s) table args ≡ read_of s table args
  unfolding read_of
  lengths_right h g = rw (eq-eqb (length table) table_length h, eq-eqb (length args) args_length g)
