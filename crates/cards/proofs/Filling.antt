-- One step of reading a form: at byte i of the form, with s left of the text and the numbers of the holes so far in the row before place k. Assumes nothing.
use mathlib.Core.Path.{◌≡◌, refl, sym, ap, ◌∙◌}
use mathlib.Core.Bool.{Bool, true, false, cond}
use mathlib.Core.List.{List, [], ◌∷◌}
use Prim.Native.Nat.{ℕ, suc, ◌+◌, ◌<◌, ◌≤◌}
use native.Mathlib.Numerals.{add-one}
use native.Mathlib.Omega.{arith}
use lib.IntN.{ℤ}
use lib.ListN.{length, get_or, drop, set, drop_of_length-le}
use lib.Seq.{drop-cons}
use Rattle.std.specs.Prelude.{Option, Some, None}
use Rattle.cards.specs.Cells.{Cell, column_of, words_in}
use Rattle.cards.specs.Forms.{is_hole, Scan, bad, scanned, also, and_then, read_one, read_form}
use Rattle.cards.specs.Steps.{put, put_words, nothing, found, value_in, found_in, holes, unfilled, filled, filled_in}
use Rattle.cards.proofs.Forms.{cells_read}

also_none : (r : Scan) → also [] r ≡ r
also_none bad = refl
also_none (scanned ws s) = refl

-- one cell, and those after it
one_filled : (row : List ℤ) (k : ℕ) (args : List ℕ) (v : Cell) (r : Scan)
    → filled_in row k args (also (v ∷ []) r) ≡ filled_in (set row k (column_of v)) (suc k) (put args 0 (words_in v)) r
one_filled row k args v bad = refl
one_filled row k args v (scanned ws s) = refl

none_found : (args : List ℕ) (r : Scan) → found_in args r ≡ nothing → r ≡ bad
none_found args bad e = refl
none_found args (scanned vs t) e = absurd (cc)

-- what was found
record Was (args : List ℕ) (r : Scan) (value : Option ℤ) (now t : List ℕ) : Type 0 where
  vs : List Cell
  is : r ≡ scanned vs t
  number : value_in vs ≡ value
  words : put_words args 0 vs ≡ now

was_found : (args : List ℕ) (r : Scan) (value : Option ℤ) (now t : List ℕ) → found_in args r ≡ found value now t → Was args r value now t
was_found args bad value now t e = absurd (cc)
was_found args (scanned vs u) value now t e =
    let q : u ≡ t = cc in
    record { vs = vs; is = ap (scanned vs) q; number = cc; words = cc }

-- .. as no cell, or as one
no_cell : (vs : List Cell) → value_in vs ≡ None → vs ≡ []
no_cell [] e = refl
no_cell (v ∷ vs) e = absurd (cc)

record One (vs : List Cell) (value : ℤ) : Type 0 where
  v : Cell
  is : vs ≡ v ∷ []
  number : column_of v ≡ value

one_cell : (vs : List Cell) (value : ℤ) → value_in vs ≡ Some value → length vs ≤ 1 → One vs value
one_cell [] value e h = absurd (cc)
one_cell (v ∷ []) value e h = record { v = v; is = refl; number = cc }
one_cell (v ∷ u ∷ vs) value e h = absurd (omega arith)

few : (b : Bool) → cond b 1 0 ≤ 1
few true = omega arith
few false = omega arith

-- what is left of the form, at a byte of it
module _ (form s : List ℕ) (row : List ℤ) (args : List ℕ) (k i c : ℕ) (h : i < length form) (d : c ≡ get_or form i 0) where
  here : read_form (drop i form) s ≡ and_then (read_one c s) (read_form (drop (i + 1) form))
  here = rw (add-one, drop-cons form i 0 h, d)

  pub counted : (hole : ℕ) → hole ≡ cond (is_hole c) 1 0 → holes (drop i form) ≡ hole + holes (drop (i + 1) form)
  counted hole q = rw (add-one, drop-cons form i 0 h, q, d) (one (is_hole (get_or form i 0)) (holes (drop (suc i) form)))
    where
      one : (b : Bool) (m : ℕ) → cond b (suc m) m ≡ cond b 1 0 + m
      one true m = omega arith
      one false m = omega arith

  pub refused : nothing ≡ found_in args (read_one c s) → filled_in row k args (read_form (drop i form) s) ≡ unfilled
  refused e =
      let q : read_one c s ≡ bad = none_found args (read_one c s) (sym e) in
      let b : read_form (drop i form) s ≡ bad = here ∙ rw q in
      ap (filled_in row k args) b

  module _ (now t : List ℕ) where
    -- a byte that is no hole
    module _ (e : found None now t ≡ found_in args (read_one c s)) where
      byte_was : Was args (read_one c s) None now t
      byte_was = was_found args (read_one c s) None now t (sym e)

      pub byte_taken : filled_in row k args (read_form (drop i form) s) ≡ filled_in row k now (read_form (drop (i + 1) form) t)
      byte_taken =
          let w = byte_was in
          let v : w.vs ≡ [] = no_cell w.vs w.number in
          let is : read_one c s ≡ scanned [] t = w.is ∙ ap (λ (x : List Cell). scanned x t) v in
          let same : args ≡ now = sym (ap (put_words args 0) v) ∙ w.words in
          ap (filled_in row k args) (here ∙ ap (λ (x : Scan). and_then x (read_form (drop (i + 1) form))) is ∙ also_none (read_form (drop (i + 1) form) t))
          ∙ ap (λ (x : List ℕ). filled_in row k x (read_form (drop (i + 1) form) t)) same

      pub byte_counted : holes (drop i form) ≡ holes (drop (i + 1) form)
      byte_counted =
          let w = byte_was in
          let n : 0 ≡ cond (is_hole c) 1 0 = sym (ap length (no_cell w.vs w.number)) ∙ cells_read c s w.vs t w.is in
          omega (arith, counted 0 n)

    -- a hole
    module _ (value : ℤ) (e : found (Some value) now t ≡ found_in args (read_one c s)) where
      cell_was : Was args (read_one c s) (Some value) now t
      cell_was = was_found args (read_one c s) (Some value) now t (sym e)

      cell : One cell_was.vs value
      cell =
          let l : length cell_was.vs ≤ 1 = rw (cells_read c s cell_was.vs t cell_was.is) (few (is_hole c)) in
          one_cell cell_was.vs value cell_was.number l

      pub cell_taken : filled_in row k args (read_form (drop i form) s) ≡ filled_in (set row k value) (k + 1) now (read_form (drop (i + 1) form) t)
      cell_taken =
          let w = cell_was in
          let o = cell in
          let r = read_form (drop (i + 1) form) t in
          let is : read_one c s ≡ scanned (o.v ∷ []) t = w.is ∙ ap (λ (x : List Cell). scanned x t) o.is in
          let words : put args 0 (words_in o.v) ≡ now = sym (ap (put_words args 0) o.is) ∙ w.words in
          let n : suc k ≡ k + 1 = omega arith in
          ap (filled_in row k args) (here ∙ ap (λ (x : Scan). and_then x (read_form (drop (i + 1) form))) is)
          ∙ one_filled row k args o.v r
          ∙ ap (λ (z : ℤ). filled_in (set row k z) (suc k) (put args 0 (words_in o.v)) r) o.number
          ∙ ap (λ (m : ℕ). filled_in (set row k value) m (put args 0 (words_in o.v)) r) n
          ∙ ap (λ (x : List ℕ). filled_in (set row k value) (k + 1) x r) words

      pub cell_counted : holes (drop i form) ≡ 1 + holes (drop (i + 1) form)
      cell_counted =
          let n : 1 ≡ cond (is_hole c) 1 0 = sym (ap length cell.is) ∙ cells_read c s cell_was.vs t cell_was.is in
          counted 1 n

pub ended : (form s : List ℕ) (row : List ℤ) (args : List ℕ) (k i : ℕ) → length form ≤ i
    → filled_in row k args (read_form (drop i form) s) ≡ filled row args s
ended form s row args k i h = rw (drop_of_length-le form h)
