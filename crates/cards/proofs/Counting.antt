-- One step of reading lines of one form: k of them are read, and s is left of the text. Assumes nothing.
use mathlib.Core.Path.{◌≡◌, refl, sym, ap, ◌∙◌}
use mathlib.Core.Bool.{true}
use mathlib.Core.List.{List, [], ◌∷◌, ◌++◌}
use Prim.Native.Nat.{ℕ, zero, suc, ◌+◌, ◌*◌, ◌-◌, ◌<◌, ◌≤◌}
use native.Mathlib.Nat.{add-zero}
use native.Mathlib.Omega.{arith}
use borrow.Rule.Slice.PartMut.{put_mid, mid_of}
use lib.IntN.{ℤ}
use lib.ListN.{length, take, drop}
use Rattle.layers.specs.Limits.{columns, arg_words, at_left}
use Rattle.cards.specs.Cells.{Cell}
use Rattle.cards.specs.Forms.{fits, Scan, bad, scanned, read_form}
use Rattle.cards.specs.Card.{Lines, refused, lines, one_more_line, after_line, if_more, read_lines}
use Rattle.cards.specs.Answers.{numbers_of, full_window, row_of}
use Rattle.cards.specs.Steps.{put, put_words, holes, unfilled, filled, filled_in, layer_in, put_rows, put_args, Counted, stopped, counted, counted_in}
use Rattle.cards.proofs.Forms.{form_back}
use Rattle.cards.proofs.Outcome.{numbers_length}
use Rattle.cards.proofs.Puts.{put_then, put_part, put_from, put_rest, mid_rest, words_from}

-- ---- a layer's line

-- a line's numbers, and after them the window, are its row
row_put : (form : List ℕ) (row : List ℤ) (v : List Cell) → holes form ≡ at_left → fits form v ≡ true
    → put (put row 0 (numbers_of v)) at_left full_window ≡ put row 0 (row_of v)
row_put form row v m h = let l = numbers_length form v h in put_then row 0 at_left (numbers_of v) full_window (omega arith)

module _ (form s : List ℕ) (row rows : List ℤ) (args words : List ℕ) where
  pub no_layer : unfilled ≡ filled_in row 0 args (read_form form s) → unfilled ≡ layer_in row args (read_form form s)
  no_layer e = by (read_form form s) e
    where
      by : (x : Scan) → unfilled ≡ filled_in row 0 args x → unfilled ≡ layer_in row args x
      by bad f = refl
      by (scanned v t) f = absurd (cc)

  -- the window is put into the row that the numbers left
  pub one_layer : (t : List ℕ) (window : List ℤ) → holes form ≡ at_left → columns ≤ length rows → window ≡ full_window
      → filled rows words t ≡ filled_in row 0 args (read_form form s)
      → filled (put_mid at_left 4 rows window) words t ≡ layer_in row args (read_form form s)
  one_layer t window m r w e = by (read_form form s) refl e
    where
      by : (x : Scan) → read_form form s ≡ x → filled rows words t ≡ filled_in row 0 args x → filled (put_mid at_left 4 rows window) words t ≡ layer_in row args x
      by bad i f = absurd (cc)
      by (scanned v u) i f =
          let a : rows ≡ put row 0 (numbers_of v) = cc in
          let b : words ≡ put_words args 0 v = cc in
          let c : t ≡ u = cc in
          let p : put_mid at_left 4 rows window ≡ put row 0 (row_of v) =
          ap (put_mid at_left 4 rows) w
          ∙ put_part rows full_window at_left (omega arith)
          ∙ ap (λ (x : List ℤ). put x at_left full_window) a
          ∙ row_put form row v m (form_back form s v u i).1 in
          rw (p, b, c)

-- ---- lines

-- what is left to read, and what it leaves
abbrev pub left : (form s : List ℕ) → (most : ℕ) → (table : List ℤ) → (args : List ℕ) → (k : ℕ) → Counted
left form s most table args k = counted_in table args k (read_lines form (most - k) (k + 2) s)

none : (form : List ℕ) (m n : ℕ) → read_lines form m n [] ≡ lines []
none form zero n = refl
none form (suc m) n = refl

full : (t : List ℕ) (r : Lines) → 0 < length t → if_more t r ≡ r
full [] r g = absurd (omega arith)
full (b ∷ t) r g = refl

one_counted : (table : List ℤ) (args : List ℕ) (k : ℕ) (v : List Cell) (r : Lines)
    → counted_in table args k (one_more_line v r) ≡ counted_in (put table (k * columns) (row_of v)) (put_words args (k * arg_words) v) (suc k) r
one_counted table args k v (refused n) = refl
one_counted table args k v (lines vs) =
    let q : k + suc (length vs) ≡ suc k + length vs = omega arith in
    ap (counted (put_rows table k (v ∷ vs)) (put_args args k (v ∷ vs))) q

module _ (form s : List ℕ) (most : ℕ) (table : List ℤ) (args : List ℕ) (k : ℕ) where
  pub ended : length s ≡ 0 → left form s most table args k ≡ counted table args k
  ended h = by s h
    where
      by : (t : List ℕ) → length t ≡ 0 → counted_in table args k (read_lines form (most - k) (k + 2) t) ≡ counted table args k
      by [] h = ap (counted_in table args k) (none form (most - k) (k + 2)) ∙ ap (counted table args) (add-zero k)
      by (b ∷ t) h = absurd (omega arith)

  module _ (h : (length s ≡ 0) → ⊥) where
    some : 0 < length s
    some = omega arith

    pub too_many : most ≤ k → left form s most table args k ≡ stopped (k + 2)
    too_many g =
        let z : most - k ≡ 0 = omega arith in
        ap (λ (m : ℕ). counted_in table args k (read_lines form m (k + 2) s)) z
        ∙ ap (counted_in table args k) (full s (refused (k + 2)) some)

    module _ (g : k < most) where
      line : read_lines form (most - k) (k + 2) s ≡ after_line (k + 2) (read_form form s) (read_lines form (most - (k + 1)) (k + 1 + 2))
      line =
          let enough : most - k ≡ suc (most - (k + 1)) = omega arith in
          let next : suc (k + 2) ≡ k + 1 + 2 = omega arith in
          ap (λ (m : ℕ). read_lines form m (k + 2) s) enough
          ∙ full s (after_line (k + 2) (read_form form s) (read_lines form (most - (k + 1)) (suc (k + 2)))) some
          ∙ ap (λ (n : ℕ). after_line (k + 2) (read_form form s) (read_lines form (most - (k + 1)) n)) next

      module _ (row : List ℤ) (words : List ℕ) where
        pub out_of_form : unfilled ≡ layer_in row words (read_form form s) → left form s most table args k ≡ stopped (k + 2)
        out_of_form e = by (read_form form s) refl e
          where
            by : (x : Scan) → read_form form s ≡ x → unfilled ≡ layer_in row words x → left form s most table args k ≡ stopped (k + 2)
            by bad i f = ap (counted_in table args k) (line ∙ ap (λ (x : Scan). after_line (k + 2) x (read_lines form (most - (k + 1)) (k + 1 + 2))) i)
            by (scanned v t) i f = absurd (cc)

      -- the line was read into what stands in the lists from the layer's place on
      pub in_form_lem : (row : List ℤ) (words t : List ℕ) → k * columns ≤ length table → k * arg_words ≤ length args
          → filled row words t
          ≡ layer_in (mid_of (k * columns) (length table - k * columns) table) (mid_of (k * arg_words) (length args - k * arg_words) args) (read_form form s)
          → left form s most table args k
          ≡ left form t most (put_mid (k * columns) (length table - k * columns) table row) (put_mid (k * arg_words) (length args - k * arg_words) args words) (k + 1)
      in_form_lem row words t fr fw e =
          by (read_form form s) refl (rw (mid_rest table [] (k * columns), mid_rest args [] (k * arg_words)) at e)
          ∙ rw (put_rest table row (k * columns) fr, put_rest args words (k * arg_words) fw)
        where
          by : (x : Scan) → read_form form s ≡ x → filled row words t ≡ layer_in (drop (k * columns) table) (drop (k * arg_words) args) x
              → left form s most table args k
              ≡ left form t most (take (k * columns) table ++ row) (take (k * arg_words) args ++ words) (k + 1)
          by bad i f = absurd (cc)
          by (scanned v u) i f =
              let c : u ≡ t = cc in
              let a : put (drop (k * columns) table) 0 (row_of v) ≡ row = cc in
              let b : put_words (drop (k * arg_words) args) 0 v ≡ words = cc in
              let p : put table (k * columns) (row_of v) ≡ take (k * columns) table ++ row =
              sym (put_from table (row_of v) (k * columns) fr) ∙ ap (λ (x : List ℤ). take (k * columns) table ++ x) a in
              let q : put_words args (k * arg_words) v ≡ take (k * arg_words) args ++ words =
              sym (words_from v args (k * arg_words) fw) ∙ ap (λ (x : List ℕ). take (k * arg_words) args ++ x) b in
              let others = read_lines form (most - (k + 1)) (k + 1 + 2) in
              let o : suc k ≡ k + 1 = omega arith in
              ap (counted_in table args k) (line ∙ ap (λ (x : Scan). after_line (k + 2) x others) i)
              ∙ one_counted table args k v (others u)
              ∙ rw (p, q, c, o)

pub begun : (form s : List ℕ) (most : ℕ) (table : List ℤ) (args : List ℕ)
    → counted_in table args 0 (read_lines form most 2 s) ≡ left form s most table args 0
begun form s most table args =
    let q : most ≡ most - 0 = omega arith in
    ap (λ (m : ℕ). counted_in table args 0 (read_lines form m 2 s)) q
