-- What is printed of a line's form is one line: byte 10 ends it and stands nowhere else in it (`filled_line`). So "out of form" can be said of the line alone,
-- up to its byte 10, and it is the same (`out_of_line`, `line_out`); and bytes without one after them are out of form (`without_end`). Assumes nothing.
use mathlib.Core.Path.{◌≡◌, refl, sym, ap, ◌∙◌}
use mathlib.Core.Bool.{Bool, true, false, not, ◌&&◌}
use mathlib.Core.List.{List, [], ◌∷◌, ◌++◌}
use Prim.Native.Nat.{ℕ}
use native.Mathlib.Omega.{arith}
use lib.Dec.{eqb, leb}
use lib.ListN.{length}
use borrow.Author.Tests.{eqb-true, eqb-false, ne_eqb, not-true}
use Rattle.layers.specs.Limits.{arg_words}
use Rattle.std.specs.Prelude.{Option, Some, None}
use Rattle.names.specs.Names.{entries, lookup}
use Rattle.numerals.specs.Digits.{digit_of}
use Rattle.numerals.specs.Numbers.{decimal_text, is_decimal, hex_text, is_word}
use Rattle.numerals.proofs.Bools.{split, and_true}
use Rattle.numerals.proofs.Numbers.{spelling, decimal_there, decimal_back, hex_there, hex_back}
use Rattle.cards.specs.Cells.{Cell, name, number, arguments, arguments_text, spell, name_hole, number_hole, arguments_hole, is_known, is_name, are_words, is_cell}
use Rattle.cards.specs.Forms.{newline, tray_form, layer_form, is_hole, fill, fits}
use Rattle.cards.specs.Card.{is_line, OutOfForm}
use Rattle.cards.specs.Steps.{are_letters}
use Rattle.cards.proofs.Forms.{fill_byte}
use Rattle.cards.proofs.Names.{name_letters}
use Rattle.cards.proofs.Words.{every, letters_every, spelling_every, no_digit}

-- ---- no cell has a byte 10

abbrev pub unended : List ℕ → Bool
unended = every (λ b. not (eqb b newline))

other : (b : ℕ) → (b ≡ newline → ⊥) → not (eqb b newline) ≡ true
other b h = rw (ne_eqb b newline h)

end_no : digit_of 10 ≡ 16
unfolding digit_of
end_no = refl

unended_append : (s t : List ℕ) → unended s ≡ true → unended t ≡ true → unended (s ++ t) ≡ true
unended_append [] t h g = g
unended_append (b ∷ s) t h g = let p = and_true (not (eqb b newline)) (unended s) h in rw p.0 (unended_append s t p.1 g)

letters_unended : (s : List ℕ) → are_letters s ≡ true → unended s ≡ true
letters_unended = letters_every (λ b. not (eqb b newline)) (λ b h. other b (λ e. omega arith))

spelling_unended : (s : List ℕ) → spelling s ≡ true → unended s ≡ true
spelling_unended = spelling_every (λ b. not (eqb b newline)) (other 45 (λ e. omega arith)) (λ b h. other b (no_digit b newline end_no h))

name_unended : (w : List ℕ) (r : Option ℕ) → lookup w entries ≡ r → is_known r ≡ true → unended w ≡ true
name_unended w None q h = absurd (cc)
name_unended w (Some n) q h = letters_unended w (name_letters w n q)

arguments_unended : (ws : List ℕ) → are_words ws ≡ true → unended (arguments_text ws) ≡ true
arguments_unended [] h = refl
arguments_unended (w ∷ ws) h =
    let p = and_true (is_word w) (are_words ws) h in
    let q = (hex_back (hex_text w) w (hex_there w p.0)).bytes in
    unended_append (hex_text w) (arguments_text ws) (spelling_unended (hex_text w) q) (arguments_unended ws p.1)

cell_unended : (c : ℕ) (v : Cell) → is_cell c v ≡ true → unended (spell v) ≡ true
unfolding is_name
cell_unended c (name w) h = name_unended w (lookup w entries) refl (and_true (eqb c name_hole) (is_name w) h).1
cell_unended c (number z) h =
    let d = (and_true (eqb c number_hole) (is_decimal z) h).1 in
    spelling_unended (decimal_text z) (decimal_back (decimal_text z) z (decimal_there z d)).bytes
cell_unended c (arguments ws) h =
    arguments_unended ws (and_true (leb (length ws) arg_words) (are_words ws) (and_true (eqb c arguments_hole) (leb (length ws) arg_words && are_words ws) h).1).1

-- ---- a filled form

byte_before : (b : ℕ) (u : List ℕ) → not (eqb b newline) ≡ true → is_line u ≡ true → is_line (b ∷ u) ≡ true
byte_before b [] e f = absurd (cc)
byte_before b (c ∷ u) e f = rw e f

line_after : (s t : List ℕ) → unended s ≡ true → is_line t ≡ true → is_line (s ++ t) ≡ true
line_after [] t h g = g
line_after (b ∷ s) t h g =
    let p = and_true (not (eqb b newline)) (unended s) h in
    byte_before b (s ++ t) p.0 (line_after s t p.1 g)

no_hole : is_hole newline ≡ false
unfolding is_hole
no_hole = refl

-- a form that is one line is filled to one line
pub filled_line : (form : List ℕ) (vs : List Cell) → is_line form ≡ true → fits form vs ≡ true → is_line (fill form vs) ≡ true
filled_line [] vs l h = absurd (cc)
filled_line (c ∷ []) vs l h = let q = eqb-true c newline l in rw (q, fill_byte newline [] vs no_hole)
filled_line (c ∷ d ∷ cs) [] l h =
    let p = and_true (not (eqb c newline)) (is_line (d ∷ cs)) l in
    byte_before c (fill (d ∷ cs) []) p.0 (filled_line (d ∷ cs) [] p.1 (and_true (not (is_hole c)) (fits (d ∷ cs) []) h).1)
filled_line (c ∷ d ∷ cs) (v ∷ vs) l h =
    let p = and_true (not (eqb c newline)) (is_line (d ∷ cs)) l in
    split (is_hole c)
    (λ e. let q = and_true (is_cell c v) (fits (d ∷ cs) vs) (rw e at h) in
    rw e (line_after (spell v) (fill (d ∷ cs) vs) (cell_unended c v q.0) (filled_line (d ∷ cs) vs p.1 q.1)))
    (λ e. rw e (byte_before c (fill (d ∷ cs) (v ∷ vs)) p.0 (filled_line (d ∷ cs) (v ∷ vs) p.1 (rw e at h))))

pub tray_line_lem : is_line tray_form ≡ true
unfolding tray_form
tray_line_lem = refl

pub layer_line_lem : is_line layer_form ≡ true
unfolding layer_form
layer_line_lem = refl

-- ---- out of form, of the line alone

-- two texts that are one begin with the same line
same_line : (l m t u : List ℕ) → is_line l ≡ true → is_line m ≡ true → l ++ t ≡ m ++ u → l ≡ m
same_line [] m t u h g e = absurd (cc)
same_line (a ∷ []) [] t u h g e = absurd (cc)
same_line (a ∷ []) (b ∷ []) t u h g e = let q : a ≡ b = cc in rw q
same_line (a ∷ []) (b ∷ c ∷ m) t u h g e =
    let q : a ≡ b = cc in
    let p = and_true (not (eqb b newline)) (is_line (c ∷ m)) g in
    absurd (eqb-false b newline (not-true (eqb b newline) p.0) (sym q ∙ eqb-true a newline h))
same_line (a ∷ d ∷ l) [] t u h g e = absurd (cc)
same_line (a ∷ d ∷ l) (b ∷ []) t u h g e =
    let q : a ≡ b = cc in
    let p = and_true (not (eqb a newline)) (is_line (d ∷ l)) h in
    absurd (eqb-false a newline (not-true (eqb a newline) p.0) (q ∙ eqb-true b newline g))
same_line (a ∷ d ∷ l) (b ∷ c ∷ m) t u h g e =
    let q : a ≡ b = cc in
    let r : (d ∷ l) ++ t ≡ (c ∷ m) ++ u = cc in
    let p = and_true (not (eqb a newline)) (is_line (d ∷ l)) h in
    let s = and_true (not (eqb b newline)) (is_line (c ∷ m)) g in
    rw (q, same_line (d ∷ l) (c ∷ m) t u p.1 s.1 r)

-- a line that no cells print, and whatever follows it
module _ (form l t : List ℕ) (is : is_line form ≡ true) (h : is_line l ≡ true) where
  pub out_of_line : ((v : List Cell) → fits form v ≡ true → l ≡ fill form v → ⊥) → OutOfForm form (l ++ t)
  out_of_line o v u g e = o v g (same_line l (fill form v) t u h (filled_line form v is g) e)

  pub line_out : OutOfForm form (l ++ t) → (v : List Cell) → fits form v ≡ true → l ≡ fill form v → ⊥
  line_out o v g e = o v t g (ap (λ (x : List ℕ). x ++ t) e)

-- bytes without a byte 10 after them are out of form
ended : (l u : List ℕ) → is_line l ≡ true → unended (l ++ u) ≡ true → ⊥
ended [] u h g = let z : ◌≡◌ {A = ℕ} 0 1 = cc in omega arith
ended (b ∷ []) u h g =
    let p = and_true (not (eqb b newline)) (unended u) g in
    eqb-false b newline (not-true (eqb b newline) p.0) (eqb-true b newline h)
ended (b ∷ c ∷ l) u h g =
    ended (c ∷ l) u (and_true (not (eqb b newline)) (is_line (c ∷ l)) h).1 (and_true (not (eqb b newline)) (unended ((c ∷ l) ++ u)) g).1

pub without_end : (form s : List ℕ) → is_line form ≡ true → unended s ≡ true → OutOfForm form s
without_end form s is h v u g e = ended (fill form v) u (filled_line form v is g) (rw e at h)
