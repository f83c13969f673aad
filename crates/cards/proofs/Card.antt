-- The reader accepts just what the printer prints, each text as the card that it is the print of (`card_there`, `card_back`), and refuses every other at
-- its first line that is out of form or one too many (`card_refused`, `card_line`). Assumes nothing.
use mathlib.Core.Path.{◌≡◌, refl, sym, ap, ◌∙◌}
use mathlib.Core.Bool.{Bool, true, false, not}
use mathlib.Core.List.{List, [], ◌∷◌, ◌++◌, append_assoc, append-nil}
use mathlib.Core.Logic.{◌⊎◌, inl, inr}
use Prim.Native.Nat.{ℕ, zero, suc, ◌+◌, ◌<◌, ◌≤◌}
use native.Mathlib.Omega.{arith}
use lib.ListN.{length, length-append}
use borrow.Author.Tests.{not-true}
use Rattle.layers.specs.Limits.{most_layers}
use Rattle.numerals.proofs.Bools.{and_true}
use Rattle.cards.specs.Cells.{Cell}
use Rattle.cards.specs.Forms.{tray_form, layer_form, is_hole, is_end, fill, fits, Scan, bad, scanned, read_form}
use Rattle.cards.specs.Card.{Card, print_lines, printed, all_fit, Lines, refused, lines, one_more_line, after_line, if_more, read_lines}
use Rattle.cards.specs.Card.{Read, bad_line, read, as_card, after_tray, read_card, Printable, OutOfForm, Refusal, at_first, later}
use Rattle.cards.proofs.Forms.{shaped, fill_byte, form_there, form_back}

-- ---- lines of one form

-- a form that begins with a byte, and is filled, has one
abbrev opens : (form : List ℕ) → Bool
opens [] = false
opens (c ∷ cs) = not (is_hole c)

opened : (form : List ℕ) (vs : List Cell) → opens form ≡ true → 0 < length (fill form vs)
opened [] vs h = absurd (cc)
opened (c ∷ cs) vs h = rw (fill_byte c cs vs (not-true (is_hole c) h)) (omega arith)

module _ (form : List ℕ) (some : (us : List Cell) → 0 < length (fill form us)) (shape : shaped form ≡ true) where
  more : (s : List ℕ) (r : Lines) → 0 < length s → if_more s r ≡ r
  more [] r h = absurd (omega arith)
  more (b ∷ s) r h = refl

  step : (m n : ℕ) (v : List Cell) (s : List ℕ) → fits form v ≡ true → read_lines form (suc m) n (fill form v ++ s) ≡ one_more_line v (read_lines form m (suc n) s)
  step m n v s h =
      more (fill form v ++ s) (after_line n (read_form form (fill form v ++ s)) (read_lines form m (suc n))) (omega (arith, length-append (fill form v) s, some v))
      ∙ ap (λ (r : Scan). after_line n r (read_lines form m (suc n))) (form_there form v s shape h)

  pub lines_there : (vs : List (List Cell)) (m n : ℕ) → length vs ≤ m → all_fit form vs ≡ true → read_lines form m n (print_lines form vs) ≡ lines vs
  lines_there [] zero n h f = refl
  lines_there [] (suc m) n h f = refl
  lines_there (v ∷ vs) zero n h f = absurd (omega arith)
  lines_there (v ∷ vs) (suc m) n h f =
      let p = and_true (fits form v) (all_fit form vs) f in
      step m n v (print_lines form vs) p.0 ∙ ap (one_more_line v) (lines_there vs m (suc n) (omega arith) p.1)

  -- a line that no cells print is read as none, and the other way round
  pub out_bad : (s : List ℕ) → OutOfForm form s → read_form form s ≡ bad
  out_bad s o = by (read_form form s) refl
    where
      by : (r : Scan) → read_form form s ≡ r → r ≡ bad
      by bad e = refl
      by (scanned v t) e = let p = form_back form s v t e in absurd (o v t p.1 p.0)

  pub bad_out : (s : List ℕ) → read_form form s ≡ bad → OutOfForm form s
  bad_out s e v t h q =
      let y : bad ≡ scanned v t = sym e ∙ ap (read_form form) q ∙ form_there form v t shape h in
      let z : ◌≡◌ {A = ℕ} 0 1 = cc in
      omega arith

  -- lines of the form, and a rest whose first line is one too many or out of form
  pub stops_there : (vs : List (List Cell)) (rest : List ℕ) (m n : ℕ) → length vs ≤ m → all_fit form vs ≡ true → 0 < length rest
      → (length vs ≡ m) ⊎ OutOfForm form rest → read_lines form m n (print_lines form vs ++ rest) ≡ refused (n + length vs)
  stops_there [] rest zero n l f g w = more rest (refused n) g ∙ ap refused (omega arith)
  stops_there [] rest (suc m) n l f g (inl e) = absurd (omega arith)
  stops_there [] rest (suc m) n l f g (inr o) =
      more rest (after_line n (read_form form rest) (read_lines form m (suc n))) g
      ∙ ap (λ (r : Scan). after_line n r (read_lines form m (suc n))) (out_bad rest o)
      ∙ ap refused (omega arith)
  stops_there (v ∷ vs) rest zero n l f g w = absurd (omega arith)
  stops_there (v ∷ vs) rest (suc m) n l f g w =
      let p = and_true (fits form v) (all_fit form vs) f in
      let q : suc n + length vs ≡ n + suc (length vs) = omega arith in
      ap (read_lines form (suc m) n) (append_assoc (fill form v) (print_lines form vs) rest)
      ∙ step m n v (print_lines form vs ++ rest) p.0
      ∙ ap (one_more_line v) (stops_there vs rest m (suc n) (omega arith) p.1 g (fewer w))
      ∙ ap refused q
    where
      fewer : (suc (length vs) ≡ suc m) ⊎ OutOfForm form rest → (length vs ≡ m) ⊎ OutOfForm form rest
      fewer (inl e) = inl (omega arith)
      fewer (inr o) = inr o

  -- what was read before the end, or before the line that was refused
  pub record Before (m : ℕ) (s : List ℕ) (vs : List (List Cell)) (rest : List ℕ) : Type 0 where
    pub text : s ≡ print_lines form vs ++ rest
    pub few : length vs ≤ m
    pub fit : all_fit form vs ≡ true

  -- the lines before the refused one are in form; it is one too many, or out of form
  pub record Stopped (m n : ℕ) (s : List ℕ) (k : ℕ) : Type 0 where
    pub vs : List (List Cell)
    pub rest : List ℕ
    pub front : Before m s vs rest
    pub number : k ≡ n + length vs
    pub some_left : 0 < length rest
    pub why : (length vs ≡ m) ⊎ OutOfForm form rest

  -- what an answer says of the text
  abbrev pub Says : ℕ → ℕ → List ℕ → Lines → Type 0
  Says m n s (lines vs) = Before m s vs []
  Says m n s (refused k) = Stopped m n s k

  one_before : (m : ℕ) (v : List Cell) (s : List ℕ) (vs : List (List Cell)) (rest : List ℕ) → fits form v ≡ true → Before m s vs rest → Before (suc m) (fill form v ++ s) (v ∷ vs) rest
  one_before m v s vs rest h b = record {
    text = ap (λ (u : List ℕ). fill form v ++ u) b.text ∙ sym (append_assoc (fill form v) (print_lines form vs) rest);
    few = omega (arith, b.few);
    fit = rw (h, b.fit);
  }

  one_reason : (m : ℕ) (rest : List ℕ) (l : ℕ) → (l ≡ m) ⊎ OutOfForm form rest → (suc l ≡ suc m) ⊎ OutOfForm form rest
  one_reason m rest l (inl e) = inl (ap suc e)
  one_reason m rest l (inr o) = inr o

  one_says : (m n : ℕ) (v : List Cell) (s : List ℕ) (r : Lines) → fits form v ≡ true → Says m (suc n) s r → Says (suc m) n (fill form v ++ s) (one_more_line v r)
  one_says m n v s (lines vs) h b = one_before m v s vs [] h b
  one_says m n v s (refused k) h b = record {
    vs = v ∷ b.vs;
    rest = b.rest;
    front = one_before m v s b.vs b.rest h b.front;
    number = omega (arith, b.number);
    some_left = b.some_left;
    why = one_reason m b.rest (length b.vs) b.why;
  }

  none_before : (m : ℕ) (s : List ℕ) → Before m s [] s
  none_before m s = record { text = refl; few = omega arith; fit = refl }

  line_says : (m n : ℕ) (s : List ℕ) → 0 < length s → ((t : List ℕ) → Says m (suc n) t (read_lines form m (suc n) t)) → (r : Scan) → read_form form s ≡ r
      → Says (suc m) n s (after_line n r (read_lines form m (suc n)))
  line_says m n s g f bad e =
      record { vs = []; rest = s; front = none_before (suc m) s; number = omega arith; some_left = g; why = inr (bad_out s e) }
  line_says m n s g f (scanned v t) e =
      let p = form_back form s v t e in
      rw p.0 (one_says m n v t (read_lines form m (suc n) t) p.1 (f t))

  pub lines_say : (m n : ℕ) (s : List ℕ) → Says m n s (read_lines form m n s)
  lines_say zero n [] = none_before zero []
  lines_say zero n (b ∷ s) =
      record { vs = []; rest = b ∷ s; front = none_before zero (b ∷ s); number = omega arith; some_left = omega arith; why = inl refl }
  lines_say (suc m) n [] = none_before (suc m) []
  lines_say (suc m) n (b ∷ s) = line_says m n (b ∷ s) (omega arith) (λ t. lines_say m (suc n) t) (read_form form (b ∷ s)) refl

-- ---- the two forms

tray_shaped : shaped tray_form ≡ true
unfolding tray_form is_hole is_end
tray_shaped = refl

pub layer_shaped : shaped layer_form ≡ true
unfolding layer_form is_hole is_end
layer_shaped = refl

layer_opens : opens layer_form ≡ true
unfolding layer_form is_hole
layer_opens = refl

pub layer_some : (vs : List Cell) → 0 < length (fill layer_form vs)
layer_some vs = opened layer_form vs layer_opens

-- ---- a card

pub card_there : (c : Card) → Printable c → read_card (printed c) ≡ read c
unfolding read_card
card_there c g =
    ap after_tray (form_there tray_form c.tray (print_lines layer_form c.layers) tray_shaped g.tray)
    ∙ ap (as_card c.tray) (lines_there layer_form layer_some layer_shaped c.layers most_layers 2 g.few g.layers)

-- what an answer says of the text
abbrev Told : List ℕ → Read → Type 0
Told s (read c) = (s ≡ printed c) × Printable c
Told s (bad_line n) = Refusal s n

layers_told : (s : List ℕ) (v : List Cell) (t : List ℕ) → s ≡ fill tray_form v ++ t → fits tray_form v ≡ true → (r : Lines)
    → Says layer_form layer_some layer_shaped most_layers 2 t r → Told s (as_card v r)
layers_told s v t e h (lines vs) w =
    let x : t ≡ print_lines layer_form vs = w.text ∙ append-nil (print_lines layer_form vs) in
    (e ∙ ap (λ (u : List ℕ). fill tray_form v ++ u) x, record { tray = h; layers = w.fit; few = w.few })
layers_told s v t e h (refused k) w =
    let b = w.front in
    let c : Card = record { tray = v; layers = w.vs } in
    later c w.rest (record { tray = h; layers = b.fit; few = b.few })
    (e ∙ ap (λ (u : List ℕ). fill tray_form v ++ u) b.text ∙ sym (append_assoc (fill tray_form v) (print_lines layer_form w.vs) w.rest))
    w.number w.some_left w.why

told : (s : List ℕ) → Told s (read_card s)
unfolding read_card
told s = by (read_form tray_form s) refl
  where
    by : (r : Scan) → read_form tray_form s ≡ r → Told s (after_tray r)
    by bad e = at_first refl (λ v t h q. let y : bad ≡ scanned v t = sym e ∙ ap (read_form tray_form) q ∙ form_there tray_form v t tray_shaped h in let z : ◌≡◌ {A = ℕ} 0 1 = cc in omega arith)
    by (scanned v t) e =
        let p = form_back tray_form s v t e in
        layers_told s v t p.0 p.1 (read_lines layer_form most_layers 2 t) (lines_say layer_form layer_some layer_shaped most_layers 2 t)

pub card_back : (s : List ℕ) (c : Card) → read_card s ≡ read c → (s ≡ printed c) × Printable c
card_back s c e = rw e at (told s)

pub card_refused : (s : List ℕ) (n : ℕ) → read_card s ≡ bad_line n → Refusal s n
card_refused s n e = rw e at (told s)

-- and every text that is so is refused there
pub card_line : (s : List ℕ) (n : ℕ) → Refusal s n → read_card s ≡ bad_line n
unfolding read_card
card_line s n (at_first e o) = ap after_tray (by (read_form tray_form s) refl) ∙ ap bad_line (sym e)
  where
    by : (r : Scan) → read_form tray_form s ≡ r → r ≡ bad
    by bad q = refl
    by (scanned v t) q = let p = form_back tray_form s v t q in absurd (o v t p.1 p.0)
card_line s n (later c rest g e k l w) =
    ap (λ (u : List ℕ). after_tray (read_form tray_form u)) (e ∙ append_assoc (fill tray_form c.tray) (print_lines layer_form c.layers) rest)
    ∙ ap after_tray (form_there tray_form c.tray (print_lines layer_form c.layers ++ rest) tray_shaped g.tray)
    ∙ ap (as_card c.tray) (stops_there layer_form layer_some layer_shaped c.layers rest most_layers 2 g.few g.layers l w)
    ∙ ap bad_line (sym k)

-- a text is the print of one card at the most
pub one_meaning : (c d : Card) → Printable c → Printable d → printed c ≡ printed d → c ≡ d
one_meaning c d g h e =
    let q : read c ≡ read d = sym (card_there c g) ∙ ap read_card e ∙ card_there d h in
    cc
