-- A filled form is read as the cells that it was filled with, and what is read of a form is that form filled: by induction over its bytes, so that no line
-- and no field has a law of its own. Assumes nothing.
use mathlib.Core.Path.{◌≡◌, refl, sym, ap, ◌∙◌}
use mathlib.Core.Bool.{Bool, true, false, cond, not, ◌||◌, ◌&&◌}
use mathlib.Core.List.{List, [], ◌∷◌, ◌++◌, append_assoc}
use Prim.Native.Nat.{ℕ}
use lib.Dec.{eqb}
use lib.ListN.{length}
use borrow.Author.Tests.{eqb-true, eq-eqb, not-true}
use Rattle.numerals.proofs.Bools.{split, and_true}
use Rattle.cards.specs.Cells.{Cell, spell, is_cell, name_hole, number_hole}
use Rattle.cards.specs.Forms.{is_hole, fill, fits, Scan, bad, scanned, and_then, read_byte, read_one, read_form}
use Rattle.cards.proofs.Spelling.{Held, closes, hole_there, hole_back}

-- a hole is followed by the end of a word, one for arguments by a closing bracket, and a form does not end with a hole
abbrev pub shaped : (form : List ℕ) → Bool
shaped [] = true
shaped (c ∷ []) = not (is_hole c)
shaped (c ∷ d ∷ cs) = (not (is_hole c) || (not (is_hole d) && closes c (d ∷ []))) && shaped (d ∷ cs)

-- ---- a byte

at_byte : (c : ℕ) (s : List ℕ) → is_hole c ≡ false → read_one c s ≡ read_byte c s
unfolding read_one is_hole
at_byte c s h =
    split (eqb c name_hole) (λ n. let z : ◌≡◌ {A = Bool} true false = rw n at h in absurd (cc))
    (λ n. split (eqb c number_hole) (λ d. let z : ◌≡◌ {A = Bool} true false = rw (n, d) at h in absurd (cc))
    (λ d. rw (n, d, rw (n, d) at h)))

pub fill_byte : (c : ℕ) (cs : List ℕ) (vs : List Cell) → is_hole c ≡ false → fill (c ∷ cs) vs ≡ c ∷ fill cs vs
fill_byte c cs [] h = refl
fill_byte c cs (v ∷ vs) h = rw h

fits_byte : (c : ℕ) (cs : List ℕ) (vs : List Cell) → is_hole c ≡ false → fits (c ∷ cs) vs ≡ fits cs vs
fits_byte c cs [] h = rw h
fits_byte c cs (v ∷ vs) h = rw h

byte_there : (c : ℕ) (cs : List ℕ) (vs : List Cell) (s : List ℕ) → is_hole c ≡ false → read_form cs (fill cs vs ++ s) ≡ scanned vs s
    → read_form (c ∷ cs) (fill (c ∷ cs) vs ++ s) ≡ scanned vs s
byte_there c cs vs s h e = rw (fill_byte c cs vs h, at_byte c (c ∷ fill cs vs ++ s) h, eq-eqb c c refl, e)

byte_was : (c : ℕ) (s : List ℕ) (vs : List Cell) (t : List ℕ) → read_byte c s ≡ scanned vs t → (s ≡ c ∷ t) × (vs ≡ [])
byte_was c [] vs t e = absurd (cc)
byte_was c (b ∷ s) vs t e =
    split (eqb b c)
    (λ q. let z : scanned [] s ≡ scanned vs t = rw q at e in let y : b ≡ c = eqb-true b c q in let x : s ≡ t = cc in (rw (y, x), cc))
    (λ q. let z : bad ≡ scanned vs t = rw q at e in absurd (cc))

-- ---- a form that was filled

shaped_on : (c : ℕ) (cs : List ℕ) → shaped (c ∷ cs) ≡ true → shaped cs ≡ true
shaped_on c [] h = refl
shaped_on c (d ∷ cs) h = (and_true (not (is_hole c) || (not (is_hole d) && closes c (d ∷ []))) (shaped (d ∷ cs)) h).1

-- what follows a hole closes it
after_hole : (c : ℕ) (cs : List ℕ) (vs : List Cell) (s : List ℕ) → is_hole c ≡ true → shaped (c ∷ cs) ≡ true → closes c (fill cs vs ++ s) ≡ true
after_hole c [] vs s h g = let z : ◌≡◌ {A = Bool} false true = rw h at g in absurd (cc)
after_hole c (d ∷ cs) vs s h g =
    let p : (not (is_hole d) && closes c (d ∷ [])) ≡ true = rw h at (and_true (not (is_hole c) || (not (is_hole d) && closes c (d ∷ []))) (shaped (d ∷ cs)) g).0 in
    let q = and_true (not (is_hole d)) (closes c (d ∷ [])) p in
    rw (fill_byte d cs vs (not-true (is_hole d) q.0)) q.1

pub form_there : (form : List ℕ) (vs : List Cell) (s : List ℕ) → shaped form ≡ true → fits form vs ≡ true → read_form form (fill form vs ++ s) ≡ scanned vs s
form_there [] [] s g h = refl
form_there [] (v ∷ vs) s g h = absurd (cc)
form_there (c ∷ cs) [] s g h =
    let p = and_true (not (is_hole c)) (fits cs []) h in
    byte_there c cs [] s (not-true (is_hole c) p.0) (form_there cs [] s (shaped_on c cs g) p.1)
form_there (c ∷ cs) (v ∷ vs) s g h =
    split (is_hole c)
    (λ e. let p = and_true (is_cell c v) (fits cs vs) (rw e at h) in
    rw (e, append_assoc (spell v) (fill cs vs) s, hole_there c v (fill cs vs ++ s) p.0 (after_hole c cs vs s e g), form_there cs vs s (shaped_on c cs g) p.1))
    (λ e. byte_there c cs (v ∷ vs) s e (form_there cs (v ∷ vs) s (shaped_on c cs g) (rw e at h)))

-- ---- a form that was read

-- what is known where one reading came after another
record Both (r : Scan) (f : List ℕ → Scan) (vs : List Cell) (t : List ℕ) : Type 0 where
  ws : List Cell
  s : List ℕ
  us : List Cell
  one : r ≡ scanned ws s
  two : f s ≡ scanned us t
  all : vs ≡ ws ++ us

then_back : (r : Scan) (f : List ℕ → Scan) (vs : List Cell) (t : List ℕ) → and_then r f ≡ scanned vs t → Both r f vs t
then_back bad f vs t e = absurd (cc)
then_back (scanned ws s) f vs t e = by (f s) refl
  where
    by : (q : Scan) → f s ≡ q → Both (scanned ws s) f vs t
    by bad q = let z : bad ≡ scanned vs t = rw q at e in absurd (cc)
    by (scanned us u) q =
        let z : scanned (ws ++ us) u ≡ scanned vs t = rw q at e in
        let y : u ≡ t = cc in
        record { ws = ws; s = s; us = us; one = refl; two = q ∙ ap (scanned us) y; all = cc }

-- a hole, or a byte, before a form that was read
module _ (c : ℕ) (cs s : List ℕ) (vs : List Cell) (t u : List ℕ) (ws us : List Cell) (a : vs ≡ ws ++ us) (e : u ≡ fill cs us ++ t) (f : fits cs us ≡ true) where
  hole_first : is_hole c ≡ true → Held c s ws u → (s ≡ fill (c ∷ cs) vs ++ t) × (fits (c ∷ cs) vs ≡ true)
  hole_first h w =
      let q : vs ≡ w.v ∷ us = a ∙ ap (λ (l : List Cell). l ++ us) w.cells in
      (rw (q, h, append_assoc (spell w.v) (fill cs us) t) (w.text ∙ ap (λ (l : List ℕ). spell w.v ++ l) e), rw (q, h, w.is) f)

  byte_first : is_hole c ≡ false → (s ≡ c ∷ u) → (ws ≡ []) → (s ≡ fill (c ∷ cs) vs ++ t) × (fits (c ∷ cs) vs ≡ true)
  byte_first h w n =
      let q : vs ≡ us = a ∙ ap (λ (l : List Cell). l ++ us) n in
      (rw (q, fill_byte c cs us h) (w ∙ ap (λ (l : List ℕ). c ∷ l) e), rw (q, fits_byte c cs us h) f)

pub form_back : (form s : List ℕ) (vs : List Cell) (t : List ℕ) → read_form form s ≡ scanned vs t → (s ≡ fill form vs ++ t) × (fits form vs ≡ true)
form_back [] s vs t e = let q : vs ≡ [] = cc in let r : s ≡ t = cc in rw q (r, refl)
form_back (c ∷ cs) s vs t e =
    let b = then_back (read_one c s) (read_form cs) vs t e in
    let p = form_back cs b.s b.us t b.two in
    split (is_hole c)
    (λ h. hole_first c cs s vs t b.s b.ws b.us b.all p.0 p.1 h (hole_back c s b.ws b.s h b.one))
    (λ h. let w = byte_was c s b.ws b.s (sym (at_byte c s h) ∙ b.one) in
    byte_first c cs s vs t b.s b.ws b.us b.all p.0 p.1 h w.0 w.1)

-- a hole has one cell, and a byte none
pub cells_read : (c : ℕ) (s : List ℕ) (vs : List Cell) (t : List ℕ) → read_one c s ≡ scanned vs t → length vs ≡ cond (is_hole c) 1 0
cells_read c s vs t e =
    split (is_hole c)
    (λ h. rw h (ap length (hole_back c s vs t h e).cells))
    (λ h. rw h (ap length (byte_was c s vs t (sym (at_byte c s h) ∙ e)).1))
