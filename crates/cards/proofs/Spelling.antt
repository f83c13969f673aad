-- What stands in a hole is read as the cell that it is printed from, and nothing else is read. Assumes nothing.
use mathlib.Core.Path.{◌≡◌, refl, sym, ap, ◌∙◌}
use mathlib.Core.Bool.{Bool, true, false, cond, ◌&&◌}
use mathlib.Core.List.{List, [], ◌∷◌, ◌++◌, append_assoc}
use Prim.Native.Nat.{ℕ, zero, suc, ◌≤◌}
use native.Mathlib.Omega.{arith}
use lib.Dec.{eqb, leb}
use lib.IntN.{ℤ}
use lib.ListN.{length}
use borrow.Author.Tests.{eqb-true, leb-true, lt-ltb, le-leb}
use Rattle.layers.specs.Limits.{arg_words}
use Rattle.std.specs.Prelude.{Option, Some, None}
use Rattle.names.specs.Names.{entries, lookup}
use Rattle.numerals.specs.Numbers.{decimal_text, is_decimal, decimal_of, hex_text, is_word, hex_of}
use Rattle.numerals.proofs.Bools.{split, and_true}
use Rattle.numerals.proofs.Numbers.{decimal_there, decimal_back, hex_there, hex_back}
use Rattle.cards.specs.Cells.{Cell, name, number, arguments, arguments_text, spell, name_hole, number_hole, arguments_hole, is_known, is_name, are_words, is_cell}
use Rattle.cards.specs.Forms.{is_hole, Scan, bad, scanned, is_end, word_of, rest_of, named, numbered, cell_of, read_word, read_one}
use Rattle.cards.specs.Forms.{Argument, ended, no_word, word, as_word, read_argument, Words, no_words, words, one_more_word, after_argument, read_words, as_arguments}
use Rattle.cards.proofs.Names.{name_letters}
use Rattle.cards.proofs.Words.{plain, ends, letters_plain, spelling_plain, word_first, word_rest, word_whole}

-- ---- a word

-- a name's or a number's text, by the cell that it is read as
word_read : (c : ℕ) (w s : List ℕ) (v : Cell) → plain w ≡ true → ends s ≡ true → cell_of c w ≡ Some v → read_word c (w ++ s) ≡ scanned (v ∷ []) s
unfolding read_word
word_read c w s v p e q = rw (word_first s e w p, word_rest s e w p, q)

-- the name that a list of names has
known_name : (w : List ℕ) (r : Option ℕ) → lookup w entries ≡ r → is_known r ≡ true → (areNamed : named w r ≡ Some (name w)) × (plain w ≡ true)
known_name w None q h = absurd (cc)
known_name w (Some n) q h = (refl, letters_plain w (name_letters w n q))

name_there : (w s : List ℕ) → is_name w ≡ true → ends s ≡ true → read_word name_hole (w ++ s) ≡ scanned (name w ∷ []) s
unfolding is_name cell_of
name_there w s h e = let k = known_name w (lookup w entries) refl h in word_read name_hole w s (name w) k.1 e k.0

number_there : (z : ℤ) (s : List ℕ) → is_decimal z ≡ true → ends s ≡ true → read_word number_hole (decimal_text z ++ s) ≡ scanned (number z ∷ []) s
unfolding cell_of
number_there z s h e =
    let q = decimal_there z h in
    word_read number_hole (decimal_text z) s (number z) (spelling_plain (decimal_text z) (decimal_back (decimal_text z) z q).bytes) e (ap numbered q)

-- what is known of a hole that was read
pub record Held (c : ℕ) (s : List ℕ) (vs : List Cell) (t : List ℕ) : Type 0 where
  pub v : Cell
  pub cells : vs ≡ v ∷ []
  pub text : s ≡ spell v ++ t
  pub is : is_cell c v ≡ true

name_back : (s : List ℕ) (vs : List Cell) (t : List ℕ) → read_word name_hole s ≡ scanned vs t → Held name_hole s vs t
unfolding read_word cell_of is_name
name_back s vs t e = by (lookup (word_of s) entries) refl
  where
    by : (r : Option ℕ) → lookup (word_of s) entries ≡ r → Held name_hole s vs t
    by None q = let z : ◌≡◌ {A = Scan} bad (scanned vs t) = rw q at e in absurd (cc)
    by (Some n) q =
        let z : scanned (name (word_of s) ∷ []) (rest_of s) ≡ scanned vs t = rw q at e in
        let r : rest_of s ≡ t = cc in
        record { v = name (word_of s); cells = cc; text = sym (rw (← r) (word_whole s)); is = rw q }

number_back : (s : List ℕ) (vs : List Cell) (t : List ℕ) → read_word number_hole s ≡ scanned vs t → Held number_hole s vs t
unfolding read_word cell_of
number_back s vs t e = by (decimal_of (word_of s)) refl
  where
    by : (r : Option ℤ) → decimal_of (word_of s) ≡ r → Held number_hole s vs t
    by None q = let z : ◌≡◌ {A = Scan} bad (scanned vs t) = rw q at e in absurd (cc)
    by (Some x) q =
        let z : scanned (number x ∷ []) (rest_of s) ≡ scanned vs t = rw q at e in
        let r : rest_of s ≡ t = cc in
        let d = decimal_back (word_of s) x q in
        record { v = number x; cells = cc; text = sym (rw (d.text, ← r) (word_whole s)); is = d.few }

-- ---- arguments

-- what may follow them: a closing bracket
abbrev closing : List ℕ → Bool
closing [] = false
closing (b ∷ s) = eqb b 41

closing_ends : (s : List ℕ) → closing s ≡ true → ends s ≡ true
unfolding is_end
closing_ends [] h = h
closing_ends (b ∷ s) h = rw (eqb-true b 41 h)

none_there : (m : ℕ) (s : List ℕ) → closing s ≡ true → read_words m s ≡ words [] s
unfolding read_argument
none_there zero s h = refl
none_there (suc m) [] h = refl
none_there (suc m) (b ∷ s) h = rw (eqb-true b 41 h)

after_word : (ws s : List ℕ) → closing s ≡ true → ends (arguments_text ws ++ s) ≡ true
unfolding is_end
after_word [] s h = closing_ends s h
after_word (w ∷ ws) s h = refl

word_there : (w s : List ℕ) (x : ℕ) → plain w ≡ true → ends s ≡ true → hex_of w ≡ Some x → read_argument (32 ∷ (w ++ s)) ≡ word x s
unfolding read_argument
word_there w s x p e q = rw (word_first s e w p, word_rest s e w p, q)

words_there : (m : ℕ) (ws s : List ℕ) → length ws ≤ m → are_words ws ≡ true → closing s ≡ true → read_words m (arguments_text ws ++ s) ≡ words ws s
words_there m [] s l h e = none_there m s e
words_there zero (w ∷ ws) s l h e = absurd (omega arith)
words_there (suc m) (w ∷ ws) s l h e =
    let p = and_true (is_word w) (are_words ws) h in
    let q = hex_there w p.0 in
    let r = word_there (hex_text w) (arguments_text ws ++ s) w (spelling_plain (hex_text w) (hex_back (hex_text w) w q).bytes) (after_word ws s e) q in
    ap (λ (t : List ℕ). read_words (suc m) (32 ∷ t)) (append_assoc (hex_text w) (arguments_text ws) s)
    ∙ ap (λ (a : Argument). after_argument a (32 ∷ (hex_text w ++ (arguments_text ws ++ s))) (read_words m)) r
    ∙ ap (one_more_word w) (words_there m ws s (omega arith) p.1 e)

-- what is known of arguments that were read
record Listed (m : ℕ) (s ws t : List ℕ) : Type 0 where
  text : s ≡ arguments_text ws ++ t
  few : length ws ≤ m
  are : are_words ws ≡ true

-- an argument that was read
argument_was : (s : List ℕ) (w : ℕ) (t : List ℕ) → read_argument s ≡ word w t → (s ≡ 32 ∷ (hex_text w ++ t)) × (is_word w ≡ true)
unfolding read_argument is_word
argument_was [] w t e = absurd (cc)
argument_was (b ∷ s) w t e =
    split (eqb b 32)
    (λ q. by (eqb-true b 32 q) (hex_of (word_of s)) refl (rw q at e))
    (λ q. let x : ◌≡◌ {A = Argument} ended (word w t) = rw q at e in absurd (cc))
  where
    by : b ≡ 32 → (r : Option ℕ) → hex_of (word_of s) ≡ r → as_word r (rest_of s) ≡ word w t → (b ∷ s ≡ 32 ∷ (hex_text w ++ t)) × (is_word w ≡ true)
    by h None q x = absurd (cc)
    by h (Some y) q x =
        let i : y ≡ w = cc in
        let r : rest_of s ≡ t = cc in
        let k = hex_back (word_of s) w (q ∙ ap Some i) in (
          ap (λ (x : ℕ). x ∷ s) h
              ∙ ap (λ (u : List ℕ). 32 ∷ u) (sym (word_whole s) ∙ ap (λ (u : List ℕ). u ++ rest_of s) (sym k.text) ∙ ap (λ (u : List ℕ). hex_text w ++ u) r),
          lt-ltb _ _ k.small,
        )

-- one argument, and those after it
module _ (m : ℕ) (s ws t : List ℕ) (back : (u us : List ℕ) → read_words m u ≡ words us t → Listed m u us t) where
  one_back : (w : ℕ) (u : List ℕ) (r : Words) → read_argument s ≡ word w u → read_words m u ≡ r → one_more_word w r ≡ words ws t → Listed (suc m) s ws t
  one_back w u no_words a q x = absurd (cc)
  one_back w u (words us v) a q x =
      let i : w ∷ us ≡ ws = cc in
      let r : v ≡ t = cc in
      let k = argument_was s w u a in
      let l = back u us (q ∙ ap (words us) r) in
      record {
        text = rw (← i) (k.0 ∙ ap (λ (y : List ℕ). 32 ∷ (hex_text w ++ y)) l.text ∙ sym (ap (λ (y : List ℕ). 32 ∷ y) (append_assoc (hex_text w) (arguments_text us) t)));
        few = rw (← i) (omega (arith, l.few));
        are = rw (← i, k.1) l.are;
      }

  all_back : (a : Argument) → read_argument s ≡ a → after_argument a s (read_words m) ≡ words ws t → Listed (suc m) s ws t
  all_back ended a x =
      let q : ws ≡ [] = cc in
      let r : s ≡ t = cc in
      record { text = rw (q, r); few = rw q (omega arith); are = rw q }
  all_back no_word a x = absurd (cc)
  all_back (word w u) a x = one_back w u (read_words m u) a refl x

words_back : (m : ℕ) (s ws t : List ℕ) → read_words m s ≡ words ws t → Listed m s ws t
words_back zero s ws t e =
    let q : ws ≡ [] = cc in
    let r : s ≡ t = cc in
    record { text = rw (q, r); few = rw q (omega arith); are = rw q }
words_back (suc m) s ws t e = all_back m s ws t (λ u us q. words_back m u us t q) (read_argument s) refl e

-- ---- a hole

-- what may follow a hole
abbrev pub closes : ℕ → List ℕ → Bool
closes c s = cond (eqb c arguments_hole) (closing s) (ends s)

arguments_there : (ws s : List ℕ) → (leb (length ws) arg_words && are_words ws) ≡ true → closing s ≡ true
    → as_arguments (read_words arg_words (arguments_text ws ++ s)) ≡ scanned (arguments ws ∷ []) s
arguments_there ws s h e =
    let p = and_true (leb (length ws) arg_words) (are_words ws) h in
    ap as_arguments (words_there arg_words ws s (leb-true _ _ p.0) p.1 e)

pub hole_there : (c : ℕ) (v : Cell) (s : List ℕ) → is_cell c v ≡ true → closes c s ≡ true → read_one c (spell v ++ s) ≡ scanned (v ∷ []) s
unfolding read_one
hole_there c (name w) s h e =
    let p = and_true (eqb c name_hole) (is_name w) h in
    let q = eqb-true c name_hole p.0 in
    rw q (name_there w s p.1 (rw q at e))
hole_there c (number z) s h e =
    let p = and_true (eqb c number_hole) (is_decimal z) h in
    let q = eqb-true c number_hole p.0 in
    rw q (number_there z s p.1 (rw q at e))
hole_there c (arguments ws) s h e =
    let p = and_true (eqb c arguments_hole) (leb (length ws) arg_words && are_words ws) h in
    let q = eqb-true c arguments_hole p.0 in
    rw q (arguments_there ws s p.1 (rw q at e))

arguments_back : (s : List ℕ) (vs : List Cell) (t : List ℕ) → as_arguments (read_words arg_words s) ≡ scanned vs t → Held arguments_hole s vs t
arguments_back s vs t e = by (read_words arg_words s) refl e
  where
    by : (r : Words) → read_words arg_words s ≡ r → as_arguments r ≡ scanned vs t → Held arguments_hole s vs t
    by no_words q x = absurd (cc)
    by (words ws u) q x =
        let r : u ≡ t = cc in
        let l = words_back arg_words s ws t (q ∙ ap (words ws) r) in
        record { v = arguments ws; cells = cc; text = l.text; is = rw (le-leb (length ws) arg_words l.few, l.are) }

pub hole_back : (c : ℕ) (s : List ℕ) (vs : List Cell) (t : List ℕ) → is_hole c ≡ true → read_one c s ≡ scanned vs t → Held c s vs t
unfolding is_hole read_one
hole_back c s vs t h e =
    split (eqb c name_hole)
    (λ n. let q = eqb-true c name_hole n in rw q (name_back s vs t (rw q at e)))
    (λ n. split (eqb c number_hole)
    (λ d. let q = eqb-true c number_hole d in rw q (number_back s vs t (rw q at e)))
    (λ d. let q = eqb-true c arguments_hole (rw (n, d) at h) in rw q (arguments_back s vs t (rw q at e))))
