-- What each function that reads a hole or a byte of a form finds, and what the definitions say there. Assumes nothing.
use mathlib.Core.Path.{◌≡◌, refl, ap, ◌∙◌}
use mathlib.Core.Bool.{Bool, true, false, cond, not}
use mathlib.Core.List.{List, [], ◌∷◌}
use Prim.Native.Nat.{ℕ, suc, ◌+◌, ◌≤◌}
use native.Mathlib.Omega.{arith}
use lib.Dec.{eqb, ltb}
use lib.IntN.{ℤ}
use lib.ListN.{length, take, drop}
use borrow.Author.Tests.{ltb-false, eq-eqb, ne_eqb}
use Rattle.std.specs.Prelude.{Option, Some, None, unwrap_or}
use Rattle.std.specs.List.{prefix_len, position}
use Rattle.std.proofs.lemmas.List.Sums.{prefix_len-le-length}
use Rattle.names.specs.Names.{entries, lookup}
use Rattle.numerals.specs.Numbers.{decimal_of, hex_of}
use Rattle.numerals.proofs.Bools.{split}
use Rattle.cards.specs.Cells.{Cell, name, number, name_hole, number_hole, arguments_hole, column_of, words_in}
use Rattle.cards.specs.Forms.{is_end, word_of, rest_of, named, numbered, cell_of, held, read_word, read_byte, read_one}
use Rattle.cards.specs.Forms.{ended, as_word, read_argument, read_words, as_arguments}
use Rattle.cards.specs.Steps.{column, after_byte, nothing, found, found_in}

-- ---- the word with which a text begins

-- how many bytes it has
abbrev count : List ℕ → ℕ
count s = prefix_len (λ b. not (is_end b)) s

cut_word : (s : List ℕ) → (take (count s) s ≡ word_of s) × (drop (count s) s ≡ rest_of s)
cut_word [] = (refl, refl)
cut_word (b ∷ s) = by (is_end b) (cut_word s)
  where
    by : (e : Bool) → (take (count s) s ≡ word_of s) × (drop (count s) s ≡ rest_of s)
        → (take (cond (not e) (1 + count s) 0) (b ∷ s) ≡ cond e [] (b ∷ word_of s)) × (drop (cond (not e) (1 + count s) 0) (b ∷ s) ≡ cond e (b ∷ s) (rest_of s))
    by true p = (refl, refl)
    by false p =
        let q : 1 + count s ≡ suc (count s) = omega arith in
        (rw q (ap (λ (w : List ℕ). b ∷ w) p.0), rw q p.1)

-- .. as the place of the first byte that ends it
counted : (s : List ℕ) → unwrap_or (position is_end s) (length s) ≡ count s
counted s =
    split (ltb (count s) (length s)) (λ e. rw e)
    (λ e. rw e (let l = ltb-false (count s) (length s) e in omega (arith, prefix_len-le-length (λ b. not (is_end b)) s)))

module _ (s : List ℕ) where
  pub word_is : take (unwrap_or (position is_end s) (length s)) s ≡ word_of s
  word_is = ap (λ (m : ℕ). take m s) (counted s) ∙ (cut_word s).0

  pub rest_is : drop (unwrap_or (position is_end s) (length s)) s ≡ rest_of s
  rest_is = ap (λ (m : ℕ). drop m s) (counted s) ∙ (cut_word s).1

  pub word_within : unwrap_or (position is_end s) (length s) ≤ length s
  word_within = omega (arith, counted s, prefix_len-le-length (λ b. not (is_end b)) s)

-- ---- a word in a hole

-- a name or a number has no arguments
cell_words : (c : ℕ) (w : List ℕ) (v : Cell) → cell_of c w ≡ Some v → words_in v ≡ []
unfolding cell_of
cell_words c w v e =
    split (eqb c name_hole) (λ n. by_name (lookup w entries) (rw n at e)) (λ n. by_number (decimal_of w) (rw n at e))
  where
    by_name : (r : Option ℕ) → named w r ≡ Some v → words_in v ≡ []
    by_name (Some n) q = let i : name w ≡ v = cc in rw (← i)
    by_name None q = absurd (cc)

    by_number : (r : Option ℤ) → numbered r ≡ Some v → words_in v ≡ []
    by_number (Some x) q = let i : number x ≡ v = cc in rw (← i)
    by_number None q = absurd (cc)

module _ (c : ℕ) (s args : List ℕ) where
  pub word_good : (v : ℤ) → column (cell_of c (word_of s)) ≡ Some v → found_in args (read_word c s) ≡ found (Some v) args (rest_of s)
  unfolding read_word
  word_good v e = by (cell_of c (word_of s)) refl e
    where
      by : (o : Option Cell) → cell_of c (word_of s) ≡ o → column o ≡ Some v → found_in args (held o (rest_of s)) ≡ found (Some v) args (rest_of s)
      by None q x = absurd (cc)
      by (Some u) q x = let i : column_of u ≡ v = cc in rw (i, cell_words c (word_of s) u q)

  pub word_bad : column (cell_of c (word_of s)) ≡ None → found_in args (read_word c s) ≡ nothing
  unfolding read_word
  word_bad e = by (cell_of c (word_of s)) e
    where
      by : (o : Option Cell) → column o ≡ None → found_in args (held o (rest_of s)) ≡ nothing
      by None x = refl
      by (Some u) x = absurd (cc)

pub value_name : (c : ℕ) (s : List ℕ) → c ≡ name_hole → cell_of c s ≡ named s (lookup s entries)
unfolding cell_of
value_name c s e = rw (eq-eqb c name_hole e)

pub value_number : (c : ℕ) (s : List ℕ) → (c ≡ name_hole → ⊥) → cell_of c s ≡ numbered (decimal_of s)
unfolding cell_of
value_number c s e = rw (ne_eqb c name_hole e)

pub number_column : (r : Option ℤ) → column (numbered r) ≡ r
number_column (Some x) = refl
number_column None = refl

pub number_value : (c : ℕ) (s : List ℕ) → (c ≡ name_hole → ⊥) → column (cell_of c s) ≡ decimal_of s
number_value c s e = ap column (value_number c s e) ∙ number_column (decimal_of s)

-- ---- where an argument may stand
pub no_space : (s : List ℕ) → after_byte 32 s ≡ None → read_argument s ≡ ended
unfolding read_argument
no_space [] e = refl
no_space (b ∷ s) e = by (eqb b 32) e
  where
    by : (k : Bool) → cond k (Some s) None ≡ None → cond k (as_word (hex_of (word_of s)) (rest_of s)) ended ≡ ended
    by true q = absurd (cc)
    by false q = refl

pub a_space : (s t : List ℕ) → after_byte 32 s ≡ Some t → read_argument s ≡ as_word (hex_of (word_of t)) (rest_of t)
unfolding read_argument
a_space [] t e = absurd (cc)
a_space (b ∷ s) t e = by (eqb b 32) e
  where
    by : (k : Bool) → cond k (Some s) None ≡ Some t → cond k (as_word (hex_of (word_of s)) (rest_of s)) ended ≡ as_word (hex_of (word_of t)) (rest_of t)
    by true q = let u : s ≡ t = cc in rw u
    by false q = absurd (cc)

-- ---- one byte of a form

module _ (c : ℕ) (s : List ℕ) where
  pub one_name : c ≡ name_hole → read_one c s ≡ read_word c s
  unfolding read_one
  one_name e = rw (eq-eqb c name_hole e)

  module _ (n : c ≡ name_hole → ⊥) where
    pub one_number : c ≡ number_hole → read_one c s ≡ read_word c s
    unfolding read_one
    one_number e = rw (ne_eqb c name_hole n, eq-eqb c number_hole e)

    module _ (d : c ≡ number_hole → ⊥) where
      pub one_arguments : c ≡ arguments_hole → read_one c s ≡ as_arguments (read_words 4 s)
      unfolding read_one
      one_arguments e = rw (ne_eqb c name_hole n, ne_eqb c number_hole d, eq-eqb c arguments_hole e)

      pub one_byte : (c ≡ arguments_hole → ⊥) → read_one c s ≡ read_byte c s
      unfolding read_one
      one_byte a = rw (ne_eqb c name_hole n, ne_eqb c number_hole d, ne_eqb c arguments_hole a)
