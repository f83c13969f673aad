-- A name of the list is small letters, and of a word of small letters `from_name` drops and lowers nothing: so that it finds just the names as they are
-- spelt. Assumes nothing.
use mathlib.Core.Path.{◌≡◌, refl, sym, ap, ◌∙◌}
use mathlib.Core.Bool.{Bool, true, false, ◌&&◌}
use mathlib.Core.List.{List, [], ◌∷◌}
use Prim.Native.Nat.{ℕ, ◌<◌}
use native.Mathlib.Omega.{arith}
use lib.Dec.{eqb, leb, ltb}
use lib.IntN.{pos}
use borrow.Author.Tests.{ltb-true, leb-true, eqb-true, le-leb, lt-leb, ne_eqb}
use Rattle.std.specs.Prelude.{Option, Some, None}
use Rattle.names.specs.Names.{Entry, entries, is_kept, lower, key_of, same, lookup, from_name}
use Rattle.numerals.proofs.Bools.{split, and_true}
use Rattle.operators.specs.Operators.{number_of}
use mir.Facts.{to_z_pos}
use mir.Syntax.{w64}
use mir.Val.{SFits, to_z}
use Rattle.std.specs.Char.{is_ascii_lowercase}
use Rattle.std.specs.List.{list_all}
use Rattle.std.proofs.lemmas.Bool.Decides.{nat_tests}
use Rattle.cards.specs.Forms.{named}
use Rattle.cards.specs.Steps.{is_letter, are_letters, column}

-- small letters, as std tests them
letter : (b : ℕ) → is_ascii_lowercase b ≡ is_letter b
unfolding is_letter
letter b = grind (arith, nat_tests)

pub letters : (s : List ℕ) → list_all is_ascii_lowercase s ≡ are_letters s
letters [] = refl
letters (b ∷ s) = rw (letter b, letters s)

same_eq : (x y : List ℕ) → same x y ≡ true → x ≡ y
same_eq [] [] e = refl
same_eq [] (b ∷ y) e = absurd (cc)
same_eq (a ∷ x) [] e = absurd (cc)
same_eq (a ∷ x) (b ∷ y) e = let p = and_true (eqb a b) (same x y) e in rw (eqb-true a b p.0, same_eq x y p.1)

-- what holds of each entry, of its word and its operator's number, holds of the one that is found
abbrev each : (List ℕ → ℕ → Bool) → List Entry → Bool
each f [] = true
each f (e ∷ es) = f e.word (number_of e.op) && each f es

found : (f : List ℕ → ℕ → Bool) (w : List ℕ) (es : List Entry) (n : ℕ) → each f es ≡ true → lookup w es ≡ Some n → f w n ≡ true
found f w [] n h e = absurd (cc)
found f w (x ∷ es) n h e =
    let p = and_true (f x.word (number_of x.op)) (each f es) h in
    split (same w x.word)
    (λ t. let q : Some (number_of x.op) ≡ Some n = rw t at e in let m : number_of x.op ≡ n = cc in rw (same_eq w x.word t, ← m) p.0)
    (λ t. found f w es n p.1 (rw t at e))

-- small letters, and one of the 70 numbers
abbrev plainly : List ℕ → ℕ → Bool
plainly w n = are_letters w && ltb n 70

listed : (w : List ℕ) (n : ℕ) → lookup w entries ≡ Some n → plainly w n ≡ true
unfolding entries is_letter
listed w n e = found plainly w entries n refl e

module _ (w : List ℕ) (n : ℕ) (e : lookup w entries ≡ Some n) where
  pub name_letters : are_letters w ≡ true
  name_letters = (and_true (are_letters w) (ltb n 70) (listed w n e)).0

  pub name_small : n < 70
  name_small = ltb-true n 70 (and_true (are_letters w) (ltb n 70) (listed w n e)).1

-- a word with another byte is no name
pub no_name : (w : List ℕ) → are_letters w ≡ false → lookup w entries ≡ None
no_name w h = by (lookup w entries) refl
  where
    by : (r : Option ℕ) → lookup w entries ≡ r → r ≡ None
    by None e = refl
    by (Some n) e = let z : ◌≡◌ {A = Bool} true false = sym (name_letters w n e) ∙ h in absurd (cc)

-- a word of small letters is compared as it is
kept : (b : ℕ) → is_letter b ≡ true → (is_kept b ≡ true) × (lower b ≡ b)
unfolding is_letter is_kept lower
kept b e =
    let p = and_true (leb 97 b) (leb b 122) e in
    let a = leb-true 97 b p.0 in
    (rw (ne_eqb b 45 (λ q. omega arith), ne_eqb b 95 (λ q. omega arith), ne_eqb b 32 (λ q. omega arith)), rw (le-leb 65 b (omega arith), lt-leb b 90 (omega arith)))

key_same : (s : List ℕ) → are_letters s ≡ true → key_of s ≡ s
key_same [] h = refl
key_same (b ∷ s) h =
    let p = and_true (is_letter b) (are_letters s) h in
    let k = kept b p.0 in
    rw (k.0, k.1, key_same s p.1)

pub as_listed : (s : List ℕ) → are_letters s ≡ true → from_name s ≡ lookup s entries
unfolding from_name
as_listed s h = rw (key_same s h)

-- what a name has in the layer table
pub known_column : (w : List ℕ) (n : ℕ) → lookup w entries ≡ Some n → column (named w (lookup w entries)) ≡ Some (pos n)
known_column w n e = rw (e, e)

pub unknown_column : (w : List ℕ) → lookup w entries ≡ None → column (named w (lookup w entries)) ≡ None
unknown_column w e = rw e

-- what the code finds
module _ (s : List ℕ) where
  pub no_letters : list_all is_ascii_lowercase s ≡ false → None ≡ column (named s (lookup s entries))
  no_letters a = sym (unknown_column s (no_name s (sym (letters s) ∙ a)))

  module _ (a : list_all is_ascii_lowercase s ≡ true) where
    found_as : {r : Option ℕ} → r ≡ from_name s → lookup s entries ≡ r
    found_as e = sym (as_listed s (sym (letters s) ∙ a)) ∙ sym e

    pub name_fits : (n : ℕ) → Some n ≡ from_name s → SFits w64 (pos n)
    name_fits n e = record { sfits = let h = name_small s n (found_as e) in omega arith }

    pub name_known : (n : ℕ) → Some n ≡ from_name s → Some (to_z w64 n) ≡ column (named s (lookup s entries))
    name_known n e = ap Some (let h = name_small s n (found_as e) in to_z_pos w64 (omega arith)) ∙ sym (known_column s n (found_as e))

    pub name_unknown : None ≡ from_name s → None ≡ column (named s (lookup s entries))
    name_unknown e = sym (unknown_column s (found_as e))
