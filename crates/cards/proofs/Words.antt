-- A word of a text, and that no name and no number has a byte that ends a word. Assumes nothing.
use mathlib.Core.Path.{◌≡◌, refl, ap, ◌∙◌}
use mathlib.Core.Bool.{Bool, true, false, not, ◌||◌, ◌&&◌}
use mathlib.Core.List.{List, [], ◌∷◌, ◌++◌}
use Prim.Native.Nat.{ℕ, ◌<◌, ◌≤◌}
use native.Mathlib.Omega.{arith}
use lib.Dec.{eqb, leb, ltb}
use borrow.Author.Tests.{ltb-true, leb-true, eqb-true, ne_eqb, not-true}
use Rattle.numerals.specs.Digits.{digit_of}
use Rattle.numerals.proofs.Bools.{split, and_true}
use Rattle.numerals.proofs.Numbers.{spelling}
use Rattle.cards.specs.Forms.{is_end, word_of, rest_of}
use Rattle.cards.specs.Steps.{is_letter, are_letters}

-- a test of each byte
abbrev pub every : (ℕ → Bool) → List ℕ → Bool
every f [] = true
every f (b ∷ s) = f b && every f s

-- what holds of small letters holds of each byte of a name; and what holds of a minus and of digits, of each byte of a number
module _ (f : ℕ → Bool) where
  pub letters_every : ((b : ℕ) → 97 ≤ b → f b ≡ true) → (s : List ℕ) → are_letters s ≡ true → every f s ≡ true
  unfolding is_letter
  letters_every g [] h = refl
  letters_every g (b ∷ s) h =
      let p = and_true (is_letter b) (are_letters s) h in
      rw (g b (leb-true 97 b (and_true (leb 97 b) (leb b 122) p.0).0)) (letters_every g s p.1)

  pub spelling_every : f 45 ≡ true → ((b : ℕ) → digit_of b < 16 → f b ≡ true) → (s : List ℕ) → spelling s ≡ true → every f s ≡ true
  spelling_every m g [] h = refl
  spelling_every m g (b ∷ s) h =
      let p = and_true (eqb b 45 || ltb (digit_of b) 16) (spelling s) h in
      rw (split (eqb b 45) (λ t. ap f (eqb-true b 45 t) ∙ m) (λ t. g b (ltb-true (digit_of b) 16 (rw t at p.0)))) (spelling_every m g s p.1)

-- a byte that is no digit differs from those that are
pub no_digit : (b c : ℕ) → digit_of c ≡ 16 → digit_of b < 16 → b ≡ c → ⊥
no_digit b c n h e = omega (arith, n, h, ap digit_of e)

-- no byte ends a word
abbrev pub plain : List ℕ → Bool
plain = every (λ b. not (is_end b))

no_end : (b : ℕ) → (b ≡ 32 → ⊥) → (b ≡ 41 → ⊥) → not (is_end b) ≡ true
unfolding is_end
no_end b h g = rw (ne_eqb b 32 h, ne_eqb b 41 g)

space_no : digit_of 32 ≡ 16
unfolding digit_of
space_no = refl

bracket_no : digit_of 41 ≡ 16
unfolding digit_of
bracket_no = refl

pub letters_plain : (s : List ℕ) → are_letters s ≡ true → plain s ≡ true
letters_plain = letters_every (λ b. not (is_end b)) (λ b h. no_end b (λ e. omega arith) (λ e. omega arith))

pub spelling_plain : (s : List ℕ) → spelling s ≡ true → plain s ≡ true
spelling_plain =
    spelling_every (λ b. not (is_end b)) (no_end 45 (λ e. omega arith) (λ e. omega arith))
    (λ b h. no_end b (no_digit b 32 space_no h) (no_digit b 41 bracket_no h))

-- a text begins with the end of a word
abbrev pub ends : List ℕ → Bool
ends [] = false
ends (b ∷ s) = is_end b

module _ (s : List ℕ) (e : ends s ≡ true) where
  pub word_first : (w : List ℕ) → plain w ≡ true → word_of (w ++ s) ≡ w
  word_first [] h = first s e
    where
      first : (s : List ℕ) → ends s ≡ true → word_of s ≡ []
      first [] e = refl
      first (b ∷ s) e = rw e
  word_first (b ∷ w) h = let p = and_true (not (is_end b)) (plain w) h in rw (not-true (is_end b) p.0, word_first w p.1)

  pub word_rest : (w : List ℕ) → plain w ≡ true → rest_of (w ++ s) ≡ s
  word_rest [] h = first s e
    where
      first : (s : List ℕ) → ends s ≡ true → rest_of s ≡ s
      first [] e = refl
      first (b ∷ s) e = rw e
  word_rest (b ∷ w) h = let p = and_true (not (is_end b)) (plain w) h in rw (not-true (is_end b) p.0) (word_rest w p.1)

pub word_whole : (s : List ℕ) → word_of s ++ rest_of s ≡ s
word_whole [] = refl
word_whole (b ∷ s) = split (is_end b) (λ e. rw e) (λ e. rw e (ap (λ (t : List ℕ). b ∷ t) (word_whole s)))
