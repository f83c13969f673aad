-- Laws on the lines of a text and on the kinds of lines. Assumes nothing.
use Rattle.std.proofs.Common.{◌≡◌, refl, ◌∙◌, sym, Bool, true, false, cond, not, List, [], ◌∷◌, ℕ, suc, ◌+◌, ◌-◌, ◌<◌, ◌≤◌, min, arith, eqb, nat_lt, length, take, drop, length-drop, add-one, position, Option, Some, None}
use Rattle.std.specs.Option.{unwrap_or}
use Rattle.std.proofs.lemmas.Bool.Decides.{nat_tests}
use Rattle.std.specs.List.{position_or_len}
use Rattle.std.proofs.Math.ListN.{drop_of_length-le}
use Rattle.std.proofs.lemmas.List.{take_all, length-take-le}
use Rattle.verdicts.specs.Lines.{width_of, onto, lines_of, kind_of}

-- ---- where a byte first stands
at_or_end : (p n : ℕ) → p ≤ n → unwrap_or (cond (nat_lt p n) (Some p) None) n ≡ p
at_or_end p n h = grind (arith, nat_tests)

place_within : (b : ℕ) (xs : List ℕ) → position_or_len (λ x. eqb x b) xs ≤ length xs
place_within b [] = omega arith
place_within b (x ∷ xs) = go (eqb x b) (place_within b xs)
  where
    go : (t : Bool) → position_or_len (λ x. eqb x b) xs ≤ length xs → cond (not t) (1 + position_or_len (λ x. eqb x b) xs) 0 ≤ suc (length xs)
    go true e = omega arith
    go false e = omega arith

place_is : (b : ℕ) (xs : List ℕ) → unwrap_or (position (λ x. eqb x b) xs) (length xs) ≡ position_or_len (λ x. eqb x b) xs
place_is b xs = at_or_end (position_or_len (λ x. eqb x b) xs) (length xs) (place_within b xs)

either_way : (a b : ℕ) → eqb a b ≡ eqb b a
either_way a b = grind (arith, nat_tests)

-- the kinds' letters
letters : (b : ℕ) (kinds : List ℕ) → position_or_len (λ x. eqb x b) kinds ≡ kind_of kinds b
unfolding kind_of
letters b [] = refl
letters b (k ∷ kinds) = rw (either_way k b) (go (eqb b k) (letters b kinds))
  where
    go : (t : Bool) → position_or_len (λ x. eqb x b) kinds ≡ kind_of kinds b → cond (not t) (1 + position_or_len (λ x. eqb x b) kinds) 0 ≡ cond t 0 (suc (kind_of kinds b))
    go true e = refl
    go false e = omega arith

pub kind_is : (kinds : List ℕ) {o : Option ℕ} (b : ℕ) → o ≡ position (λ x. eqb x b) kinds → unwrap_or o (length kinds) ≡ kind_of kinds b
kind_is kinds b e = rw e (place_is b kinds ∙ letters b kinds)

-- the line end
ends : (text : List ℕ) → position_or_len (λ x. eqb x 10) text ≡ width_of text
unfolding width_of
ends [] = refl
ends (b ∷ text) = go (eqb b 10) (ends text)
  where
    go : (t : Bool) → position_or_len (λ x. eqb x 10) text ≡ width_of text → cond (not t) (1 + position_or_len (λ x. eqb x 10) text) 0 ≡ cond t 0 (suc (width_of text))
    go true e = refl
    go false e = omega arith

pub width_is : (text : List ℕ) {o : Option ℕ} → o ≡ position (λ x. eqb x 10) text → unwrap_or o (length text) ≡ width_of text
width_is text e = rw e (place_is 10 text ∙ ends text)

-- ---- the lines of a text
pub width_within : (text : List ℕ) → width_of text ≤ length text
unfolding width_of
width_within [] = omega arith
width_within (b ∷ text) = go (eqb b 10) (width_within text)
  where
    go : (t : Bool) → width_of text ≤ length text → cond t 0 (suc (width_of text)) ≤ suc (length text)
    go true e = omega arith
    go false e = omega arith

pub no_line : (text : List ℕ) → length text ≡ 0 → lines_of text ≡ []
unfolding lines_of
no_line [] h = refl
no_line (b ∷ text) h = absurd (omega arith)

-- the first line of a text that has one, and what stands after it
first_line : (b : ℕ) (text : List ℕ) → lines_of (b ∷ text) ≡ take (width_of (b ∷ text)) (b ∷ text) ∷ lines_of (drop (suc (width_of (b ∷ text))) (b ∷ text))
unfolding lines_of width_of onto
first_line b [] = go (eqb b 10)
  where
    go : (t : Bool) → cond t ([] ∷ []) ((b ∷ []) ∷ []) ≡ take (cond t 0 1) (b ∷ []) ∷ lines_of (drop (cond t 0 1) [])
    go true = refl
    go false = refl
first_line b (x ∷ text) = go (eqb b 10) (first_line x text)
  where
    go : (t : Bool) → let rest = x ∷ text in let w = width_of rest in lines_of rest ≡ take w rest ∷ lines_of (drop (suc w) rest)
        → cond t ([] ∷ lines_of rest) (onto b (lines_of rest)) ≡ take (cond t 0 (suc w)) (b ∷ rest) ∷ lines_of (drop (cond t 0 (suc w)) rest)
    go true e = refl
    go false e = rw e

-- what is left after n elements, or after all
left_after : (xs : List ℕ) (n : ℕ) → take (length xs - min (length xs) n) (drop (min (length xs) n) xs) ≡ drop n xs
left_after xs n = grind (arith, take_all {A = ℕ}, length-drop {A = ℕ}, drop_of_length-le {A = ℕ})

pub end_bound : (text : List ℕ) {end : ℕ} → end ≡ width_of text → end ≤ length text
end_bound text e = omega (arith, width_within text)

pub end_within : (text : List ℕ) {end : ℕ} → end ≡ width_of text → end ≡ length (take end text)
end_within text {end} e = let h : end ≤ length text = omega (arith, width_within text) in sym (length-take-le end text h)

pub one_line : (text : List ℕ) {end next : ℕ} → (length text ≡ 0 → ⊥) → end ≡ width_of text → next ≡ min (length text) (end + 1)
    → lines_of text ≡ take end text ∷ lines_of (take (length text - next) (drop next text))
one_line [] n e f = absurd (n refl)
one_line (b ∷ text) {end} n e f = rw (f, left_after (b ∷ text) (end + 1), add-one end, e) (first_line b text)

pub fewer_lines : (text : List ℕ) {end next : ℕ} → (length text ≡ 0 → ⊥) → end ≡ width_of text → next ≡ min (length text) (end + 1)
    → length (lines_of (take (length text - next) (drop next text))) < length (lines_of text)
fewer_lines text n e f = rw (one_line text n e f) (omega arith)

-- there are no more lines than bytes
pub lines_few : (text : List ℕ) → length (lines_of text) ≤ length text
unfolding lines_of onto
lines_few [] = omega arith
lines_few (b ∷ text) = go (eqb b 10) (lines_of text) (lines_few text)
  where
    go : (t : Bool) (lines : List (List ℕ)) → length lines ≤ length text → length (cond t ([] ∷ lines) (onto b lines)) ≤ suc (length text)
    go true lines h = omega arith
    go false [] h = omega arith
    go false (line ∷ lines) h = omega arith
