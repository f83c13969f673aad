-- The lines of a text, the kind of each, and how those that are answered right and wrong are counted; oracle/README.md has the form. Definitions only.
use Rattle.std.specs.Prelude.{Bool, cond, not, ◌&&◌, ◌||◌, List, [], ◌∷◌, ℕ, suc, ◌+◌, eqb, length, get_or, set, drop, map, Option, Some, None}
use Rattle.verdicts.specs.Tally.{tallied}
use Rattle.verdicts.specs.declared.tally.Tally.{Tally}

-- ---- lines

-- how many bytes a text has before its first line end, which is byte 10
unfoldable pub width_of : List ℕ → ℕ
width_of [] = 0
width_of (b ∷ text) = cond (eqb b 10) 0 (suc (width_of text))

-- a byte before the first of the lines
unfoldable pub onto : ℕ → List (List ℕ) → List (List ℕ)
onto b [] = (b ∷ []) ∷ []
onto b (line ∷ lines) = (b ∷ line) ∷ lines

-- the lines of a text: what stands before each line end, and what stands after the last, if anything does
unfoldable pub lines_of : List ℕ → List (List ℕ)
lines_of [] = []
lines_of (b ∷ text) = cond (eqb b 10) ([] ∷ lines_of text) (onto b (lines_of text))

-- ---- what a line asks

abbrev pub first_of : List ℕ → ℕ
first_of line = get_or line 0 0

-- an empty line asks nothing, nor does one that starts with '#'
abbrev pub asks : List ℕ → Bool
asks line = not (eqb (length line) 0 || eqb (first_of line) 35)

-- a line that starts with '!' is spoiled, and what it asks stands after that
abbrev pub spoiled : List ℕ → Bool
spoiled line = eqb (first_of line) 33

abbrev pub asked_of : List ℕ → List ℕ
asked_of line = cond (spoiled line) (drop 1 line) line

-- the kind of a line that starts with b: b's place among the kinds' letters; of no kind are those past them
unfoldable pub kind_of : List ℕ → ℕ → ℕ
kind_of [] b = 0
kind_of (k ∷ kinds) b = cond (eqb b k) 0 (suc (kind_of kinds b))

-- ---- the verdict

-- whether a line whose answer ends at a place is answered right: it ends where the line does, and that of a spoiled line does not
abbrev pub right_at : List ℕ → ℕ → Bool
right_at line place = cond (spoiled line) (not (eqb place (length (asked_of line)))) (eqb place (length (asked_of line)))

-- how many lines of each kind are right, how many wrong, and the number of the first that is wrong, if one is
pub record Counted : Type 0 where
  pub right : List ℕ
  pub wrong : List ℕ
  pub first : Option ℕ

abbrev pub counted : List ℕ → List ℕ → Option ℕ → Counted
counted right wrong first = record { right = right; wrong = wrong; first = first }

-- as the code keeps them, the two numbers of a kind side by side
abbrev pub counts : List Tally → Option ℕ → Counted
counts tallies first = counted (map (λ (t : Tally). t.right) tallies) (map (λ (t : Tally). t.wrong) tallies) first

abbrev pub first_wrong : Bool → ℕ → Option ℕ → Option ℕ
first_wrong isWrong number None = cond isWrong (Some number) None
first_wrong isWrong number (Some first) = Some first

-- one line more, of a kind
unfoldable pub with_line : (isRight isWrong : Bool) → (kind number : ℕ) → Counted → Counted
with_line isRight isWrong kind number c =
    counted (tallied isRight kind c.right) (tallied isWrong kind c.wrong) (first_wrong isWrong number c.first)

abbrev pub line_counted : (kinds : List ℕ) → (number : ℕ) → List ℕ → (place : ℕ) → Counted → Counted
line_counted kinds number line place =
    with_line (asks line && right_at line place) (asks line && not (right_at line place)) (kind_of kinds (first_of line)) number

-- lines one after the other, from the i-th on, with the place where each one's answer ends; 0, where no line ends that asks something, for one that has none
unfoldable pub lines_counted : (kinds places : List ℕ) → (i : ℕ) → List (List ℕ) → Counted → Counted
lines_counted kinds places i [] c = c
lines_counted kinds places i (line ∷ lines) c =
    lines_counted kinds places (i + 1) lines (line_counted kinds (i + 1) line (get_or places i 0) c)

-- where a line's answer ends, and what is kept for the lines after it
pub record Answered (K : Type 0) : Type 0 where
  pub place : ℕ
  pub kept : K

abbrev pub answer : {K : Type 0} → ℕ → K → Answered K
answer place kept = record { place = place; kept = kept }

-- the list of the places, from the i-th line on, where a line is answered by what it asks and what the lines before it kept; past the list's end there is no
-- place
unfoldable pub places_from : {K : Type 0} → (List ℕ → K → Answered K) → (i : ℕ) → List (List ℕ) → K → List ℕ → List ℕ
places_from answered i [] k places = places
places_from answered i (line ∷ lines) k places =
    places_from answered (i + 1) lines (answered (asked_of line) k).kept (set places i (answered (asked_of line) k).place)

-- the same where a line's place depends on nothing but what it asks
abbrev pub places_of : (List ℕ → ℕ) → (i : ℕ) → List (List ℕ) → List ℕ → List ℕ
places_of place i lines = places_from (λ line k. answer (place line) k) i lines (tt {0})
