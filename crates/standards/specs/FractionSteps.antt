-- Porter and Duff's two sums (PorterDuff.antt) by their steps. A step is one place of the sums that the compositor writes otherwise; `colour_by` and
-- `alpha_by` are what is stored with the steps of a list exchanged, so that with none they are the paper's colour and coverage (`colour_printed` and
-- `alpha_printed`, proofs/FractionSteps.antt). `steps` lists each operator's: docs/DIFFERENCES.md has a section for each of them. Definitions only.
use Rattle.std.specs.Prelude.{ℕ, Bool, true, false, cond, not, ◌&&◌, ◌||◌, List, [], ◌∷◌, Float}
use Rattle.std.specs.Float.Ieee.{le}
use Rattle.float_steps.specs.Notation.{◌⊕◌, ◌⊗◌, ◌⊘◌, f0, f1}
use Rattle.float_steps.specs.Order.{smaller_of}
use Rattle.standards.specs.Lists.{among_by}
use Rattle.standards.specs.PorterDuff.{Fraction, none, whole, inside, outside, fraction, Operator, clear, A, B, AoverB, BoverA, AinB, BinA, AoutB, BoutA, AatopB, BatopA, AxorB, AplusB, FA, FB}

-- document 01's own, sections 1 and 2; then 9 to 14
pub data Step : Type 0 where
  over_coverage straight left_out coverage_first kept_colour cleared kept_alpha cut : Step

abbrev pub number : Step → ℕ
number over_coverage = 0
number straight = 1
number left_out = 2
number coverage_first = 3
number kept_colour = 4
number cleared = 5
number kept_alpha = 6
number cut = 7

abbrev pub among : Step → List Step → Bool
among k l = among_by number k l

abbrev pub is_none : Fraction → Bool
is_none none = true
is_none whole = false
is_none inside = false
is_none outside = false

abbrev pub is_inside : Fraction → Bool
is_inside none = false
is_inside whole = false
is_inside inside = true
is_inside outside = false

-- a picture's share of the colour, (C × α) × F: stored straight, its α × F being left to the alpha; or with the product α × F taken first
abbrev pub share : List Step → Fraction → Float → Float → Float → Float
share l f C α β = cond (among straight l && not (is_none f)) C (cond (among coverage_first l) (C ⊗ (α ⊗ fraction f β)) (C ⊗ α ⊗ fraction f β))

-- the sum of A's share x and B's share y: a share with the fraction 0 is left out
abbrev pub sum_by : List Step → Operator → Float → Float → Float
sum_by l o x y = cond (among left_out l) (cond (is_none (FA o)) (cond (is_none (FB o)) f0 y) (cond (is_none (FB o)) x (x ⊕ y))) (x ⊕ y)

-- αA × FA + αB × FB: A atop B keeps αB for αA × αB + αB × (1 − αA), B atop A keeps αA
abbrev pub covered : List Step → Operator → Float → Float → Float
covered l o αA αB = cond (among kept_alpha l) (cond (is_inside (FA o)) αB αA) (sum_by l o (αA ⊗ fraction (FA o) αB) (αB ⊗ fraction (FB o) αA))

abbrev pub cut_by : List Step → Float → Float
cut_by l x = cond (among cut l) (smaller_of x f1) x

-- x where a coverage is above 0, or a NaN, and y elsewhere
abbrev pub where_covered : Float → Float → Float → Float
where_covered a x y = cond (le a f0) y x

abbrev pub alpha_by : List Step → Operator → Float → Float → Float
alpha_by l o αA αB = let a = cut_by l (covered l o αA αB) in cond (among kept_colour l || among cleared l) (where_covered a a f0) a

-- cA × FA + cB × FB, over the coverage where that is a step; where the coverage is at most 0, B's colour is kept, or the pixel is cleared
abbrev pub colour_by : List Step → Operator → Float → Float → Float → Float → Float
colour_by l o CA αA CB αB =
    let a = covered l o αA αB in
    let c = cut_by l (sum_by l o (share l (FA o) CA αA αB) (share l (FB o) CB αB αA)) in
    let x = cond (among over_coverage l) (c ⊘ a) c in
    cond (among kept_colour l) (where_covered a x CB) (cond (among cleared l) (where_covered a x f0) x)

abbrev pub steps : Operator → List Step
steps clear = left_out ∷ []
steps A = straight ∷ left_out ∷ []
steps B = straight ∷ left_out ∷ []
steps AoverB = over_coverage ∷ kept_colour ∷ []
steps BoverA = over_coverage ∷ kept_colour ∷ []
steps AinB = left_out ∷ coverage_first ∷ []
steps BinA = straight ∷ left_out ∷ cleared ∷ []
steps AoutB = left_out ∷ coverage_first ∷ []
steps BoutA = straight ∷ left_out ∷ cleared ∷ []
steps AatopB = kept_alpha ∷ []
steps BatopA = kept_alpha ∷ []
steps AxorB = []
steps AplusB = cut ∷ []
