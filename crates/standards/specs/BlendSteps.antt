-- W3C's formula (Compositing.antt) by its steps. A step is one place of the formula that the compositor writes otherwise; `colour_by` and `alpha_by` are the
-- formula with the steps of a list exchanged, so that with none they are what W3C prints (`colour_printed` and `alpha_printed`, proofs/BlendSteps.antt).
-- `steps` lists each mode's: docs/DIFFERENCES.md has a section for each of them, and Rows.antt an input. Definitions only.
use Rattle.std.specs.Prelude.{ℕ, Bool, cond, List, [], ◌∷◌, ◌++◌, Float}
use Rattle.std.specs.Float.Ieee.{lt, le, eq}
use Rattle.float_steps.specs.Notation.{◌⊕◌, ◌⊖◌, ◌⊗◌, ◌⊘◌, f0, f1, f2, half}
use Rattle.float_steps.specs.Order.{smaller_of, larger_of, unit_of}
use Rattle.float_steps.specs.Sign.{abs_of}
use Rattle.standards.specs.Lists.{among_by}
use Rattle.standards.specs.Compositing.{Mode, multiply, screen, overlay, darken, lighten, color_dodge, color_burn, hard_light, soft_light, difference, exclusion, multiply_b, screen_b, soft_light_b}

-- By the sections of docs/DIFFERENCES.md: document 01's own, 3 to 7 (`premultiplied` is so for Darken; for Exclusion it is section 20); alpha, 15; the
-- mixing, 16; the clamps, 17; nothing covered, 18; the blend functions, 19. A step that has its place inside another one does nothing without it:
-- `zero_uncovered` inside `divided`; `dropped`, the last three of the mixing, and, in `premultiplied`, that the blended term is not multiplied by the alphas
-- again, inside `distributed`.
pub data Step : Type 0 where
  black_first premultiplied dropped second_at_half divided union_alpha distributed source_grouped blend_grouped uncovered_first clamped_blend clamped_result zero_uncovered below_zero above_one source_doubled : Step

abbrev pub number : Step → ℕ
number black_first = 0
number premultiplied = 1
number dropped = 2
number second_at_half = 3
number divided = 4
number union_alpha = 5
number distributed = 6
number source_grouped = 7
number blend_grouped = 8
number uncovered_first = 9
number clamped_blend = 10
number clamped_result = 11
number zero_uncovered = 12
number below_zero = 13
number above_one = 14
number source_doubled = 15

abbrev pub among : Step → List Step → Bool
among k l = among_by number k l

-- ---- B(Cb, Cs)
-- HardLight and Overlay: "at most 0.5" is "below 0.5"
unfoldable pub hard_light_by : List Step → Float → Float → Float
hard_light_by l Cb Cs = cond (cond (among second_at_half l) (lt Cs half) (le Cs half)) (multiply_b Cb (f2 ⊗ Cs)) (screen_b Cb (f2 ⊗ Cs ⊖ f1))

-- "is 0" is "at most 0", and "is 1" is "at least 1"
abbrev pub is_zero : List Step → Float → Bool
is_zero l C = cond (among below_zero l) (le C f0) (eq C f0)

abbrev pub is_one : List Step → Float → Bool
is_one l C = cond (among above_one l) (le f1 C) (eq C f1)

unfoldable pub color_dodge_by : List Step → Float → Float → Float
color_dodge_by l Cb Cs = cond (is_zero l Cb) f0 (cond (is_one l Cs) f1 (smaller_of f1 (Cb ⊘ (f1 ⊖ Cs))))

-- a black source is tested before a white backdrop
unfoldable pub color_burn_by : List Step → Float → Float → Float
color_burn_by l Cb Cs =
    let burnt = f1 ⊖ smaller_of f1 ((f1 ⊖ Cb) ⊘ Cs) in
    cond (among black_first l) (cond (is_zero l Cs) f0 (cond (is_one l Cb) f1 burnt)) (cond (is_one l Cb) f1 (cond (is_zero l Cs) f0 burnt))

-- the source's colour is doubled, for the backdrop's
abbrev pub exclusion_by : List Step → Float → Float → Float
exclusion_by l Cb Cs = Cb ⊕ Cs ⊖ cond (among source_doubled l) (f2 ⊗ Cs ⊗ Cb) (f2 ⊗ Cb ⊗ Cs)

abbrev pub blend_by : List Step → Mode → Float → Float → Float
blend_by l multiply Cb Cs = multiply_b Cb Cs
blend_by l screen Cb Cs = screen_b Cb Cs
blend_by l overlay Cb Cs = hard_light_by l Cs Cb
blend_by l darken Cb Cs = smaller_of Cb Cs
blend_by l lighten Cb Cs = larger_of Cb Cs
blend_by l color_dodge Cb Cs = color_dodge_by l Cb Cs
blend_by l color_burn Cb Cs = color_burn_by l Cb Cs
blend_by l hard_light Cb Cs = hard_light_by l Cb Cs
blend_by l soft_light Cb Cs = soft_light_b Cb Cs
blend_by l difference Cb Cs = abs_of (Cb ⊖ Cs)
blend_by l exclusion Cb Cs = exclusion_by l Cb Cs

-- ---- co, of a blended colour v
-- αs × ((1 − αb) × Cs): the product αs × (1 − αb) is taken first
abbrev pub source_term : List Step → Float → Float → Float → Float
source_term l Cs αs αb = cond (among source_grouped l) (αs ⊗ (f1 ⊖ αb) ⊗ Cs) (αs ⊗ ((f1 ⊖ αb) ⊗ Cs))

-- αs × (αb × v): the product αs × αb is taken first; or v alone, where the colours that it blends are multiplied by their alphas already (`argument`)
abbrev pub blend_term : List Step → Float → Float → Float → Float
blend_term l v αs αb = cond (among premultiplied l) v (cond (among blend_grouped l) (αs ⊗ αb ⊗ v) (αs ⊗ (αb ⊗ v)))

abbrev pub backdrop_term : Float → Float → Float → Float
backdrop_term αs Cb αb = (f1 ⊖ αs) ⊗ αb ⊗ Cb

-- αs × Cs' + (1 − αs) × αb × Cb: αs is multiplied into both terms of Cs', which then is no sum to be clamped; of the three terms, the two in which one picture
-- lies alone are dropped, or are added first
abbrev pub mixed_by : List Step → Float → Float → Float → Float → Float → Float
mixed_by l v Cs αs Cb αb =
    let x = source_term l Cs αs αb in
    let y = blend_term l v αs αb in
    let z = backdrop_term αs Cb αb in
    cond (among distributed l) (cond (among dropped l) y (cond (among uncovered_first l) (y ⊕ (x ⊕ z)) (x ⊕ y ⊕ z))) (αs ⊗ unit_of ((f1 ⊖ αb) ⊗ Cs ⊕ αb ⊗ v) ⊕ z)

-- ---- what is stored
abbrev pub alpha_by : List Step → Float → Float → Float
alpha_by l αs αb = cond (among union_alpha l) (αs ⊕ αb ⊖ αs ⊗ αb) (αs ⊕ αb ⊗ (f1 ⊖ αs))

-- co over alpha, and 0 where alpha is not above 0
abbrev pub stored_by : List Step → Float → Float → Float
stored_by l x a = cond (among divided l) (cond (among zero_uncovered l) (cond (lt f0 a) (x ⊘ a) f0) (x ⊘ a)) x

abbrev pub clamp_by : Step → List Step → Float → Float
clamp_by k l x = cond (among k l) (unit_of x) x

-- what B is given: colours that are multiplied by their alphas (`blend_term` leaves these out then)
abbrev pub argument : List Step → Float → Float → Float
argument l C α = cond (among premultiplied l) (C ⊗ α) C

-- the colour, with the blend function f of backdrop and source, and with the mode's own
abbrev pub colour_with : List Step → (Float → Float → Float) → Float → Float → Float → Float → Float
colour_with l f Cs αs Cb αb =
    let v = clamp_by clamped_blend l (f (argument l Cb αb) (argument l Cs αs)) in
    clamp_by clamped_result l (stored_by l (mixed_by l v Cs αs Cb αb) (alpha_by l αs αb))

abbrev pub colour_by : List Step → Mode → Float → Float → Float → Float → Float
colour_by l m Cs αs Cb αb = colour_with l (blend_by l m) Cs αs Cb αb

-- ---- the steps of each mode, in the order in which docs/DIFFERENCES.md applies them
abbrev pub regrouped : List Step
regrouped = distributed ∷ source_grouped ∷ blend_grouped ∷ uncovered_first ∷ []

-- of the modes that store co as it is; and of those that store it over alpha, after `divided` and what their blend functions have
abbrev pub as_is : List Step
as_is = regrouped ++ (clamped_blend ∷ clamped_result ∷ union_alpha ∷ [])

abbrev pub over_alpha : List Step
over_alpha = regrouped ++ (union_alpha ∷ zero_uncovered ∷ clamped_result ∷ [])

abbrev pub steps : Mode → List Step
steps multiply = as_is
steps screen = as_is
steps overlay = divided ∷ second_at_half ∷ over_alpha
steps darken = distributed ∷ premultiplied ∷ source_grouped ∷ uncovered_first ∷ clamped_blend ∷ clamped_result ∷ union_alpha ∷ []
steps lighten = as_is
steps color_dodge = divided ∷ below_zero ∷ above_one ∷ over_alpha
steps color_burn = divided ∷ black_first ∷ below_zero ∷ above_one ∷ over_alpha
steps hard_light = divided ∷ second_at_half ∷ over_alpha
steps soft_light = divided ∷ over_alpha
steps difference = as_is
steps exclusion = distributed ∷ dropped ∷ premultiplied ∷ source_doubled ∷ clamped_result ∷ union_alpha ∷ []
