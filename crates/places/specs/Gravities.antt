-- The gravities by their numbers (document 01: "Gravity: 0 none, 1 to 9 in the order of `Gravity`"), those of `Gravity` (gravity_translate.rs 23 to 33),
-- and what each says along the two axes, `x` (composite.rs 536 to 540) and `y` (composite.rs 541 to 545); `None` (composite.rs 533) is the corner (0, 0).
use Rattle.std.specs.Prelude.{List, [], ◌∷◌, ℕ, get_or}
use Rattle.places.specs.declared.Gravity.{Gravity}
use Rattle.places.specs.declared.Gravity.TheVariants.{Unset, NorthWest, North, NorthEast, West, Centre, East, SouthWest, South, SouthEast}
use Rattle.places.specs.declared.Anchor.{Anchor}
use Rattle.places.specs.declared.Anchor.TheVariants.{Near, Middle, Far}

abbrev pub gravities : List Gravity
gravities =
    Unset
    ∷ NorthWest
    ∷ North
    ∷ NorthEast
    ∷ West
    ∷ Centre
    ∷ East
    ∷ SouthWest
    ∷ South
    ∷ SouthEast
    ∷ []

-- the largest number of a gravity
abbrev pub last_gravity : ℕ
last_gravity = 9

-- the gravity of a number; past the last one, Unset
unfoldable pub gravity_at : ℕ → Gravity
gravity_at n = get_or gravities n Unset

-- from left to right
abbrev pub across_of : Gravity → Anchor
across_of Unset = Near
across_of NorthWest = Near
across_of West = Near
across_of SouthWest = Near
across_of North = Middle
across_of Centre = Middle
across_of South = Middle
across_of NorthEast = Far
across_of East = Far
across_of SouthEast = Far

-- from top to bottom
abbrev pub downward_of : Gravity → Anchor
downward_of Unset = Near
downward_of NorthWest = Near
downward_of North = Near
downward_of NorthEast = Near
downward_of West = Middle
downward_of Centre = Middle
downward_of East = Middle
downward_of SouthWest = Far
downward_of South = Far
downward_of SouthEast = Far
