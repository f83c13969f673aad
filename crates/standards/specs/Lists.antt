-- Lists of steps, of either document: whether a step k is among them, the list without it, and those before it. Two steps are compared by their numbers n.
-- Definitions only.
use Rattle.std.specs.Prelude.{ℕ, Bool, true, false, cond, not, ◌&&◌, ◌||◌, List, [], ◌∷◌, eqb}

abbrev pub among_by : {S : Type 0} → (S → ℕ) → S → List S → Bool
among_by n k [] = false
among_by n k (x ∷ l) = eqb (n k) (n x) || among_by n k l

abbrev pub without_by : {S : Type 0} → (S → ℕ) → S → List S → List S
without_by n k [] = []
without_by n k (x ∷ l) = cond (eqb (n k) (n x)) (without_by n k l) (x ∷ without_by n k l)

abbrev pub before_by : {S : Type 0} → (S → ℕ) → S → List S → List S
before_by n k [] = []
before_by n k (x ∷ l) = cond (eqb (n k) (n x)) [] (x ∷ before_by n k l)

-- none stands there twice
abbrev pub distinct_by : {S : Type 0} → (S → ℕ) → List S → Bool
distinct_by n [] = true
distinct_by n (x ∷ l) = not (among_by n x l) && distinct_by n l
