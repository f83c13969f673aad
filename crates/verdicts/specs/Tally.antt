-- How the lines that are answered right, or wrong, are counted: a number for each kind of line.
use Rattle.std.specs.Prelude.{Bool, cond, List, ℕ, ◌+◌, ltb, get_or, set}
use Rattle.verdicts.specs.declared.tally.Tally.{Tally}

-- one more, as far as 64 binary digits go
abbrev pub raised_of : ℕ → ℕ
raised_of n = cond (ltb n 18446744073709551615) (n + 1) n

-- the numbers after a line of a kind, which counts or does not
abbrev pub tallied : Bool → ℕ → List ℕ → List ℕ
tallied counts kind tallies = cond counts (set tallies kind (raised_of (get_or tallies kind 0))) tallies

-- the code keeps the two numbers of a kind side by side
abbrev pub nothing : Tally
nothing = record { right = 0; wrong = 0 }

abbrev pub one_more : Bool → Tally → Tally
one_more isRight t = cond isRight (record t { right = raised_of t.right }) (record t { wrong = raised_of t.wrong })

abbrev pub kind_counted : Bool → ℕ → List Tally → List Tally
kind_counted isRight kind tallies = set tallies kind (one_more isRight (get_or tallies kind nothing))
