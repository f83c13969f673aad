-- Equality as demand 2 counts it: any two NaNs are equal (`lib.Ieee` has one `nan`), and so are the two zeros. Definitions only.
use Rattle.std.specs.Prelude.{◌≡◌, false, zero, suc, pos, Float}
use Rattle.std.specs.Float.{nan, inf, fin}

-- the value, with +0 for -0
abbrev pub plain : Float → Float
plain nan = nan
plain (inf s) = inf s
plain (fin s zero e) = fin false zero (pos zero)
plain (fin s (suc m) e) = fin s (suc m) e

abbrev pub Same : Float → Float → Type 0
Same x y = plain x ≡ plain y

-- one of the two zeros
abbrev pub Zero : Float → Type 0
Zero x = plain x ≡ fin false zero (pos zero)
