-- A run of one pixel of a layer that is no map, on its own words. Assumes nothing.
use mathlib.Core.Path.{◌≡◌, refl, ap, ◌∙◌}
use mathlib.Core.Bool.{false}
use mathlib.Core.List.{List, [], ◌∷◌}
use Prim.Native.Nat.{ℕ, ◌/◌, ◌%◌}
use native.Mathlib.Nat.{add-zero}
use native.Mathlib.Omega.{arith}
use lib.ListN.{drop}
use Rattle.pictures.specs.declared.Rgba.{Rgba}
use Rattle.pictures.specs.declared.Words.{Words}
use Rattle.pictures.specs.Widen.{rgba_at, values_of}
use Rattle.pictures.specs.Steps.{filled, put_of, values_at}
use Rattle.pictures.proofs.FlatWords.{flat_pixel}
use Rattle.compose.specs.Plans.{result_by, composed_by, pixels_from}
use Rattle.compose.specs.declared.Plan.{Plan}
use Rattle.spots.specs.Steps.{painted_by}

-- without a map the picture beneath is not read
no_picture : (p : Plan) (source : List ℕ) (f g : ℕ → Rgba) (own : Words) (x y : ℕ) → p.map ≡ false → composed_by p source f own x y ≡ composed_by p source g own x y
unfolding composed_by result_by
no_picture p source f g own x y m = rw m

-- a pixel that was put into a list of one
one_put : (own : Words) → rgba_at (put_of (0 ∷ 0 ∷ 0 ∷ 0 ∷ []) 0 own) 4 0 ≡ own
unfolding rgba_at
one_put own = refl

pub painted_one : (p : Plan) (source : List ℕ) (own : Words) (j : ℕ) (none lent out after : List ℕ) → p.map ≡ false
    → lent ≡ put_of (0 ∷ 0 ∷ 0 ∷ 0 ∷ []) 0 own
    → after ≡ filled (pixels_from p source (values_at none 4) (rgba_at lent 4) j) 1 out
    → rgba_at after 4 0 ≡ painted_by p source own j
painted_one p source own j none lent out after m l a =
    let f : ℕ → Words = pixels_from p source (values_at none 4) (rgba_at lent 4) j in
    ap (λ (x : List ℕ). rgba_at x 4 0) a
    ∙ flat_pixel f 0 1 (drop 4 out) 0 (omega arith)
    ∙ ap (λ (n : ℕ). composed_by p source (values_at none 4) (rgba_at lent 4 0) (n % p.dw) (n / p.dw)) (add-zero j)
    ∙ ap (λ (w : Words). composed_by p source (values_at none 4) w (j % p.dw) (j / p.dw)) (ap (λ (x : List ℕ). rgba_at x 4 0) l ∙ one_put own)
    ∙ no_picture p source (values_at none 4) (λ i. values_of own) own (j % p.dw) (j / p.dw) m
