-- The source's coordinates: what a test tells of them, and their bounds. Assumes nothing.
use Rattle.std.specs.Prelude.{Option, Some, None}
use mathlib.Core.Path.{◌≡◌, refl, sym, ap, ◌∙◌}
use mathlib.Core.Bool.{Bool, true, false, cond}
use Prim.Native.Nat.{ℕ, suc, ◌+◌, ◌-◌, ◌*◌, ◌/◌, ◌%◌, ◌<◌, ◌≤◌}
use native.Mathlib.Omega.{arith}
use native.Mathlib.Nat.{mod-lt, div-add-mod', mul-le-mul, suc-mul, mul_comm, le_refl}
use lib.Dec.{ltb}
use lib.IntN.{ℤ, pos, negsuc, ◌+ℤ◌, ◌-ℤ◌, ◌*ℤ◌}
use lib.Signed.{shr_z}
use borrow.Author.Tests.{ltb-true, lt-ltb, le-ltb}
use Rattle.places.specs.declared.Corner.{Corner}
use Rattle.places.specs.Bounds.{Under}
use Rattle.places.specs.Indices.{rem_euclid, inside_of, axis_index, tiles, pixel_index, source_index}

-- ---- what the code's tests tell

pub axis_empty : (tile : Bool) (z : ℤ) → None ≡ axis_index tile 0 z
unfolding axis_index
axis_empty true (pos n) = rw (le-ltb n 0 (omega arith))
axis_empty true (negsuc n) = refl
axis_empty false (pos n) = rw (le-ltb n 0 (omega arith))
axis_empty false (negsuc n) = refl

pub axis_tiled : (side : ℕ) (z : ℤ) → (side ≡ 0 → ⊥) → Some (rem_euclid z side) ≡ axis_index true side z
unfolding axis_index
axis_tiled side z h = rw (lt-ltb 0 side (omega arith))

pub axis_untiled : (side : ℕ) (z : ℤ) → inside_of side z ≡ axis_index false side z
unfolding axis_index
axis_untiled side z = refl

-- ---- the remainder is Euclid's: with the quotient rounded down it makes up the number

quotient : (n m : ℕ) → 0 < m → suc (n / m) * m ≡ suc (n + (m - 1 - n % m))
quotient n m h = omega (arith, suc-mul (n / m) m, div-add-mod' n m, mod-lt n {m = m} h)

pub euclid : (z : ℤ) (m : ℕ) → 0 < m → shr_z z m *ℤ pos m +ℤ pos (rem_euclid z m) ≡ z
euclid (pos n) m h = ap pos (div-add-mod' n m)
euclid (negsuc n) m h =
    rw (quotient n m h, lt-ltb (m - 1 - n % m) (suc (n + (m - 1 - n % m))) (omega arith)) (ap negsuc (omega arith))

-- ---- bounds

picked : (t : Bool) (n m : ℕ) → cond t (Some n) None ≡ Some m → (t ≡ true) × (n ≡ m)
picked true n m e = (refl, cc)
picked false n m e = let x : ◌≡◌ {A = ℕ} 0 1 = cc in absurd (omega arith)

rem_below : (z : ℤ) (m : ℕ) → 0 < m → rem_euclid z m < m
rem_below (pos n) m h = mod-lt n {m = m} h
rem_below (negsuc n) m h = omega (arith, mod-lt n {m = m} h)

inside_below : (side : ℕ) (z : ℤ) (n : ℕ) → inside_of side z ≡ Some n → n < side
inside_below side (pos k) n e =
    let p = picked (ltb k side) k n e in
    let b : k < side = ltb-true k side p.0 in
    omega (arith, p.1)
inside_below side (negsuc k) n e = let x : ◌≡◌ {A = ℕ} 0 1 = cc in absurd (omega arith)

axis_by : (t : Bool) (side : ℕ) (z : ℤ) (n : ℕ) → ltb 0 side ≡ t → cond t (Some (rem_euclid z side)) (inside_of side z) ≡ Some n → n < side
axis_by true side z n h e =
    let m : rem_euclid z side ≡ n = cc in
    omega (arith, m, rem_below z side (ltb-true 0 side h))
axis_by false side z n h e = inside_below side z n e

-- a coordinate of the source is below its side
pub axis_below : (tile : Bool) (side : ℕ) (z : ℤ) (n : ℕ) → axis_index tile side z ≡ Some n → n < side
unfolding axis_index
axis_below true side z n e = axis_by (ltb 0 side) side z n refl e
axis_below false side z n e = inside_below side z n e

under : (n m : ℕ) (s : Option ℕ) → m ≤ n → ((i : ℕ) → s ≡ Some i → i < m) → Under n s
under n m (Some i) h b = omega (arith, b i refl)
under n m None h b = tt

-- the same, where a call's answer is that coordinate
pub axis_under : (n : ℕ) {s : Option ℕ} (tile : Bool) (side : ℕ) (z : ℤ) → s ≡ axis_index tile side z → side ≤ n → Under n s
axis_under n {s} tile side z e h = under n side s h (λ i k. axis_below tile side z i (sym e ∙ k))

-- an index lies on the row and the column that it is made of
pub record OnSource (tile : Bool) (sw sh : ℕ) (corner : Corner) (x y n : ℕ) : Type 0 where
  pub column : ℕ
  pub row : ℕ
  pub column_below : column < sw
  pub row_below : row < sh
  pub index : row * sw + column ≡ n

module _ (tile : Bool) (sw sh : ℕ) (corner : Corner) (x y n : ℕ) where
  by_indices : (a b : Option ℕ) → axis_index (tiles tile sw sh) sw (pos x -ℤ corner.x) ≡ a → axis_index (tiles tile sw sh) sh (pos y -ℤ corner.y) ≡ b → pixel_index sw a b ≡ Some n → OnSource tile sw sh corner x y n
  by_indices (Some i) (Some j) p q e = record {
    column = i;
    row = j;
    column_below = axis_below (tiles tile sw sh) sw (pos x -ℤ corner.x) i p;
    row_below = axis_below (tiles tile sw sh) sh (pos y -ℤ corner.y) j q;
    index = cc;
  }
  by_indices (Some i) None p q e = let z : ◌≡◌ {A = ℕ} 0 1 = cc in absurd (omega arith)
  by_indices None b p q e = let z : ◌≡◌ {A = ℕ} 0 1 = cc in absurd (omega arith)

  pub on_source : source_index tile sw sh corner x y ≡ Some n → OnSource tile sw sh corner x y n
  unfolding source_index
  on_source e = by_indices _ _ refl refl e

  -- an index is below the number of the source's pixels
  pub index_below : source_index tile sw sh corner x y ≡ Some n → n < sw * sh
  index_below e =
      let o = on_source e in
      let up : suc o.row * sw ≤ sh * sw = mul-le-mul o.row_below (le_refl sw) in
      let z : n ≡ o.row * sw + o.column = sym o.index in
      rw mul_comm (rw z (omega (arith, up, suc-mul o.row sw, o.column_below)))
