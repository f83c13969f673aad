-- A coordinate along a side of a window, as the code tests it, by its distance from the first; and windows that hold every pixel, or none. Assumes nothing.
use mathlib.Core.Path.{◌≡◌, refl}
use mathlib.Core.Bool.{Bool, true, false, ◌&&◌}
use mathlib.Core.Logic.{◌⊎◌, inl, inr}
use Prim.Native.Nat.{ℕ, ◌+◌, ◌-◌, ◌<◌, ◌≤◌}
use native.Mathlib.Omega.{arith}
use lib.Dec.{leb, ltb}
use borrow.Author.Tests.{leb-true, ltb-true, ltb-false, lt-ltb, le-ltb, le-leb, lt-leb}
use Rattle.layers.specs.declared.Window.{Window}
use Rattle.layers.specs.Windows.{within, holds, HoldsAll}

module _ (first extent at : ℕ) where
  pub below : at < first → false ≡ within first extent at
  below h = rw (lt-leb first at h)

  pub from_first : first ≤ at → ltb (at - first) extent ≡ within first extent at
  from_first h = rw (le-leb first at h) (same (ltb at (first + extent)) refl)
    where
      same : (t : Bool) → ltb at (first + extent) ≡ t → ltb (at - first) extent ≡ t
      same true e = lt-ltb (at - first) extent (omega (arith, ltb-true at (first + extent) e))
      same false e = le-ltb (at - first) extent (omega (arith, ltb-false at (first + extent) e))

  -- a side without a pixel
  pub nowhere : extent ≡ 0 → within first extent at ≡ false
  nowhere e = by (leb first at) refl
    where
      by : (t : Bool) → leb first at ≡ t → (t && ltb at (first + extent)) ≡ false
      by true q = le-ltb at (first + extent) (omega (arith, leb-true first at q))
      by false q = refl

  -- a side that begins at 0 and is long enough
  pub from_start : first ≡ 0 → at < extent → within first extent at ≡ true
  from_start e h = rw (le-leb first at (omega arith), lt-ltb at (first + extent) (omega arith))

-- a window that begins at the first pixel and is as large as the destination
pub large_holds : (w : Window) (dw dh : ℕ) → w.left ≡ 0 → w.top ≡ 0 → dw ≤ w.width → dh ≤ w.height → HoldsAll w dw dh
unfolding holds
large_holds w dw dh left top wide high x y a b =
    rw (from_start w.left w.width x left (omega (arith, wide)), from_start w.top w.height y top (omega (arith, high)))

-- a window without a column, or without a row
pub empty_holds : (w : Window) (x y : ℕ) → (w.width ≡ 0) ⊎ (w.height ≡ 0) → holds w x y ≡ false
unfolding holds
empty_holds w x y (inl e) = rw (nowhere w.left w.width x e)
empty_holds w x y (inr e) = rw (nowhere w.top w.height y e) (and_false (within w.left w.width x))
  where
    and_false : (a : Bool) → (a && false) ≡ false
    and_false true = refl
    and_false false = refl
