-- A part of a list, as the code cuts it: from a place to the place n further on. Assumes nothing.
use mathlib.Core.Path.{◌≡◌, ap, ◌∙◌}
use mathlib.Core.List.{List}
use Prim.Native.Nat.{ℕ, ◌+◌, ◌-◌, ◌≤◌}
use native.Mathlib.Omega.{arith}
use lib.ListN.{length, take, drop, length-drop}
use lib.Seq.{length-take-le}

pub part : {A : Type 0} (xs : List A) (from n : ℕ) → from + n ≤ length xs → (take (from + n - from) (drop from xs) ≡ take n (drop from xs)) × (length (take (from + n - from) (drop from xs)) ≡ n)
part xs from n h =
    let e : from + n - from ≡ n = omega arith in
    let same = ap (λ (m : ℕ). take m (drop from xs)) e in
    (same, ap length same ∙ length-take-le n (drop from xs) (rw length-drop (omega arith)))
