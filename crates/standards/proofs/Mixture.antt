-- Two alphas x and y, counted in a unit of which M is 1: the sum of their three rounded shares x y, x (1 - y) and y (1 - x) exceeds M by at most 4 E, where
-- 4 E is the distance of neighbours below M, so that the sum rounds to at most 1. A part of that proof that is about whole numbers alone: H is half of M,
-- and each rounding is given by what it may err. Assumes nothing.
use mathlib.Core.Path.{◌≡◌, refl, sym, ap, ◌∙◌, subst}
use mathlib.Core.Logic.{◌⊎◌, inl, inr}
use mathlib.Core.Bool.{Bool, true, false}
use Prim.Native.Nat.{ℕ, suc, ◌+◌, ◌-◌, ◌*◌, ◌≤◌, ◌<◌}
use native.Mathlib.Nat.{le_trans, le_of_eq, lt_of_le_of_lt, lt_of_lt_of_le, add-mul, mul-add, mul_comm, mul_assoc, mul_right_comm, mul-pos, mul-le-mul_left, mul-le-mul_right, mul-lt-mul_of_pos_right, lt_of_mul-lt-mul_right, le_of_mul-le-mul_right, lt_of_not-le, not-le_of_lt}
use native.Mathlib.Omega.{arith}
use lib.Dec.{ltb}
use borrow.Author.Tests.{ltb-true, ltb-false}

module _ (E U H M : ℕ) where
  -- a number of the format: below half by two E at least, or a multiple of U = 4 E
  abbrev pub Fine : ℕ → Type 0
  Fine n = (n + 2 * E ≤ H) ⊎ ((k : ℕ) × (n ≡ k * U))

  -- g is a b / M, rounded
  pub record Product (a b g : ℕ) : Type 0 where
    pub le_l : g ≤ a
    pub le_r : g ≤ b
    pub whole : g * M * 2 ≤ a * b * 2 + E * M * 4
    pub half : a * b < M * H → g * M * 2 ≤ a * b * 2 + E * M * 2
    pub quarter : a * b * 2 < M * H → g * M * 2 ≤ a * b * 2 + E * M
    pub fine : Fine g

  -- X is M - x, rounded
  pub record Complement (x X : ℕ) : Type 0 where
    pub most : X ≤ M
    pub near : X + x ≤ M + 2 * E
    pub exact : H ≤ x → X + x ≡ M
    pub upper : x < H → H ≤ X
    pub fine : Fine X

  -- t is a + b, rounded
  pub record Sum (a b t : ℕ) : Type 0 where
    pub whole : a + b ≤ M → t ≤ a + b + 2 * E
    pub half : a + b < H → t ≤ a + b + E
    pub least : a + b ≤ H + 2 * E → t ≤ H

  module _ (e0 : 0 < E) (eU : U ≡ 4 * E) (eH : H ≡ 33554432 * E) (eM : M ≡ 2 * H) where
    pos_m : 0 < M
    pos_m = omega arith

    -- ---- multiples of U
    many : (k : ℕ) → k * U ≡ k * E * 4
    many k = ap (λ (z : ℕ). k * z) eU ∙ ap (λ (z : ℕ). k * z) (mul_comm 4 E) ∙ sym (mul_assoc k E 4)

    -- below n U by U at least
    step : (k n : ℕ) → k * U < n * U → k * U + U ≤ n * U
    step k n h = le_trans (le_of_eq (suc_is k)) (mul-le-mul_right U (lt_of_mul-lt-mul_right U h))
      where
        suc_is : (k : ℕ) → k * U + U ≡ suc k * U
        suc_is k = sym (native.Mathlib.Nat.suc-mul k U)

    half_is : H ≡ 8388608 * U
    half_is = omega arith

    one_is : M ≡ 16777216 * U
    one_is = omega arith

    below_half : (n : ℕ) → Fine n → n < H → n + 2 * E ≤ H
    below_half n (inl h) l = h
    below_half n (inr (k, e)) l =
        let s = step k 8388608 (lt_of_lt_of_le (lt_of_le_of_lt (le_of_eq (sym e)) l) (le_of_eq half_is)) in
        omega arith

    from_half : (n : ℕ) → Fine n → H ≤ n → (k : ℕ) × (n ≡ k * U)
    from_half n (inl h) l = absurd (omega arith)
    from_half n (inr m) l = m

    -- ---- dividing by M
    cancel : (p q x k : ℕ) → p * M + q * M ≤ x * M + k * M → p + q ≤ x + k
    cancel p q x k h = le_of_mul-le-mul_right (le_trans (le_of_eq (add-mul p q M)) (le_trans h (le_of_eq (sym (add-mul x k M))))) pos_m

    times : (n : ℕ) → E * n * M ≡ E * M * n
    times n = mul_right_comm E n M

    below : (a b : ℕ) → a ≤ M → b < H → a * b < M * H
    below a b h k = lt_of_le_of_lt (mul-le-mul_right b h) (lt_of_le_of_lt (le_of_eq (mul_comm M b)) (lt_of_lt_of_le (mul-lt-mul_of_pos_right k pos_m) (le_of_eq (mul_comm H M))))

    below' : (a b : ℕ) → a < M → b ≤ H → a * b < M * H
    below' a b h k = lt_of_le_of_lt (mul-le-mul_left a k) (mul-lt-mul_of_pos_right h (omega arith))

    -- x y + x Y, where y + Y is M but for what Y's rounding adds
    spread : (x y Y : ℕ) → Y + y ≤ M + 2 * E → x * y + x * Y ≤ x * M + x * E * 2
    spread x y Y h =
        le_trans (le_of_eq (sym (mul-add x y Y))) (le_trans (mul-le-mul_left x (turned h)) (le_of_eq (mul-add x M (E * 2) ∙ ap (λ (z : ℕ). x * M + z) (sym (mul_assoc x E 2)))))
      where
        turned : Y + y ≤ M + 2 * E → y + Y ≤ M + E * 2
        turned h = omega arith

    spread_exact : (x y Y : ℕ) → Y + y ≡ M → x * y + x * Y ≡ x * M
    spread_exact x y Y h = sym (mul-add x y Y) ∙ ap (λ (z : ℕ). x * z) (native.Mathlib.Nat.add_comm y Y ∙ h)

    scaled : (x n : ℕ) → x * n ≤ M → x * E * n ≤ E * M
    scaled x n h = le_trans (le_of_eq (mul_right_comm x E n)) (le_trans (mul-le-mul_right E h) (le_of_eq (mul_comm M E)))

    -- of two numbers and their complements, the like ones have the larger products
    rearranged : (x y X Y : ℕ) → X ≤ x → Y ≤ y → x * Y + y * X ≤ x * y + X * Y
    rearranged x y X Y h k =
        subst (λ (z : ℕ). z * Y + y * X ≤ z * y + X * Y) (native.Mathlib.Nat.add-sub_of_le h)
        (subst (λ (z : ℕ). (X + (x - X)) * Y + z * X ≤ (X + (x - X)) * z + X * Y) (native.Mathlib.Nat.add-sub_of_le k) (expand X (x - X) Y (y - Y)))
      where
        expand : (X i Y j : ℕ) → (X + i) * Y + (Y + j) * X ≤ (X + i) * (Y + j) + X * Y
        expand X i Y j =
            let a = add-mul X i Y in
            let b = add-mul Y j X in
            let c = mul-add (X + i) Y j in
            let d = add-mul X i j in
            let e = mul_comm Y X in
            let f = mul_comm j X in
            omega arith

    -- ---- x < 1/2, and y with it
    both_small : (x y X Y p q r q' r' t : ℕ) → x < H → y ≤ x → Fine x → Fine y → Complement y Y → Product x y p → Product x Y q → Product y X r → q' ≤ q → r' ≤ r → Sum q' r' t → p + t ≤ M + 4 * E
    both_small x y X Y p q r q' r' t hx hy fx fy cY pp pq pr lq lr st =
        let ax = below_half x fx hx in
        let ay = below_half y fy (omega arith) in
        let P = pp.half (subst (λ (z : ℕ). z < M * H) (mul_comm y x) (below y x (omega arith) hx)) in
        let Q = pq.half (subst (λ (z : ℕ). z < M * H) (mul_comm Y x) (below Y x cY.most hx)) in
        let D : x * y + x * Y ≤ x * M + x * E * 2 = spread x y Y cY.near in
        let F : x * E * 2 ≤ E * M = scaled x 2 (omega arith) in
        let S : p + q ≤ x + E * 3 = cancel p q x (E * 3) (subst (λ (z : ℕ). p * M + q * M ≤ x * M + z) (sym (times 3)) (omega arith)) in
        let R = pr.le_l in
        let L = pq.le_l in
        let W = st.whole (omega arith) in
        omega arith

    -- ---- x = 1
    whole_source : (x y X Y p q r q' r' t : ℕ) → x ≡ M → y ≤ M → Complement x X → Complement y Y → Product x y p → Product x Y q → Product y X r → q' ≤ q → r' ≤ r → Sum q' r' t → p + t ≤ M + 4 * E
    whole_source x y X Y p q r q' r' t e hy cX cY pp pq pr lq lr st =
        let a = cX.exact (omega arith) in
        let b = pr.le_r in
        let c = pq.le_r in
        let d = pp.le_r in
        let m = cY.most in
        let n = cY.near in
        let w = st.whole (omega arith) in
        omega arith

    -- ---- both at least 1/2
    both_large : (x y X Y p q r q' r' t : ℕ) → x < M → y ≤ x → H ≤ y → Complement x X → Complement y Y → Product x y p → Product x Y q → Product y X r → q' ≤ q → r' ≤ r → Sum q' r' t → p + t ≤ M + 4 * E
    both_large x y X Y p q r q' r' t hx hy ly cX cY pp pq pr lq lr st =
        let a : X + x ≡ M = cX.exact (omega arith) in
        let b : Y + y ≡ M = cY.exact ly in
        let P = pp.whole in
        let Q = pq.half (below' x Y hx (omega arith)) in
        let D = spread_exact x y Y b in
        let S : p + q ≤ x + E * 3 = cancel p q x (E * 3) (subst (λ (z : ℕ). p * M + q * M ≤ x * M + z) (sym (times 3)) (omega arith)) in
        let R = pr.le_r in
        go (ltb (q' + r') H) (ltb-true (q' + r') H) (ltb-false (q' + r') H) a S R
      where
        middle : X + x ≡ M → Y + y ≡ M → q + r ≤ H + E * 2
        middle a b =
            let Q = pq.half (below' x Y hx (omega arith)) in
            let R = pr.half (below' y X (omega arith) (omega arith)) in
            let G = rearranged x y X Y (omega arith) (omega arith) in
            let T : x * y + x * Y + (X * y + X * Y) ≡ M * M = four x y X Y a b in
            let C = mul_comm X y in
            let K : M * M ≡ H * M * 2 = ap (λ (z : ℕ). z * M) (eM ∙ mul_comm 2 H) ∙ mul_right_comm H 2 M in
            cancel q r H (E * 2) (subst (λ (z : ℕ). q * M + r * M ≤ H * M + z) (sym (times 2)) (omega arith))
          where
            four : (x y X Y : ℕ) → X + x ≡ M → Y + y ≡ M → x * y + x * Y + (X * y + X * Y) ≡ M * M
            four x y X Y a b =
                (λ i. sym (mul-add x y Y) i + sym (mul-add X y Y) i) ∙ sym (add-mul x X (y + Y)) ∙ (λ i. (native.Mathlib.Nat.add_comm x X ∙ a) i * (native.Mathlib.Nat.add_comm y Y ∙ b) i)

        go : (c : Bool) → (c ≡ true → q' + r' < H) → (c ≡ false → H ≤ q' + r') → X + x ≡ M → p + q ≤ x + E * 3 → r ≤ X → p + t ≤ M + 4 * E
        go true h k a S R = let w = st.half (h refl) in omega arith
        go false h k a S R =
            let m = middle a (cY.exact ly) in
            let w = st.least (omega arith) in
            let l = k refl in
            omega arith

    -- ---- y < 1/2 ≤ x < 1
    module _ (x y X Y p q r q' r' t : ℕ) (hx : x < M) (lx : H ≤ x) (hy : y < H) (fx : Fine x) (fy : Fine y) (cX : Complement x X) (cY : Complement y Y) (pp : Product x y p) (pq : Product x Y q) (pr : Product y X r) (lq : q' ≤ q) (lr : r' ≤ r) (st : Sum q' r' t) where
      rest : X + x ≡ M
      rest = cX.exact lx

      -- y X is at most X / 2
      small_part : r * 2 ≤ X + E
      small_part =
          let a = rest in
          let Q = pr.quarter (under y X hy (omega arith)) in
          let T : y * X * 2 ≤ X * M = le_trans (le_of_eq (mul_right_comm y X 2)) (le_trans (mul-le-mul_right X (twice hy)) (le_of_eq (mul_comm M X))) in
          subst (λ (z : ℕ). z ≤ X + E) (two r) (cancel r r X E (omega arith))
        where
          twice : y < H → y * 2 ≤ M
          twice h = omega arith

          two : (r : ℕ) → r + r ≡ r * 2
          two r = omega arith

          under : (y X : ℕ) → y < H → X ≤ H → y * X * 2 < M * H
          under y X h k =
              lt_of_le_of_lt (le_of_eq (mul_right_comm y X 2)) (lt_of_le_of_lt (mul-le-mul_left (y * 2) k) (mul-lt-mul_of_pos_right (dbl h) (omega arith)))
            where
              dbl : y < H → y * 2 < M
              dbl h = omega arith

      -- 1 - x is two steps or more
      far : 8 * E ≤ X → p + t ≤ M + 4 * E
      far h =
          let a = rest in
          let P = pp.half (below x y (omega arith) hy) in
          let Q = pq.whole in
          let D = spread x y Y cY.near in
          let F : x * E ≤ E * M = le_trans (mul-le-mul_right E (weak hx)) (le_of_eq (mul_comm M E)) in
          let S : p + q ≤ x + E * 5 = cancel p q x (E * 5) (subst (λ (z : ℕ). p * M + q * M ≤ x * M + z) (sym (times 5)) (omega arith)) in
          let R = small_part in
          let l = pq.le_l in
          let m = pr.le_r in
          let w = st.whole (omega arith) in
          omega arith
        where
          weak : x < M → x ≤ M
          weak h = omega arith

      -- or one step: then what is lost to it in x Y is a step too
      lost : X ≡ U → p + q + 2 * E ≤ M
      lost e = go (ltb Y (H + U)) (ltb-true Y (H + U)) (ltb-false Y (H + U)) (from_half Y cY.fine (cY.upper hy))
        where
          a : p ≤ y
          a = pp.le_r

          b : q ≤ Y
          b = pq.le_r

          c : y + 2 * E ≤ H
          c = below_half y fy hy

          n : Y + y ≤ M + 2 * E
          n = cY.near

          product : x * Y + U * Y ≡ M * Y
          product = sym (add-mul x U Y) ∙ ap (λ (z : ℕ). z * Y) (native.Mathlib.Nat.add_comm x U ∙ ap (λ (z : ℕ). z + x) (sym e) ∙ rest)

          less : H + U ≤ Y → q < Y
          less h = lt_of_not-le (λ (g : Y ≤ q). not-le_of_lt (room h) (mul-le-mul_right M g))
            where
              room : H + U ≤ Y → q * M < Y * M
              room h =
                  let Q = pq.whole in
                  let D = product in
                  let F : U * (H + U) ≤ U * Y = mul-le-mul_left U h in
                  let G : U * (H + U) ≡ U * H + U * U = mul-add U H U in
                  let I : U * H ≡ E * M * 2 = ap (λ (z : ℕ). z * H) eU ∙ ap (λ (z : ℕ). z * H) (mul_comm 4 E) ∙ mul_assoc E 4 H ∙ ap (λ (z : ℕ). E * z) (dbl H) ∙ sym (mul_assoc E (2 * H) 2) ∙ ap (λ (z : ℕ). E * z * 2) (sym eM) in
                  let J : 0 < U * U = mul-pos (omega arith) (omega arith) in
                  let K = mul_comm M Y in
                  omega arith
                where
                  dbl : (H : ℕ) → 4 * H ≡ 2 * H * 2
                  dbl H = omega arith

          under : H + U ≤ Y → (k : ℕ) × (Y ≡ k * U) → q + U ≤ Y
          under h (k, f) = each pq.fine
            where
              each : Fine q → q + U ≤ Y
              each (inl g) = omega arith
              each (inr (j, g)) =
                  le_trans (le_of_eq (ap (λ (z : ℕ). z + U) g)) (le_trans (step j k (lt_of_le_of_lt (le_of_eq (sym g)) (lt_of_lt_of_le (less h) (le_of_eq f)))) (le_of_eq (sym f)))

          go : (s : Bool) → (s ≡ true → Y < H + U) → (s ≡ false → H + U ≤ Y) → (k : ℕ) × (Y ≡ k * U) → p + q + 2 * E ≤ M
          go true h g (k, f) =
              omega (arith, a, b, c, at_half k f (h refl))
            where
              at_half : (k : ℕ) → Y ≡ k * U → Y < H + U → Y ≤ H
              at_half k f h =
                  le_trans (le_of_eq f) (le_trans (mul-le-mul_right U (down_one k (lt_of_mul-lt-mul_right U (lt_of_le_of_lt (le_of_eq (sym f)) (lt_of_lt_of_le h (le_of_eq (ap (λ (z : ℕ). z + U) half_is ∙ more))))))) (le_of_eq (sym half_is)))
                where
                  more : 8388608 * U + U ≡ 8388609 * U
                  more = omega arith

                  down_one : (k : ℕ) → k < 8388609 → k ≤ 8388608
                  down_one k h = omega arith
          go false h g m = omega (arith, a, n, under (g refl) m)

      near : X ≡ U → p + t ≤ M + 4 * E
      near e =
          let a = rest in
          let l = lost e in
          let R = small_part in
          let b = pq.le_l in
          let m = pr.le_r in
          let w = st.whole (omega arith) in
          omega arith

      astride : p + t ≤ M + 4 * E
      astride = by (from_half x fx lx)
        where
          go : {k : ℕ} (b : Bool) → (b ≡ true → k < 16777215) → (b ≡ false → 16777215 ≤ k) → x ≡ k * U → k < 16777216 → p + t ≤ M + 4 * E
          go {k} true h g e l =
              let i = mul-le-mul_right U (h refl) in
              let s = native.Mathlib.Nat.suc-mul k U in
              let a = rest in
              far (omega arith)
          go {k} false h g e l =
              let i = mul-le-mul_right U (g refl) in
              let j = mul-le-mul_right U l in
              let s = native.Mathlib.Nat.suc-mul k U in
              let a = rest in
              near (omega arith)

          by : (k : ℕ) × (x ≡ k * U) → p + t ≤ M + 4 * E
          by (k, e) = go (ltb k 16777215) (ltb-true k 16777215) (ltb-false k 16777215) e (lt_of_mul-lt-mul_right U (lt_of_le_of_lt (le_of_eq (sym e)) (lt_of_lt_of_le hx (le_of_eq one_is))))

    -- ---- every x and y
    ordered : (x y X Y p q r q' r' t : ℕ) → x ≤ M → y ≤ x → Fine x → Fine y → Complement x X → Complement y Y → Product x y p → Product x Y q → Product y X r → q' ≤ q → r' ≤ r → Sum q' r' t → p + t ≤ M + 4 * E
    ordered x y X Y p q r q' r' t hx hy fx fy cX cY pp pq pr lq lr st = first (ltb x H) (ltb-true x H) (ltb-false x H)
      where
        third : (b : Bool) → (b ≡ true → y < H) → (b ≡ false → H ≤ y) → H ≤ x → x < M → p + t ≤ M + 4 * E
        third true h k l m = astride x y X Y p q r q' r' t m l (h refl) fx fy cX cY pp pq pr lq lr st
        third false h k l m = both_large x y X Y p q r q' r' t m hy (k refl) cX cY pp pq pr lq lr st

        second : (b : Bool) → (b ≡ true → x < M) → (b ≡ false → M ≤ x) → H ≤ x → p + t ≤ M + 4 * E
        second true h k l = third (ltb y H) (ltb-true y H) (ltb-false y H) l (h refl)
        second false h k l = let m = k refl in whole_source x y X Y p q r q' r' t (omega arith) (omega arith) cX cY pp pq pr lq lr st

        first : (b : Bool) → (b ≡ true → x < H) → (b ≡ false → H ≤ x) → p + t ≤ M + 4 * E
        first true h k = both_small x y X Y p q r q' r' t (h refl) hy fx fy cY pp pq pr lq lr st
        first false h k = second (ltb x M) (ltb-true x M) (ltb-false x M) (k refl)

    swapped : (a b g : ℕ) → Product a b g → Product b a g
    swapped a b g h =
        record {
          le_l = h.le_r;
          le_r = h.le_l;
          whole = subst (λ (z : ℕ). g * M * 2 ≤ z * 2 + E * M * 4) (mul_comm a b) h.whole;
          half = subst (λ (z : ℕ). z < M * H → g * M * 2 ≤ z * 2 + E * M * 2) (mul_comm a b) h.half;
          quarter = subst (λ (z : ℕ). z * 2 < M * H → g * M * 2 ≤ z * 2 + E * M) (mul_comm a b) h.quarter;
          fine = h.fine;
        }

    turned : (a b t : ℕ) → Sum a b t → Sum b a t
    turned a b t h =
        let e = native.Mathlib.Nat.add_comm a b in
        record {
          whole = subst (λ (z : ℕ). z ≤ M → t ≤ z + 2 * E) e h.whole;
          half = subst (λ (z : ℕ). z < H → t ≤ z + E) e h.half;
          least = subst (λ (z : ℕ). z ≤ H + 2 * E → t ≤ H) e h.least;
        }

    -- q' and r' are the shares q and r times colours up to 1
    pub mixture : (x y X Y p q r q' r' t : ℕ) → x ≤ M → y ≤ M → Fine x → Fine y → Complement x X → Complement y Y → Product x y p → Product x Y q → Product y X r → q' ≤ q → r' ≤ r → Sum q' r' t → p + t ≤ M + 4 * E
    mixture x y X Y p q r q' r' t hx hy fx fy cX cY pp pq pr lq lr st = go (ltb x y) (ltb-true x y) (ltb-false x y)
      where
        go : (b : Bool) → (b ≡ true → x < y) → (b ≡ false → y ≤ x) → p + t ≤ M + 4 * E
        go true h k = let l = h refl in ordered y x Y X p r q r' q' t hy (omega arith) fy fx cY cX (swapped x y p pp) pr pq lr lq (turned q' r' t st)
        go false h k = ordered x y X Y p q r q' r' t hx (k refl) fx fy cX cY pp pq pr lq lr st
