-- Laws of a picture's words, four a pixel: how `flat` grows, what `put_of` replaces, and which pixel stands where. Assumes nothing.
use mathlib.Core.Path.{◌≡◌, refl, sym, ap, ◌∙◌}
use mathlib.Core.List.{List, [], ◌∷◌, ◌++◌, append-nil, append_assoc}
use Prim.Native.Nat.{ℕ, zero, suc, ◌+◌, ◌*◌, ◌<◌, ◌≤◌}
use native.Mathlib.Nat.{zero-add, add-zero, suc-add, add-suc, add_assoc, le_of_suc-le-suc, not-suc-le-zero}
use native.Mathlib.Omega.{arith}
use lib.ListN.{length, get_or, drop, set, length-append, length-drop, drop_of_length-le}
use lib.Seq.{drop-drop, get_or-drop}
use Rattle.pictures.specs.declared.Words.{Words}
use Rattle.pictures.specs.Widen.{rgba_at}
use Rattle.pictures.specs.FlatWords.{flat}
use Rattle.pictures.specs.Steps.{filled, put_of}

-- ---- flat

pub length_flat : (f : ℕ → Words) (i n : ℕ) → length (flat f i n) ≡ 4 * n
unfolding flat
length_flat f i zero = refl
length_flat f i (suc n) = omega (arith, length_flat f (suc i) n)

pub flat_append : (f : ℕ → Words) (i m n : ℕ) → flat f i (m + n) ≡ flat f i m ++ flat f (i + m) n
unfolding flat
flat_append f i zero n = rw (zero-add, add-zero)
flat_append f i (suc m) n = rw (suc-add, flat_append f (suc i) m n, add-suc, suc-add)

-- the same pixels, counted from another place
pub flat_same : (f g : ℕ → Words) (i k n : ℕ) → ((j : ℕ) → j < n → f (i + j) ≡ g (k + j)) → flat f i n ≡ flat g k n
unfolding flat
flat_same f g i k zero e = refl
flat_same f g i k (suc n) e =
    let h : f i ≡ g k = rw (add-zero i, add-zero k) at (e 0 (omega arith)) in
    rw (h, flat_same f g (suc i) (suc k) n (λ j l. rw (suc-add, suc-add, ← add-suc, ← add-suc) (e (suc j) (omega arith))))

-- ---- put_of

set_after : (xs ys : List ℕ) (k v : ℕ) → set (xs ++ ys) (length xs + k) v ≡ xs ++ set ys k v
set_after [] ys k v = rw zero-add
set_after (x ∷ xs) ys k v = rw (suc-add, set_after xs ys k v)

set_past : (p ys : List ℕ) (n k v : ℕ) → length p ≡ n → set (p ++ ys) (n + k) v ≡ p ++ set ys k v
set_past p ys n k v e = rw (← e) (set_after p ys k v)

put_past : (p ys : List ℕ) (i : ℕ) (w : Words) → length p ≡ 4 * i → put_of (p ++ ys) i w ≡ p ++ put_of ys 0 w
put_past p ys i w e =
    ap (λ l. set (set (set l (4 * i + 1) w.g) (4 * i + 2) w.b) (4 * i + 3) w.a) (rw add-zero at (set_past p ys (4 * i) 0 w.r e))
    ∙ ap (λ l. set (set l (4 * i + 2) w.b) (4 * i + 3) w.a) (set_past p _ (4 * i) 1 w.g e)
    ∙ ap (λ l. set l (4 * i + 3) w.a) (set_past p _ (4 * i) 2 w.b e)
    ∙ set_past p _ (4 * i) 3 w.a e

put_front : (o : List ℕ) (w : Words) → 4 ≤ length o → put_of o 0 w ≡ w.r ∷ w.g ∷ w.b ∷ w.a ∷ drop 4 o
put_front [] w h = absurd (omega arith)
put_front (a ∷ []) w h = absurd (omega arith)
put_front (a ∷ b ∷ []) w h = absurd (omega arith)
put_front (a ∷ b ∷ c ∷ []) w h = absurd (omega arith)
put_front (a ∷ b ∷ c ∷ d ∷ o) w h = refl

-- one pixel more
pub filled_more : (f : ℕ → Words) (i : ℕ) (o : List ℕ) (w : Words) → 4 * (i + 1) ≤ length o → w ≡ f i → put_of (filled f i o) i w ≡ filled f (i + 1) o
unfolding flat
filled_more f i o w h e =
    put_past (flat f 0 i) (drop (4 * i) o) i w (length_flat f 0 i)
    ∙ ap (λ l. flat f 0 i ++ l) (put_front (drop (4 * i) o) w (simp length-drop (omega arith)))
    ∙ rw (e, flat_append f 0 i 1, append_assoc, zero-add, drop-drop 4 (4 * i) o, four_more i)
  where
    four_more : (i : ℕ) → 4 * i + 4 ≡ 4 * (i + 1)
    four_more i = omega arith

-- a list whose first pixels are replaced keeps its length; one that is replaced whole is its pixels
pub length_filled : (f : ℕ → Words) (n : ℕ) (o : List ℕ) → 4 * n ≤ length o → length (filled f n o) ≡ length o
length_filled f n o h = simp (length-append, length-drop) (omega (arith, length_flat f 0 n))

pub filled_all : (f : ℕ → Words) (n : ℕ) (o : List ℕ) → length o ≡ 4 * n → filled f n o ≡ flat f 0 n
filled_all f n o h = rw (drop_of_length-le o {i = 4 * n} (omega arith), append-nil)

-- ---- which pixel stands where

-- pixel i of the part that begins at pixel n
pub part_at : (l : List ℕ) (n i : ℕ) → rgba_at (drop (4 * n) l) 4 i ≡ rgba_at l 4 (n + i)
unfolding rgba_at
part_at l n i =
    let e : 4 * n + 4 * i ≡ 4 * (n + i) = omega arith in
    simp (get_or-drop, ← e, add_assoc)

-- past the first four words every word stands four places, and every pixel one place, earlier
further : (a b c d : ℕ) (xs : List ℕ) (j x : ℕ) → get_or (a ∷ b ∷ c ∷ d ∷ xs) (4 * suc j + x) 0 ≡ get_or xs (4 * j + x) 0
further a b c d xs j x = ap (λ (y : ℕ). get_or (a ∷ b ∷ c ∷ d ∷ xs) y 0) four
  where
    four : 4 * suc j + x ≡ suc (suc (suc (suc (4 * j + x))))
    four = omega arith

pub rgba_further : (a b c d : ℕ) (xs : List ℕ) (j : ℕ) → rgba_at (a ∷ b ∷ c ∷ d ∷ xs) 4 (suc j) ≡ rgba_at xs 4 j
unfolding rgba_at
rgba_further a b c d xs j =
    let l = a ∷ b ∷ c ∷ d ∷ xs in
    let e : get_or l (4 * suc j) 0 ≡ get_or xs (4 * j) 0 = rw (add-zero (4 * suc j), add-zero (4 * j)) at (further a b c d xs j 0) in
    rw (e, further a b c d xs j 1, further a b c d xs j 2, further a b c d xs j 3)

-- pixel j of n pixels f a, f (a + 1), .. and whatever follows
pub flat_pixel : (f : ℕ → Words) (a n : ℕ) (ys : List ℕ) (j : ℕ) → j < n → rgba_at (flat f a n ++ ys) 4 j ≡ f (a + j)
unfolding flat rgba_at
flat_pixel f a zero ys j h = absurd (not-suc-le-zero h)
flat_pixel f a (suc n) ys zero h = ap f (sym (add-zero a))
flat_pixel f a (suc n) ys (suc j) h =
    rgba_further (f a).r (f a).g (f a).b (f a).a (flat f (suc a) n ++ ys) j
    ∙ flat_pixel f (suc a) n ys j (le_of_suc-le-suc h)
    ∙ ap f (suc-add a j ∙ sym (add-suc a j))
