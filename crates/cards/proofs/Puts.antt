-- Elements put into a list, in one part or in two; and into one of the same element over and over: they stand at its front, and the rest is as it was.
-- Assumes nothing.
use mathlib.Core.Path.{◌≡◌, refl, sym, ap, ◌∙◌}
use mathlib.Core.List.{List, [], ◌∷◌, ◌++◌, append_assoc, append-nil}
use Prim.Native.Nat.{ℕ, suc, ◌+◌, ◌-◌, ◌≤◌}
use native.Mathlib.Omega.{arith}
use borrow.Rule.Slice.PartMut.{put_mid, mid_of}
use lib.ListN.{length, take, drop, length-drop, drop_of_length-le, set, length-append, length-set, replicate, length-replicate, replicate-append-replicate}
use lib.Seq.{take-append_seam, drop-append_seam, length-take-le, take_all}
use Rattle.std.proofs.lemmas.List.{take-append-drop}
use Rattle.cards.specs.Cells.{Cell, words_in}
use Rattle.cards.specs.Answers.{padded}
use Rattle.cards.specs.Steps.{put, put_words}

module _ {A : Type 0} where
  put_cons : (x : A) (xs : List A) (n : ℕ) (ys : List A) → put (x ∷ xs) (suc n) ys ≡ x ∷ put xs n ys
  put_cons x xs n [] = refl
  put_cons x xs n (y ∷ ys) = put_cons x (set xs n y) (suc n) ys

  pub put_length : (xs : List A) (n : ℕ) (ys : List A) → length (put xs n ys) ≡ length xs
  put_length xs n [] = refl
  put_length xs n (y ∷ ys) = put_length (set xs n y) (suc n) ys ∙ length-set xs n y

  -- some, and others after them
  pub put_then : (xs : List A) (n m : ℕ) (ys zs : List A) → m ≡ n + length ys → put (put xs n ys) m zs ≡ put xs n (ys ++ zs)
  put_then xs n m [] zs e = let q : m ≡ n = omega arith in ap (λ (k : ℕ). put xs k zs) q
  put_then xs n m (y ∷ ys) zs e = put_then (set xs n y) (suc n) m ys zs (omega arith)

  -- past a front
  pub put_past : (xs zs : List A) (n : ℕ) (ys : List A) → n ≡ length xs → put (xs ++ zs) n ys ≡ xs ++ put zs 0 ys
  put_past [] zs n ys e = rw e
  put_past (x ∷ xs) zs n ys e =
      ap (λ (m : ℕ). put (x ∷ (xs ++ zs)) m ys) e
      ∙ put_cons x (xs ++ zs) (length xs) ys
      ∙ ap (λ (l : List A). x ∷ l) (put_past xs zs (length xs) ys refl)

  -- over as many, and more
  pub put_front : (z : A) (ys : List A) (m : ℕ) → put (replicate (length ys + m) z) 0 ys ≡ ys ++ replicate m z
  put_front z [] m = let q : 0 + m ≡ m = omega arith in ap (λ (n : ℕ). replicate n z) q
  put_front z (y ∷ ys) m =
      let q : suc (length ys) + m ≡ suc (length ys + m) = omega arith in
      ap (λ (n : ℕ). put (replicate n z) 0 (y ∷ ys)) q
      ∙ put_cons y (replicate (length ys + m) z) 0 ys
      ∙ ap (λ (l : List A). y ∷ l) (put_front z ys m)

  -- over n, of which those that are left become padding
  pub put_padded : (z : A) (ys : List A) (n m : ℕ) → length ys ≤ n → put (replicate (n + m) z) 0 ys ≡ padded n z ys ++ replicate m z
  put_padded z ys n m h =
      let q : n + m ≡ length ys + (n - length ys + m) = omega arith in
      ap (λ (k : ℕ). put (replicate k z) 0 ys) q
      ∙ put_front z ys (n - length ys + m)
      ∙ ap (λ (l : List A). ys ++ l) (sym (replicate-append-replicate (n - length ys) m z))
      ∙ sym (append_assoc ys (replicate (n - length ys) z) (replicate m z))

  pub padded_length : (z : A) (ys : List A) (n : ℕ) → length ys ≤ n → length (padded n z ys) ≡ n
  padded_length z ys n h = omega (arith, length-append ys (replicate (n - length ys) z), length-replicate (n - length ys) z)

  -- over the front of a list, and over a part of it
  pub put_over : (zs ys : List A) → length ys ≤ length zs → put zs 0 ys ≡ ys ++ drop (length ys) zs
  put_over zs [] h = refl
  put_over [] (y ∷ ys) h = absurd (omega arith)
  put_over (z ∷ zs) (y ∷ ys) h = put_cons y zs 0 ys ∙ ap (λ (l : List A). y ∷ l) (put_over zs ys (omega arith))

  module _ (xs ys : List A) (n : ℕ) where
    -- a list that is put into what stands from place n on
    pub put_from : n ≤ length xs → take n xs ++ put (drop n xs) 0 ys ≡ put xs n ys
    put_from h =
        sym (put_past (take n xs) (drop n xs) n ys (sym (length-take-le n xs h)))
        ∙ ap (λ (l : List A). put l n ys) (take-append-drop n xs)

    pub put_rest : n ≤ length xs → put_mid n (length xs - n) xs ys ≡ take n xs ++ ys
    put_rest h =
        let e : drop (length xs - n) (drop n xs) ≡ [] = drop_of_length-le (drop n xs) (omega (arith, length-drop n xs)) in
        ap (λ (l : List A). take n xs ++ (ys ++ l)) e ∙ ap (λ (l : List A). take n xs ++ l) (append-nil ys)

    pub mid_rest : mid_of n (length xs - n) xs ≡ drop n xs
    mid_rest = take_all (length xs - n) (drop n xs) (omega (arith, length-drop n xs))

    pub put_part : n + length ys ≤ length xs → take n xs ++ (ys ++ drop (length ys) (drop n xs)) ≡ put xs n ys
    put_part h =
        ap (λ (l : List A). take n xs ++ l) (sym (put_over (drop n xs) ys (omega (arith, length-drop n xs))))
        ∙ put_from (omega arith)

-- the words of cells, put into what stands from place n on
pub words_from : (vs : List Cell) (xs : List ℕ) (n : ℕ) → n ≤ length xs → take n xs ++ put_words (drop n xs) 0 vs ≡ put_words xs n vs
words_from [] xs n h = take-append-drop n xs
words_from (v ∷ vs) xs n h =
    let ys = put (drop n xs) 0 (words_in v) in
    let e : take n xs ++ ys ≡ put xs n (words_in v) = put_from xs (words_in v) n h in
    let l : length (take n xs) ≡ n = length-take-le n xs h in
    let a : take n (put xs n (words_in v)) ≡ take n xs = ap (take n) (sym e) ∙ ap (λ (m : ℕ). take m (take n xs ++ ys)) (sym l) ∙ take-append_seam (take n xs) ys in
    let b : drop n (put xs n (words_in v)) ≡ ys = ap (drop n) (sym e) ∙ ap (λ (m : ℕ). drop m (take n xs ++ ys)) (sym l) ∙ drop-append_seam (take n xs) ys in
    ap (λ (t : List ℕ). t ++ put_words ys 0 vs) (sym a)
    ∙ ap (λ (t : List ℕ). take n (put xs n (words_in v)) ++ put_words t 0 vs) (sym b)
    ∙ words_from vs (put xs n (words_in v)) n (omega (arith, put_length xs n (words_in v)))
