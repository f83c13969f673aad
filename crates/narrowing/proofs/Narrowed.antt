-- The words of a narrowed picture: how many they are, and which one stands where. Assumes nothing.
use mathlib.Core.Path.{◌≡◌, refl, sym, ap, ◌∙◌}
use mathlib.Core.List.{List, [], ◌∷◌, ◌++◌, map}
use mathlib.Core.Logic.{◌⊎◌, inl, inr, ⊎_elim}
use Prim.Native.Nat.{ℕ, zero, suc, ◌+◌, ◌*◌, ◌/◌, ◌%◌, ◌<◌, ◌≤◌}
use native.Mathlib.Nat.{zero-mul, suc-mul, zero-add, add-zero, mul-one, add_comm, div-add-mod', mod-lt, div-lt_iff_lt-mul}
use native.Mathlib.Omega.{arith}
use lib.ListN.{length, get_or, length-append, length-map, get_or-append}
use lib.Seq.{get_or-append-add, get_or-take}
use Rattle.float_steps.specs.Words.{word_of}
use Rattle.pictures.specs.declared.Words.{Words}
use Rattle.pictures.specs.Widen.{words_of, four_at, rgba_at, values_of}
use Rattle.pictures.specs.Steps.{Channels}
use Rattle.pictures.proofs.FlatWords.{rgba_further}
use Rattle.narrowing.specs.Luma.{luma_of}
use Rattle.narrowing.specs.Narrow.{narrowed_pixel, narrowed_of}

-- ---- how many

length_pixel : (k : ℕ) (w : Words) → Channels k → length (narrowed_pixel k w) ≡ k
unfolding narrowed_pixel
length_pixel k w (inl e) = rw e
length_pixel k w (inr (inl e)) = rw e
length_pixel k w (inr (inr e)) = rw e

pub length_narrowed : (k : ℕ) (input : List ℕ) → Channels k → length (narrowed_of k input) ≡ length input / 4 * k
unfolding narrowed_of
length_narrowed k [] h = sym (zero-mul k)
length_narrowed k (r ∷ []) h = sym (zero-mul k)
length_narrowed k (r ∷ g ∷ []) h = sym (zero-mul k)
length_narrowed k (r ∷ g ∷ b ∷ []) h = sym (zero-mul k)
length_narrowed k (r ∷ g ∷ b ∷ a ∷ rest) h =
    length-append (narrowed_pixel k (words_of r g b a)) (narrowed_of k rest)
    ∙ rw (length_pixel k (words_of r g b a) h, length_narrowed k rest h, one_more (length rest), suc-mul (length rest / 4) k) (add_comm k _)
  where
    one_more : (n : ℕ) → (suc (suc (suc (suc n)))) / 4 ≡ suc (n / 4)
    one_more n = omega arith

-- so many are also the samples made of them
pub length_made : {A : Type 0} (of : ℕ → A) (k : ℕ) (input : List ℕ) → Channels k → length (map of (narrowed_of k input)) ≡ length input / 4 * k
length_made of k input h = length-map (narrowed_of k input) of ∙ length_narrowed k input h

-- ---- which one stands where

-- word c of pixel j
pub narrowed_word : (k : ℕ) (input : List ℕ) (j c : ℕ) → Channels k → c < k → 4 * j + 4 ≤ length input → get_or (narrowed_of k input) (j * k + c) 0 ≡ get_or (narrowed_pixel k (four_at input (4 * j))) c 0
unfolding narrowed_of rgba_at
narrowed_word k [] j c h l i = absurd (omega arith)
narrowed_word k (r ∷ []) j c h l i = absurd (omega arith)
narrowed_word k (r ∷ g ∷ []) j c h l i = absurd (omega arith)
narrowed_word k (r ∷ g ∷ b ∷ []) j c h l i = absurd (omega arith)
narrowed_word k (r ∷ g ∷ b ∷ a ∷ rest) zero c h l i =
    let p = narrowed_pixel k (words_of r g b a) in
    rw (zero-mul, zero-add) (get_or-append p (narrowed_of k rest) 0 c (rw (length_pixel k (words_of r g b a) h) l))
narrowed_word k (r ∷ g ∷ b ∷ a ∷ rest) (suc j) c h l i =
    let p = narrowed_pixel k (words_of r g b a) in
    let e : suc j * k + c ≡ length p + (j * k + c) = rw (length_pixel k (words_of r g b a) h, suc-mul j k) (omega arith) in
    ap (λ n. get_or (p ++ narrowed_of k rest) n 0) e
    ∙ get_or-append-add p (narrowed_of k rest) (j * k + c) 0
    ∙ narrowed_word k rest j c h l (omega arith)
    ∙ ap (λ w. get_or (narrowed_pixel k w) c 0) (sym (rgba_further r g b a rest j))

-- the gray of pixel i
pub gray_word : (k : ℕ) (input : List ℕ) (i : ℕ) → k ≡ 1 → 4 * i + 4 ≤ length input → word_of (luma_of (values_of (rgba_at input 4 i))) ≡ get_or (narrowed_of k input) i 0
unfolding narrowed_pixel rgba_at
gray_word k input i e h = rw e (sym (rw (mul-one, add-zero) at (narrowed_word 1 input i 0 (inl refl) (omega arith) h)))

channel : (input : List ℕ) (at c : ℕ) → c < 4 → get_or (get_or input at 0 ∷ get_or input (at + 1) 0 ∷ get_or input (at + 2) 0 ∷ get_or input (at + 3) 0 ∷ []) c 0 ≡ get_or input (at + c) 0
channel input at zero h = rw add-zero
channel input at (suc zero) h = refl
channel input at (suc (suc zero)) h = refl
channel input at (suc (suc (suc zero))) h = refl
channel input at (suc (suc (suc (suc c)))) h = absurd (omega arith)

kept_channel : (k : ℕ) (input : List ℕ) (at c : ℕ) → (k ≡ 3) ⊎ (k ≡ 4) → c < k → get_or (narrowed_pixel k (four_at input at)) c 0 ≡ get_or input (at + c) 0
unfolding narrowed_pixel
kept_channel k input at c (inl e) h =
    let l : c < 3 = omega arith in
    rw e (get_or-take 3 (get_or input at 0 ∷ get_or input (at + 1) 0 ∷ get_or input (at + 2) 0 ∷ get_or input (at + 3) 0 ∷ []) c 0 l ∙ channel input at c (omega arith))
kept_channel k input at c (inr e) h = rw e (channel input at c (omega arith))

-- where a word comes from that is kept with all its bits
pub kept_word : (k : ℕ) (input : List ℕ) (i : ℕ) → (k ≡ 3) ⊎ (k ≡ 4) → i < length input / 4 * k → get_or input (4 * (i / k) + i % k) 0 ≡ get_or (narrowed_of k input) i 0
kept_word k input i e h =
    let some : 0 < k = ⊎_elim (λ w. omega arith) (λ w. omega arith) e in
    let row : i / k < length input / 4 = (div-lt_iff_lt-mul some).1 h in
    let word = narrowed_word k input (i / k) (i % k) (inr e) (mod-lt i some) (omega arith) in
    sym (rw (div-add-mod' i k) at word ∙ kept_channel k input (4 * (i / k)) (i % k) e (mod-lt i some))
