-- A list of bytes that is kept in eights, numbers of eight bytes: the byte at a place is that of its eight. Assumes nothing.
use mathlib.Core.Path.{◌≡◌, sym, ap, ◌∙◌}
use mathlib.Core.Bool.{Bool, true, ◌&&◌}
use mathlib.Core.List.{List, [], ◌∷◌}
use Prim.Native.Nat.{ℕ, zero, suc, ◌+◌, ◌*◌, ◌/◌, ◌%◌, ◌^◌, ◌<◌, ◌≤◌}
use native.Mathlib.Nat.{zero-div, div-one, div-add-mod, mod-lt, le_of_suc-le-suc}
use native.Mathlib.Omega.{arith}
use lib.Arith.{digits_div, digits_mod}
use lib.Dec.{T, ltb, ltb→lt}
use lib.Ieee.Fits.{and_l, and_r}
use lib.ListN.{length, get_or, drop, drop_of_length-le}
use lib.Pow.{shr-shr}
use lib.Seq.{get_or-drop}
use Rattle.laws.proofs.Keys.{NoneBelow, at_least}
use Rattle.names.specs.Packed.{value_of, eight_of, byte_of}

-- each number of the list is a byte
abbrev pub bytewise : List ℕ → Bool
bytewise [] = true
bytewise (b ∷ bs) = ltb b 256 && bytewise bs

rest_bytewise : (n : ℕ) (bs : List ℕ) → T (bytewise bs) → T (bytewise (drop n bs))
rest_bytewise zero bs t = t
rest_bytewise (suc n) [] t = t
rest_bytewise (suc n) (b ∷ bs) t = rest_bytewise n bs (and_r (ltb b 256) (bytewise bs) t)

-- the lowest byte, and the others, of a number
module _ (v b : ℕ) (h : b < 256) where
  lowest : byte_of (v * 256 + b) 0 ≡ b
  lowest = ap (λ (x : ℕ). x % 256) (div-one (v * 256 + b)) ∙ digits_mod v h

  next : (i : ℕ) → byte_of (v * 256 + b) (suc i) ≡ byte_of v i
  next i =
      let e : 8 * suc i ≡ 8 + 8 * i = omega arith in
      ap (λ (x : ℕ). (v * 256 + b) / 2 ^ x % 256) e
      ∙ sym (ap (λ (x : ℕ). x % 256) (shr-shr (v * 256 + b) 8 (8 * i)))
      ∙ ap (λ (x : ℕ). x / 2 ^ (8 * i) % 256) (digits_div v h)

in_eight : (n : ℕ) (bs : List ℕ) (i : ℕ) → T (bytewise bs) → i < n → byte_of (value_of n bs) i ≡ get_or bs i 0
in_eight zero bs i t h = absurd (omega arith)
in_eight (suc n) [] i t h = ap (λ (x : ℕ). x % 256) (zero-div (2 ^ (8 * i)))
in_eight (suc n) (b ∷ bs) zero t h = lowest (value_of n bs) b (ltb→lt b 256 (and_l (ltb b 256) (bytewise bs) t))
in_eight (suc n) (b ∷ bs) (suc i) t h =
    next (value_of n bs) b (ltb→lt b 256 (and_l (ltb b 256) (bytewise bs) t)) i
    ∙ in_eight n bs i (and_r (ltb b 256) (bytewise bs) t) (le_of_suc-le-suc h)

-- r is the byte for the place p of the eight w that has it
pub byte_at : (bs : List ℕ) → T (bytewise bs) → (p : ℕ) {w r : ℕ} → w ≡ eight_of bs (p / 8) → r ≡ byte_of w (p % 8) → r ≡ get_or bs p 0
byte_at bs t p e g =
    g
    ∙ ap (λ (x : ℕ). byte_of x (p % 8)) e
    ∙ in_eight 8 (drop (8 * (p / 8)) bs) (p % 8) (rest_bytewise (8 * (p / 8)) bs t) (mod-lt p (omega arith))
    ∙ get_or-drop (8 * (p / 8)) bs (p % 8) 0
    ∙ ap (λ (x : ℕ). get_or bs x 0) (div-add-mod p 8)

-- past the list's n eights there are none
pub past_end : (bs : List ℕ) (k n : ℕ) → length bs ≤ 8 * n → NoneBelow k n → 0 ≡ eight_of bs k
past_end bs k n h none =
    let g : n ≤ k = at_least k n none in
    let e : drop (8 * k) bs ≡ [] = drop_of_length-le bs {i = 8 * k} (omega arith) in
    rw e
