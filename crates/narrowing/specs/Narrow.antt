-- Narrowing a picture of four channels: `to_channels` (deep.rs 373 to 397) on words, `narrow_u8` (deep.rs 857 to 874) after it, and
-- document 01's refusal NARROW. Document 01: gray output uses `luma`, and a gray that comes out NaN is stored as 7FC00000; a channel narrowed
-- without `luma` is copied with all its bits; bytes as `narrow_u8`; a refusal writes nothing. Definitions only.
use Rattle.std.specs.Prelude.{Bool, cond, not, ◌||◌, List, [], ◌∷◌, ◌++◌, map, ℕ, ◌*◌, ◌/◌, ◌%◌, eqb, ℤ, length}
use Rattle.float_steps.specs.Whole.{byte_of}
use Rattle.float_steps.specs.Words.{value_of, word_of}
use Rattle.faults.specs.Faults.{NONE, NARROW}
use Rattle.pictures.specs.declared.Words.{Words}
use Rattle.pictures.specs.Shapes.{nat_of, bad_channels}
use Rattle.pictures.specs.Widen.{words_of, values_of}
use Rattle.narrowing.specs.Luma.{luma_of}

-- ---- the words

-- one pixel, by the channels wanted: its gray; red, green and blue; all four
unfoldable pub narrowed_pixel : ℕ → Words → List ℕ
narrowed_pixel wanted w =
    cond (eqb wanted 1) (word_of (luma_of (values_of w)) ∷ [])
    (cond (eqb wanted 3) (w.r ∷ w.g ∷ w.b ∷ [])
    (w.r ∷ w.g ∷ w.b ∷ w.a ∷ []))

-- all pixels; words that make no whole pixel are left out, as `chunks_exact` leaves them
unfoldable pub narrowed_of : ℕ → List ℕ → List ℕ
narrowed_of wanted [] = []
narrowed_of wanted (r ∷ []) = []
narrowed_of wanted (r ∷ g ∷ []) = []
narrowed_of wanted (r ∷ g ∷ b ∷ []) = []
narrowed_of wanted (r ∷ g ∷ b ∷ a ∷ rest) = narrowed_pixel wanted (words_of r g b a) ++ narrowed_of wanted rest

-- the bytes of words
abbrev pub bytes_of : List ℕ → List ℕ
bytes_of words = map (λ w. byte_of (value_of w)) words

-- ---- the outcome

-- NARROW, for the lengths of the input and of the output
unfoldable pub bad_narrowing : ℤ → ℕ → ℕ → Bool
bad_narrowing wanted input output = bad_channels wanted || not (eqb (input % 4) 0) || not (eqb output (input / 4 * nat_of wanted))

unfoldable pub narrow_fault : ℤ → ℕ → ℕ → ℕ
narrow_fault wanted input output = cond (bad_narrowing wanted input output) NARROW NONE

-- the number that is answered and the whole output
pub record Narrowed : Type 0 where
  pub number : ℕ
  pub output : List ℕ

abbrev pub narrowed : ℕ → List ℕ → Narrowed
narrowed number output = record { number = number; output = output }

-- the output is new where there is no fault, and as it was where there is one
abbrev pub written_unless : {A : Type 0} → (fault : ℕ) → (new old : List A) → List A
written_unless fault new old = cond (eqb fault NONE) new old

unfoldable pub narrowed_unless : ℕ → List ℕ → List ℕ → Narrowed
narrowed_unless fault new old = narrowed fault (written_unless fault new old)

-- the input narrowed into the output, as words and as bytes
abbrev pub narrow_of : ℤ → List ℕ → List ℕ → Narrowed
narrow_of wanted input output =
    narrowed_unless (narrow_fault wanted (length input) (length output)) (narrowed_of (nat_of wanted) input) output

abbrev pub narrow_bytes_of : ℤ → List ℕ → List ℕ → Narrowed
narrow_bytes_of wanted input output =
    narrowed_unless (narrow_fault wanted (length input) (length output)) (bytes_of (narrowed_of (nat_of wanted) input)) output
