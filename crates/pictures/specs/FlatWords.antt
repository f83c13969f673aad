-- A picture of four channels as a list of words, from its pixels. Definitions only.
use Rattle.std.specs.Prelude.{List, [], ◌∷◌, ℕ, zero, suc}
use Rattle.pictures.specs.declared.Words.{Words}

-- n pixels from pixel i on, where pixel i is f i
unfoldable pub flat : (ℕ → Words) → ℕ → ℕ → List ℕ
flat f i zero = []
flat f i (suc n) = (f i).r ∷ (f i).g ∷ (f i).b ∷ (f i).a ∷ flat f (suc i) n
