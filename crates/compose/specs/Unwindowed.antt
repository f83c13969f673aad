-- `compose_float` (composite.rs 594 to 647) itself, which knows no window: the definitions of Compose with `covers` alone in the place of `writes`. What
-- a layer's window makes of it is shown in proofs/Windows. Definitions only.
use Rattle.std.specs.Prelude.{cond, List, ℕ, ◌*◌}
use Rattle.layers.specs.declared.Layer.{Layer}
use Rattle.pictures.specs.Widen.{rgba_at}
use Rattle.pictures.specs.FlatWords.{flat}
use Rattle.pictures.specs.declared.Words.{Words}
use Rattle.compose.specs.Compose.{covers, written_at}

-- pixel j of a layer on the picture beneath, whatever the layer's window
unfoldable pub unwindowed_at : List ℕ → Layer → (dw dh : ℕ) → (ℕ → Words) → (j : ℕ) → Words
unwindowed_at samples l dw dh beneath j = cond (covers l dw dh j) (written_at samples l dw dh beneath j) (beneath j)

-- the whole result of `compose_float`
abbrev pub unwindowed_of : List ℕ → Layer → (dw dh channels : ℕ) → List ℕ → List ℕ
unwindowed_of samples l dw dh channels dst = flat (unwindowed_at samples l dw dh (rgba_at dst channels)) 0 (dw * dh)
