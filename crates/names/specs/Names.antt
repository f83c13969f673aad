-- The names of the operators and how a text is read as one: `name` (composite.rs 272 to 345) and `from_name` (composite.rs 351 to 376).
-- Document 01: "'-', '_' and space are dropped, A to Z lowered, the rest must be one of the 70 names or 13 aliases of `from_name`".
-- "Bytes that are no UTF-8 are an unknown name": such bytes have one of 128 or more, and every text that has one is unknown (`beyond_ascii`, proofs/Ascii).
use Rattle.std.specs.Prelude.{Option, Some, None, Bool, true, false, cond, not, ◌||◌, ◌&&◌, List, [], ◌∷◌, ◌++◌, map, ℕ, ◌+◌, eqb, leb}
use Prim.Native.Char.{code}
use Prim.Native.String.{String, [] as no_text, ◌∷◌ as ◌then◌}
use Rattle.operators.specs.Operators.{line, number_of, operators}
use Rattle.operators.specs.declared.CompositeOp.{CompositeOp}
use Rattle.operators.specs.declared.CompositeOp.TheVariants as O

-- the bytes of a text of ASCII characters
abbrev pub bytes : String → List ℕ
bytes no_text = []
bytes (c then s) = code c ∷ bytes s

-- a name and the operator that it names
pub record Entry : Type 0 where
  pub word : List ℕ
  pub op : CompositeOp

abbrev pub name : String → CompositeOp → Entry
name s o = record { word = bytes s; op = o }

-- the 13 aliases
abbrev pub aliases : List Entry
aliases =
    name "srcover" O.Over
    ∷ name "srcin" O.In
    ∷ name "srcout" O.Out
    ∷ name "srcatop" O.Atop
    ∷ name "copy" O.Src
    ∷ name "replace" O.Src
    ∷ name "none" O.Dst
    ∷ name "minus" O.MinusDst
    ∷ name "divide" O.DivideDst
    ∷ name "copyopacity" O.CopyAlpha
    ∷ name "average" O.Blend
    ∷ name "add" O.ModulusAdd
    ∷ name "subtract" O.ModulusSubtract
    ∷ []

-- the 70 names, in the order of the operators' numbers, and the aliases
unfoldable pub entries : List Entry
entries = map (λ (o : CompositeOp). name (line o).name o) operators ++ aliases

-- '-', '_' and space are dropped
unfoldable pub is_kept : ℕ → Bool
is_kept b = not (eqb b (code "-") || eqb b (code "_") || eqb b (code " "))

-- A to Z become a to z
unfoldable pub lower : ℕ → ℕ
lower b = cond (leb (code "A") b && leb b (code "Z")) (b + 32) b

-- what is compared of a text
abbrev pub key_of : List ℕ → List ℕ
key_of [] = []
key_of (b ∷ bs) = cond (is_kept b) (lower b ∷ key_of bs) (key_of bs)

-- two lists of bytes are the same
abbrev pub same : List ℕ → List ℕ → Bool
same [] [] = true
same [] (b ∷ ys) = false
same (a ∷ xs) [] = false
same (a ∷ xs) (b ∷ ys) = eqb a b && same xs ys

-- the operator of the first entry whose word is the key
abbrev pub lookup : List ℕ → List Entry → Option ℕ
lookup k [] = None
lookup k (e ∷ es) = cond (same k e.word) (Some (number_of e.op)) (lookup k es)

unfoldable pub from_name : List ℕ → Option ℕ
from_name s = lookup (key_of s) entries
