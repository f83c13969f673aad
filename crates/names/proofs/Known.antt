-- What a place in the list of names says, and its operator's number. Assumes nothing.
use mathlib.Core.Path.{◌≡◌, refl, ap, ◌∙◌}
use mathlib.Core.Bool.{Bool, true, false, cond}
use mathlib.Core.List.{List, [], ◌∷◌}
use Prim.Native.Nat.{ℕ, suc, ◌+◌, ◌-◌, ◌<◌, ◌≤◌}
use native.Mathlib.Nat.{add-zero, add-suc, suc-add, zero-add}
use native.Mathlib.Omega.{arith}
use lib.Dec.{eqb, eqb→eq}
use lib.ListN.{get_or, take}
use lib.Seq.{get_or-take, get_or-drop}
use Rattle.laws.proofs.Tables.{at_each}
use Rattle.operators.specs.Operators.{number_of}
use Rattle.names.specs.Names.{Entry, entries, key_of, same, lookup, from_name}
use Rattle.names.specs.Packed.{words, numbers_of, numbers, letters, lengths, aliased, cut, place_from}
use Rattle.names.proofs.EndToEnd.{names_packed}
use Rattle.std.specs.Prelude.{Option, Some, option_map}

-- what is known where the search answered a place
abbrev pub at_place : Option ℕ → Option ℕ
at_place p = option_map (λ (k : ℕ). get_or numbers k 0) p

chosen : (b : Bool) (i m : ℕ) (p : Option ℕ) (r : Option ℕ) → get_or numbers i 0 ≡ m → at_place p ≡ r → at_place (cond b (Some i) p) ≡ cond b (Some m) r
chosen true i m p r e q = ap Some e
chosen false i m p r e q = q

by_place : (x : List ℕ) (es : List Entry) (i : ℕ) → ((j : ℕ) → get_or numbers (i + j) 0 ≡ get_or (numbers_of es) j 0) → at_place (place_from i x (words es)) ≡ lookup x es
by_place x [] i h = refl
by_place x (e ∷ es) i h =
    chosen (same x e.word) i (number_of e.op) (place_from (suc i) x (words es)) (lookup x es)
    (rw add-zero at (h 0))
    (by_place x es (suc i) (λ j. rw (suc-add, ← add-suc) (h (suc j))))

-- the search through the words is the search through the entries
pub place_known : (x : List ℕ) → at_place (place_from 0 x (words entries)) ≡ lookup x entries
unfolding numbers
place_known x = by_place x entries 0 (λ j. rw zero-add)

-- Cut at the lengths, the letters are the words of the list, so that the place that the search answers is that of the entry
pub known : (s : List ℕ) → at_place (place_from 0 (key_of s) (cut lengths letters)) ≡ from_name s
unfolding from_name
known s = ap (λ (ws : List (List ℕ)). at_place (place_from 0 (key_of s) ws)) names_packed.0 ∙ place_known (key_of s)

-- an operator's own name stands at its number, a test computed over the first 70
pub own_place : (k : ℕ) → k < 70 → k ≡ get_or numbers k 0
unfolding numbers entries
own_place k h = eqb→eq k _ (at_each (λ i n. eqb i n) 0 (take 70 numbers) tt k h) ∙ get_or-take 70 numbers k 0 h

-- the others are the aliases'
pub of_alias : (k : ℕ) → 70 ≤ k → get_or aliased (k - 70) 0 ≡ get_or numbers k 0
unfolding numbers aliased entries
of_alias k h =
    let e : 70 + (k - 70) ≡ k = omega arith in
    get_or-drop 70 numbers (k - 70) 0 ∙ ap (λ (x : ℕ). get_or numbers x 0) e
