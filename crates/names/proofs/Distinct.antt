-- No two of the 83 names read the same, so that each stands once in the list; and each is read as its operator: two tests computed over the names, and what
-- they say of the entries. Assumes nothing.
use mathlib.Core.Path.{◌≡◌, refl, sym, ap, ◌∙◌}
use mathlib.Core.Bool.{Bool, true, false, not, ◌&&◌, ◌||◌, or-true}
use mathlib.Core.List.{List, [], ◌∷◌, map}
use Prim.Native.Nat.{ℕ, zero, suc, ◌<◌}
use native.Mathlib.Omega.{arith}
use lib.Dec.{T, T_not, eqb, eqb→eq}
use lib.Ieee.Fits.{and_l, and_r}
use lib.ListN.{length, get_or, get_or-map}
use borrow.Author.Tests.{eq-eqb}
use Rattle.laws.proofs.Tables.{at_each}
use Rattle.operators.specs.Operators.{number_of}
use Rattle.operators.specs.declared.CompositeOp.TheVariants.{Over}
use Rattle.names.specs.Names.{Entry, name, entries, key_of, same, is_kept, lower, from_name}
use Rattle.names.specs.Packed.{words, numbers, letters, lengths, cut}
use Rattle.std.specs.Prelude.{Option, Some, None}
use Rattle.names.proofs.EndToEnd.{names_packed}

-- a list of bytes is one of a list
abbrev among : List ℕ → List (List ℕ) → Bool
among x [] = false
among x (w ∷ ws) = same x w || among x ws

abbrev distinct : List (List ℕ) → Bool
distinct [] = true
distinct (w ∷ ws) = not (among w ws) && distinct ws

same_refl : (w : List ℕ) → same w w ≡ true
same_refl [] = refl
same_refl (b ∷ w) = rw (eq-eqb b b refl, same_refl w)

among_at : (x : List ℕ) (ws : List (List ℕ)) (j : ℕ) → j < length ws → x ≡ get_or ws j [] → among x ws ≡ true
among_at x [] j h e = absurd (omega arith)
among_at x (w ∷ ws) zero h e = rw (e, same_refl w)
among_at x (w ∷ ws) (suc j) h e = rw (among_at x ws j (omega arith) e) (or-true (same x w))

apart : (w : List ℕ) (ws : List (List ℕ)) (j : ℕ) → T (distinct (w ∷ ws)) → j < length ws → w ≡ get_or ws j [] → ⊥
apart w ws j t h e = T_not (among w ws) (and_l (not (among w ws)) (distinct ws) t) (rw (among_at w ws j h e) tt)

-- the places of equal words of a distinct list are equal
distinct_at : (ws : List (List ℕ)) → T (distinct ws) → (i j : ℕ) → i < length ws → j < length ws → get_or ws i [] ≡ get_or ws j [] → i ≡ j
distinct_at [] t i j h g e = absurd (omega arith)
distinct_at (w ∷ ws) t zero zero h g e = refl
distinct_at (w ∷ ws) t zero (suc j) h g e = absurd (apart w ws j t (omega arith) e)
distinct_at (w ∷ ws) t (suc i) zero h g e = absurd (apart w ws i t (omega arith) (sym e))
distinct_at (w ∷ ws) t (suc i) (suc j) h g e = ap suc (distinct_at ws (and_r (not (among w ws)) (distinct ws) t) i j (omega arith) (omega arith) e)

-- what the names are read as
unfoldable pub keys : List (List ℕ)
keys = map key_of (words entries)

-- no two of the 83 names read the same
pub names_distinct : (i j : ℕ) → i < length keys → j < length keys → get_or keys i [] ≡ get_or keys j [] → i ≡ j
unfolding keys entries is_kept lower
names_distinct i j h g e = distinct_at keys tt i j h g e

keys_count : length keys ≡ 83
unfolding keys entries
keys_count = refl

-- document 02, A.4: each name stands once in the list
pub each_once : (i j : ℕ) → i < 83 → j < 83 → get_or (cut lengths letters) i [] ≡ get_or (cut lengths letters) j [] → i ≡ j
unfolding keys
each_once i j h g e =
    let at : (k : ℕ) → get_or keys k [] ≡ key_of (get_or (words entries) k []) = λ k. get_or-map key_of (words entries) k [] in
    names_distinct i j (omega (arith, keys_count)) (omega (arith, keys_count)) (at i ∙ ap key_of (rw names_packed.0 at e) ∙ sym (at j))

-- an answer is the operator with a number
abbrev is_operator : Option ℕ → ℕ → Bool
is_operator (Some m) n = eqb m n
is_operator None n = false

is_operator_lem : (r : Option ℕ) (n : ℕ) → T (is_operator r n) → r ≡ Some n
is_operator_lem (Some m) n t = ap Some (eqb→eq m n t)
is_operator_lem None n t = absurd t

-- each of the 83 names is read as its operator
pub names_known : (k : ℕ) → k < length entries → from_name (get_or (words entries) k []) ≡ Some (get_or numbers k 0)
unfolding from_name entries numbers is_kept lower
names_known k h =
    let none = name "" Over in
    ap from_name (get_or-map (λ (e : Entry). e.word) entries k none)
    ∙ is_operator_lem _ _ (at_each (λ i e. is_operator (from_name e.word) (number_of e.op)) none entries tt k h)
    ∙ ap Some (sym (get_or-map (λ (e : Entry). number_of e.op) entries k none))
