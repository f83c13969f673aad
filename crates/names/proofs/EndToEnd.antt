-- Document 02, A.4: "The 83 operator names [..] end to end in one list of bytes, each once, beside their lengths: cut at these, the list gives the 83 names
-- with nothing left over." The list is `letters`, which is what the code keeps: `names::lists::letter` and `length_of` answer what stands at each place of
-- `letters` and of `lengths`, and 0 past their ends. Assumes nothing.
use mathlib.Core.Path.{◌≡◌, refl, ◌∙◌}
use mathlib.Core.List.{List, [], ◌∷◌, map}
use Prim.Native.Nat.{ℕ, ◌<◌, ◌≤◌}
use lib.Dec.{leb, leb→le}
use lib.ListN.{length, get_or, drop, length-append}
use lib.Seq.{take-append_seam, drop-append_seam, drop-append-add}
use Rattle.laws.proofs.Tables.{at_each}
use Rattle.names.specs.Names.{entries}
use Rattle.names.specs.Packed.{words, joined, letters, lengths, most_letters, total, cut}

-- ---- any words, end to end

abbrev lengths_of : List (List ℕ) → List ℕ
lengths_of ws = map length ws

cut_joined : (ws : List (List ℕ)) → cut (lengths_of ws) (joined ws) ≡ ws
cut_joined [] = refl
cut_joined (w ∷ ws) = rw (take-append_seam w (joined ws), drop-append_seam w (joined ws), cut_joined ws)

nothing_left : (ws : List (List ℕ)) → drop (total (lengths_of ws)) (joined ws) ≡ []
nothing_left [] = refl
nothing_left (w ∷ ws) = drop-append-add w (joined ws) (total (lengths_of ws)) ∙ nothing_left ws

as_many : (ws : List (List ℕ)) → total (lengths_of ws) ≡ length (joined ws)
as_many [] = refl
as_many (w ∷ ws) = rw (length-append w (joined ws), as_many ws)

-- ---- the 83 names

-- the third: the list ends with the last name, which a cut past its end would not tell
pub names_packed : (cut lengths letters ≡ words entries) × (drop (total lengths) letters ≡ []) × (total lengths ≡ length letters)
unfolding letters lengths
names_packed = (cut_joined (words entries), nothing_left (words entries), as_many (words entries))

pub names_count : length lengths ≡ 83
unfolding lengths entries
names_count = refl

pub letters_count : length letters ≡ 624
unfolding letters entries
letters_count = refl

pub none_longer : (k : ℕ) → k < 83 → get_or lengths k 0 ≤ most_letters
unfolding lengths entries
none_longer k h = leb→le (get_or lengths k 0) most_letters (at_each (λ i n. leb n most_letters) 0 lengths tt k h)
