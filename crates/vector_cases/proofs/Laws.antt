-- Laws on what is read from a line, what is called with it and how the answer is compared: one for each function and answer. Assumes nothing.
use mathlib.Core.Path.{◌≡◌, ap, ◌∙◌}
use mathlib.Core.Bool.{Bool, true, false}
use mathlib.Core.List.{List}
use Prim.Native.Nat.{ℕ, ◌<◌, ◌≤◌}
use mir.Facts.{to_z-of_z}
use mir.Syntax.{w64}
use mir.Val.{SFits, to_z, of_z}
use lib.IntN.{ℤ, pos}
use lib.ListN.{take, replicate}
use borrow.Author.Tests.{lt-ltb, le-ltb}
use Rattle.vector_lines.specs.declared.numbers.Read.{Read}
use Rattle.vector_lines.specs.Numbers.{nowhere, number_at, u32_at, u64_at, signed_at, expected_at}
use Rattle.vector_rooms.specs.declared.Room.{Room}
use Rattle.vector_rooms.specs.declared.Asked.{Asked}
use Rattle.vector_rooms.specs.declared.Lists.{Lists}
use Rattle.vector_rooms.specs.Rooms.{Placed, placed, given, room_at, with_dst, dst_at, layers_at, shape_at, inputs_by, inputs_in, single_in}
use Rattle.pictures.specs.declared.Shape.{Shape}
use Rattle.pictures.specs.Shapes.{shape_of}
use Rattle.layers.specs.Inputs.{Inputs, inputs_of}
use Rattle.compose.specs.Single.{Composed, composed, compose_of}
use Rattle.narrowing.specs.Narrow.{Narrowed, narrowed, narrow_of, narrow_bytes_of}
use Rattle.cards.specs.Answers.{Answer}
use Rattle.cards.specs.Answers.{Outcome, outcome, read_of}
use Rattle.vector_cases.specs.Cases.{text_by, words_written, bytes_written, table_written, narrowed_at, narrowed_bytes_at}
use Rattle.vector_cases.specs.Cases.{narrowing_by, narrowing_from, narrowing_after, narrowing_at, lent_of}
use Rattle.vector_cases.specs.Cases.{composed_at, composed_by, answered_at, composition_by, composition_at}
use Rattle.vector_cases.specs.Cases.{table_fill, answers_at, read_at, lent_to, lent_by, lent_at}

-- the inputs of a call, with the shape's numbers as they are read back from their bits
abbrev shape_bits : Inputs → Inputs
shape_bits i =
    inputs_of
    (shape_of (to_z w64 (of_z w64 i.shape.width)) (to_z w64 (of_z w64 i.shape.height)) (to_z w64 (of_z w64 i.shape.channels)))
    i.dst i.count i.table i.args i.samples

-- ---- texts

pub text_read : {n : ℕ} (answered : ℕ → List ℕ → ℕ) {due : Placed (Room ℕ n)} {text : Room ℕ n} {bytes : List ℕ} {next r : ℕ} → placed next text ≡ due
    → bytes ≡ given text → r ≡ answered next bytes → r ≡ text_by answered due
unfolding text_by
text_read answered read t e = rw (e, t) (ap (λ (p : Placed (Room ℕ _)). text_by answered p) read)

module _ (line : List ℕ) where
  -- ---- narrowings: what is wanted, the input and the length of the output are read

  module _ (to_bytes : Bool) (input : Room ℕ 256) {w : Read ℤ} {n : Read ℕ} {kept : Room ℕ 256} {next : ℕ} (e : w ≡ signed_at line 1)
      (read : placed next kept ≡ room_at (u32_at line) line w.next input) (long : n ≡ u64_at line next) where
    narrowing_read : placed (narrowing_by to_bytes line w.value (given kept) n) kept ≡ narrowing_at to_bytes line input
    unfolding narrowing_from narrowing_after
    narrowing_read =
        rw long (ap (λ (p : Placed (Room ℕ 256)). narrowing_from to_bytes line w.value p) read)
        ∙ ap (λ (x : Read ℤ). narrowing_after to_bytes line x input) e

    pub too_long : 256 < n.value → placed nowhere kept ≡ narrowing_at to_bytes line input
    unfolding narrowing_by
    too_long h = rw (lt-ltb 256 n.value h) at narrowing_read

    module _ {text o : List ℕ} {number p r : ℕ} (short : n.value ≤ 256) (fits : SFits w64 w.value) (t : text ≡ given kept)
        (ex : p ≡ expected_at line n.next number) where
      pub in_bytes : to_bytes ≡ true → narrowed number o ≡ narrow_bytes_of (to_z w64 (of_z w64 w.value)) text (take n.value (replicate 256 165))
          → r ≡ bytes_written line p o → placed r kept ≡ narrowing_at to_bytes line input
      unfolding narrowing_by narrowed_bytes_at
      in_bytes b is x =
          let told : narrowed number o ≡ narrow_bytes_of w.value (given kept) (lent_of 165 n.value) = rw (to_z-of_z fits, t) at is in
          let same : r ≡ narrowed_bytes_at line n.next (narrow_bytes_of w.value (given kept) (lent_of 165 n.value)) =
          rw (x, ex) (ap (λ (a : Narrowed). narrowed_bytes_at line n.next a) told) in
          let chosen : narrowed_bytes_at line n.next (narrow_bytes_of w.value (given kept) (lent_of 165 n.value))
          ≡ narrowing_by to_bytes line w.value (given kept) n =
          rw (le-ltb 256 n.value short, b) in
          ap (λ (k : ℕ). placed k kept) (same ∙ chosen) ∙ narrowing_read

      pub in_words : to_bytes ≡ false → narrowed number o ≡ narrow_of (to_z w64 (of_z w64 w.value)) text (take n.value (replicate 256 2779096485))
          → r ≡ words_written line p o → placed r kept ≡ narrowing_at to_bytes line input
      unfolding narrowing_by narrowed_at
      in_words b is x =
          let told : narrowed number o ≡ narrow_of w.value (given kept) (lent_of 2779096485 n.value) = rw (to_z-of_z fits, t) at is in
          let same : r ≡ narrowed_at line n.next (narrow_of w.value (given kept) (lent_of 2779096485 n.value)) =
          rw (x, ex) (ap (λ (a : Narrowed). narrowed_at line n.next a) told) in
          let chosen : narrowed_at line n.next (narrow_of w.value (given kept) (lent_of 2779096485 n.value))
          ≡ narrowing_by to_bytes line w.value (given kept) n =
          rw (le-ltb 256 n.value short, b) in
          ap (λ (k : ℕ). placed k kept) (same ∙ chosen) ∙ narrowing_read

  -- ---- compositions

  module _ (i : Inputs) {n : Read ℕ} (at : ℕ) (long : n ≡ u64_at line at) where
    pub output_too_long : 256 < n.value → nowhere ≡ composed_by line i (u64_at line at)
    unfolding composed_by
    output_too_long h = rw (← long, lt-ltb 256 n.value h)

    pub output_lent : {number p r : ℕ} {o : List ℕ} → n.value ≤ 256 → SFits w64 i.shape.width → SFits w64 i.shape.height → SFits w64 i.shape.channels
        → composed number o ≡ compose_of (shape_bits i) (take n.value (replicate 256 2779096485)) → p ≡ expected_at line n.next number
        → r ≡ words_written line p o
        → r ≡ composed_by line i (u64_at line at)
    unfolding composed_by composed_at
    output_lent {number} {p} {r} {o} h fw fh fc is ex w =
        let told : composed number o ≡ compose_of i (lent_of 2779096485 n.value) = rw (to_z-of_z fw, to_z-of_z fh, to_z-of_z fc) at is in
        let same : r ≡ composed_at line n.next (compose_of i (lent_of 2779096485 n.value)) =
        rw (w, ex) (ap (λ (a : Composed). composed_at line n.next a) told) in
        rw (← long, le-ltb 256 n.value h) same

  pub composition_read : (l : Lists) (a : Asked) {shape : Read Shape} {d : Room ℕ 256} {kept : Lists} {p q place : ℕ} → shape ≡ shape_at line
      → placed p d ≡ room_at (u32_at line) line shape.next l.dst
      → placed q kept ≡ layers_at line (with_dst l (placed p d)) → inputs_in a ≡ inputs_by shape.value (pos 1) kept
      → place ≡ composed_by line (single_in a) (u64_at line q) → placed place kept ≡ composition_at line l
  unfolding composition_by answered_at dst_at
  composition_read l a {shape} {kept = kept} e1 e2 e3 e4 e5 =
      let one : single_in a ≡ inputs_by shape.value (pos 1) kept = ap (λ (i : Inputs). inputs_of i.shape i.dst (pos 1) i.table i.args i.samples) e4 in
      rw (e5, one) (ap (λ (s : Placed Lists). answered_at line shape.value s) e3)
      ∙ ap (λ (r : Placed (Room ℕ 256)). answered_at line shape.value (layers_at line (with_dst l r))) e2
      ∙ ap (λ (s : Read Shape). composition_by line s l) e1

  -- ---- cards

  -- the answers, and both lists
  pub card_so : (at : ℕ) (a : Answer) (text args : List ℕ) (table : List ℤ) {t : List ℤ} {u : List ℕ} {p q r : ℕ} → outcome a t u ≡ read_of text table args
      → p ≡ answers_at line at a → q ≡ table_written line p t → r ≡ words_written line q u → r ≡ read_at line at (read_of text table args)
  unfolding read_at
  card_so at a text args table is e1 e2 e3 = rw (e3, e2, e1) (ap (λ (o : Outcome). read_at line at o) is)

  pub lists_lent : (at : ℕ) (text : List ℕ) {n m : Read ℕ} {r : ℕ} → n ≡ number_at 320 line at → m ≡ number_at 128 line n.next
      → r ≡ read_at line m.next (read_of text (take n.value (replicate 320 table_fill)) (take m.value (replicate 128 2779096485)))
      → r ≡ lent_at line at text
  unfolding lent_by lent_to
  lists_lent at text {n} {m} e1 e2 e = rw (e, ← e1, ← e2)
