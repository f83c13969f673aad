-- Laws on a list that is filled with a line's numbers one by one, for any kind of number. Assumes nothing.
use mathlib.Core.Path.{◌≡◌, refl, sym, ap, ◌∙◌}
use mathlib.Core.Bool.{Bool, true, false, cond}
use mathlib.Core.List.{List, ◌++◌}
use Prim.Native.Nat.{ℕ, zero, suc, ◌+◌, ◌<◌, ◌≤◌}
use native.Mathlib.Numerals.{add-one}
use native.Mathlib.Omega.{arith}
use lib.ListN.{length, set, take, drop, length-set}
use Rattle.std.proofs.lemmas.List.{set-append_left, take-append-drop, length-take-le}
use Rattle.std.specs.Prelude.{Option, Some, None}
use Rattle.vector_lines.specs.declared.numbers.Read.{Read}
use Rattle.vector_lines.specs.Numbers.{past_of, token_at, kept_at, kept_past_at, number_at}
use Rattle.vector_lines.specs.Lists.{place_of, filled, listed, list_by}

kept_length : {A : Type 0} (read : ℕ → Read A) (from : ℕ) (list : List A) (i : ℕ) → length (filled read from list i) ≡ length list
unfolding filled
kept_length read from list zero = refl
kept_length read from list (suc i) = length-set (filled read from list i) i (read (place_of read from i)).value ∙ kept_length read from list i

-- what is filled is the list's front
front_filled : {A : Type 0} (read : ℕ → Read A) (from : ℕ) (xs ys : List A) (i : ℕ) → i ≤ length xs
    → filled read from (xs ++ ys) i ≡ filled read from xs i ++ ys
unfolding filled
front_filled read from xs ys zero h = refl
front_filled read from xs ys (suc i) h =
    let long : i < length (filled read from xs i) = omega (arith, kept_length read from xs i) in
    rw (front_filled read from xs ys i (omega arith))
    (set-append_left (filled read from xs i) ys i (read (place_of read from i)).value long)

-- the first i of the numbers at a place are read and stand in the list, and `at` is the place after them
pub record Filled {A : Type 0} (read : ℕ → Read A) (from : ℕ) (list : List A) (i : ℕ) (now : List A) (at : ℕ) : Type 0 where
  pub place : at ≡ place_of read from i
  pub stored : now ≡ filled read from list i

module _ {A : Type 0} (read : ℕ → Read A) (from : ℕ) (list : List A) where
  pub none_read : Filled read from list 0 list from
  unfolding place_of filled
  none_read = record { place = refl; stored = refl }

  module _ (i at : ℕ) {now : List A} (f : Filled read from list i now at) where
    -- one more number, which is read at the place after the others
    pub one_read : (n : Read A) → n ≡ read at → Filled read from list (i + 1) (set now i n.value) n.next
    unfolding place_of filled
    one_read n e = record {
      place = rw (add-one, e, f.place);
      stored = rw (add-one, e, f.stored, f.place);
    }

-- all the numbers are read into the front of a list
pub front_read : {A : Type 0} (read : ℕ → Read A) (from n i at : ℕ) (list : List A) {now : List A} → n ≤ length list → i ≤ n → n ≤ i
    → Filled read from (take n list) i now at → (now ++ drop n list ≡ filled read from list n) × (at ≡ place_of read from n)
front_read read from n i at list fits last all f =
    let e : i ≡ n = omega arith in
    let long : i ≤ length (take n list) = omega (arith, length-take-le n list fits, e) in (
      ap (λ (l : List _). l ++ drop n list) f.stored ∙ sym (front_filled read from (take n list) (drop n list) i long)
          ∙ rw (take-append-drop n list, e) refl,
      f.place ∙ ap (λ (k : ℕ). place_of read from k) e,
    )

module _ {A : Type 0} (read : ℕ → Read A) (line : List ℕ) (at : ℕ) (list : List A) (count : ℕ) where
  -- the list is kept as it is
  pub kept_list : {next : ℕ} → Some next ≡ kept_past_at line at → listed list count next ≡ list_by read line at list count
  unfolding list_by place_of filled
  kept_list {next} e = go (kept_at line at) refl e
    where
      go : (t : Bool) → kept_at line at ≡ t → Some next ≡ cond t (Some (past_of (token_at line at))) None
          → listed list count next ≡ list_by read line at list count
      go true k s = rw k (ap (λ (n : ℕ). listed list count n) cc)
      go false k s = cc

  -- so many numbers follow as its head says
  pub given_list : {n : Read ℕ} {now : List A} {next : ℕ} → None ≡ kept_past_at line at → n ≡ number_at (length list) line at
      → now ≡ filled read n.next list n.value → next ≡ place_of read n.next n.value
      → listed now n.value next ≡ list_by read line at list count
  unfolding list_by
  given_list {n} {now} {next} e is f p = go (kept_at line at) refl e
    where
      go : (t : Bool) → kept_at line at ≡ t → ◌≡◌ {A = Option ℕ} None (cond t (Some (past_of (token_at line at))) None)
          → listed now n.value next ≡ list_by read line at list count
      go true k s = cc
      go false k s = rw (k, f, p, is)
