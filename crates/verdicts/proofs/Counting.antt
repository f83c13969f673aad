-- Laws on the lines that are answered and counted, one after the other. Assumes nothing.
use Rattle.std.proofs.Common.{◌≡◌, refl, ap, ◌∙◌, sym, Bool, true, false, cond, List, [], ◌∷◌, ℕ, ◌+◌, ◌<◌, ◌≤◌, arith, length, map, get_or, set, replicate, ltb, ltb-true, ltb-false, get_or-set_other, get_or-set_same, Option, Some, None}
use Rattle.std.proofs.Math.ListN.{length-set, get_or-map}
use Rattle.std.proofs.Math.Seq.{map-set_same}
use Rattle.std.specs.Option.{option_or}
use Rattle.std.proofs.lemmas.List.{map-set, set_past, get_or_past, length-replicate}
use Rattle.verdicts.specs.declared.tally.Tally.{Tally}
use Rattle.verdicts.specs.Tally.{raised_of, tallied, nothing, one_more, kind_counted}
use Rattle.verdicts.proofs.Splitting.{lines_few}
use Rattle.verdicts.specs.Lines.{asks, first_of, right_at, asked_of, kind_of, with_line, first_wrong, lines_of, Counted, counted, counts, line_counted, lines_counted, Answered, answer, places_from}

-- the two numbers of a kind, counted side by side, are those of the lists of the right and of the wrong
pub right_counted : (kind : ℕ) (tallies : List Tally) (first : Option ℕ)
    → counts (kind_counted true kind tallies) first ≡ counted (tallied true kind (map (λ (t : Tally). t.right) tallies)) (tallied false kind (map (λ (t : Tally). t.wrong) tallies)) first
right_counted kind tallies first =
    let t = get_or tallies kind nothing in
    let r : map (λ (t : Tally). t.right) (kind_counted true kind tallies) ≡ tallied true kind (map (λ (t : Tally). t.right) tallies) =
    map-set (λ (t : Tally). t.right) tallies kind (one_more true t) ∙ ap (λ (n : ℕ). set (map (λ (t : Tally). t.right) tallies) kind (raised_of n)) (sym (get_or-map (λ (t : Tally). t.right) tallies kind nothing)) in
    let w : map (λ (t : Tally). t.wrong) (kind_counted true kind tallies) ≡ map (λ (t : Tally). t.wrong) tallies =
    map-set_same (λ (t : Tally). t.wrong) tallies kind (one_more true t) nothing refl in
    rw (r, w)

pub wrong_counted : (kind : ℕ) (tallies : List Tally) (first : Option ℕ)
    → counts (kind_counted false kind tallies) first ≡ counted (tallied false kind (map (λ (t : Tally). t.right) tallies)) (tallied true kind (map (λ (t : Tally). t.wrong) tallies)) first
wrong_counted kind tallies first =
    let t = get_or tallies kind nothing in
    let w : map (λ (t : Tally). t.wrong) (kind_counted false kind tallies) ≡ tallied true kind (map (λ (t : Tally). t.wrong) tallies) =
    map-set (λ (t : Tally). t.wrong) tallies kind (one_more false t) ∙ ap (λ (n : ℕ). set (map (λ (t : Tally). t.wrong) tallies) kind (raised_of n)) (sym (get_or-map (λ (t : Tally). t.wrong) tallies kind nothing)) in
    let r : map (λ (t : Tally). t.right) (kind_counted false kind tallies) ≡ map (λ (t : Tally). t.right) tallies =
    map-set_same (λ (t : Tally). t.right) tallies kind (one_more false t) nothing refl in
    rw (r, w)

-- a line that asks something, by how it is answered
pub line_right : (kinds line : List ℕ) (place number : ℕ) (old : List Tally) {new : List Tally} (first : Option ℕ) {r : Bool} {k b : ℕ} → asks line ≡ true → right_at line place ≡ true
    → r ≡ true → b ≡ first_of line → k ≡ kind_of kinds b → new ≡ kind_counted r k old → counts new first ≡ line_counted kinds number line place (counts old first)
unfolding with_line
line_right kinds line place number old first a p e f g h = rw (a, p, h, g, f, e) (right_counted (kind_of kinds (first_of line)) old first ∙ same first)
  where
    same : (o : Option ℕ) → counted (tallied true (kind_of kinds (first_of line)) (map (λ (t : Tally). t.right) old)) (tallied false (kind_of kinds (first_of line)) (map (λ (t : Tally). t.wrong) old)) o
        ≡ counted (tallied true (kind_of kinds (first_of line)) (map (λ (t : Tally). t.right) old)) (tallied false (kind_of kinds (first_of line)) (map (λ (t : Tally). t.wrong) old)) (first_wrong false number o)
    same None = refl
    same (Some n) = refl

pub line_wrong : (kinds line : List ℕ) (place number : ℕ) (old : List Tally) {new : List Tally} (first : Option ℕ) {r : Bool} {k b : ℕ} {o : Option ℕ} → asks line ≡ true → right_at line place ≡ false
    → r ≡ false → b ≡ first_of line → k ≡ kind_of kinds b → new ≡ kind_counted r k old → o ≡ option_or first (Some number) → counts new o ≡ line_counted kinds number line place (counts old first)
unfolding with_line
line_wrong kinds line place number old first a p e f g h i = rw (a, p, h, g, f, e, i) (right first)
  where
    right : (o : Option ℕ) → counts (kind_counted false (kind_of kinds (first_of line)) old) (option_or o (Some number))
        ≡ counted (tallied false (kind_of kinds (first_of line)) (map (λ (t : Tally). t.right) old)) (tallied true (kind_of kinds (first_of line)) (map (λ (t : Tally). t.wrong) old)) (first_wrong true number o)
    right None = wrong_counted (kind_of kinds (first_of line)) old (Some number)
    right (Some n) = wrong_counted (kind_of kinds (first_of line)) old (Some n)

-- ---- the lines one after the other
module _ {K : Type 0} (answered : List ℕ → K → Answered K) where
  -- the place of a line that is behind stays as it is
  behind : (i j : ℕ) (lines : List (List ℕ)) (k : K) (places : List ℕ) → j < i → get_or (places_from answered i lines k places) j 0 ≡ get_or places j 0
  unfolding places_from
  behind i j [] k places h = refl
  behind i j (line ∷ lines) k places h =
      let a = answered (asked_of line) k in
      let ne : j ≡ i → ⊥ = omega arith in
      behind (i + 1) j lines a.kept (set places i a.place) (omega arith) ∙ get_or-set_other places i j a.place 0 ne

  -- past the list's end no place is kept
  past_end : (i : ℕ) (lines : List (List ℕ)) (k : K) (places : List ℕ) → length places ≤ i → places_from answered i lines k places ≡ places
  unfolding places_from
  past_end i [] k places h = refl
  past_end i (line ∷ lines) k places h =
      let a = answered (asked_of line) k in
      let s : set places i a.place ≡ places = set_past places i a.place h in
      rw s (past_end (i + 1) lines a.kept places (omega arith))

  abbrev all_places : ℕ → List (List ℕ) → K → List ℕ
  all_places most lines k = places_from answered 0 lines k (replicate most 0)

  -- the lines that are left, `rest`, come to what all of them do, where k is what those behind have kept
  pub record Judging (kinds : List ℕ) (most : ℕ) (text : List ℕ) (k₀ : K) (start : Counted) (k : K) (now : Counted) (i : ℕ) (rest : List (List ℕ)) : Type 0 where
    pub places : List ℕ
    pub room : length places ≡ most
    pub due : all_places most (lines_of text) k₀ ≡ places_from answered i rest k places
    pub count : lines_counted kinds (all_places most (lines_of text) k₀) 0 (lines_of text) start ≡ lines_counted kinds (all_places most (lines_of text) k₀) i rest now
    pub number : i + length rest ≡ length (lines_of text)

  pub none_judged : (kinds : List ℕ) (most : ℕ) (text : List ℕ) (k₀ : K) (start : Counted) → Judging kinds most text k₀ start k₀ start 0 (lines_of text)
  none_judged kinds most text k₀ start = record { places = replicate most 0; room = length-replicate most 0; due = refl; count = refl; number = omega arith }

  module _ {kinds : List ℕ} {most : ℕ} {text : List ℕ} {k₀ : K} {start : Counted} {k : K} {now : Counted} {i : ℕ} {rest : List (List ℕ)} (s : Judging kinds most text k₀ start k now i rest) where
    abbrev P : List ℕ
    P = all_places most (lines_of text) k₀

    -- the place of the next line
    module _ {line : List ℕ} {lines : List (List ℕ)} (e : rest ≡ line ∷ lines) where
      abbrev a : Answered K
      a = answered (asked_of line) k

      on : P ≡ places_from answered (i + 1) lines a.kept (set s.places i a.place)
      unfolding places_from
      on = rw e at s.due

      kept_place : i < most → get_or P i 0 ≡ a.place
      kept_place h =
          let room : i < length s.places = omega (arith, s.room) in
          ap (λ (x : List ℕ). get_or x i 0) on ∙ behind (i + 1) i lines a.kept (set s.places i a.place) (omega arith) ∙ get_or-set_same s.places i a.place 0 room

      all_kept : most ≤ i → P ≡ s.places
      all_kept h = s.due ∙ past_end i rest k s.places (omega (arith, s.room))

      no_place : most ≤ i → get_or P i 0 ≡ 0
      no_place h = rw (all_kept h) (get_or_past s.places i 0 (omega (arith, s.room)))

      -- what is counted after a line whose place is known
      counted_on : {p : ℕ} {next : Counted} → get_or P i 0 ≡ p → next ≡ line_counted kinds (i + 1) line p now → lines_counted kinds P 0 (lines_of text) start ≡ lines_counted kinds P (i + 1) lines next
      unfolding lines_counted
      counted_on g f = rw (f, ← g) (rw e at s.count)

      one_more_number : i + 1 + length lines ≡ length (lines_of text)
      one_more_number = omega (arith, rw e at s.number)

      by_test : {p : ℕ} {k' : K} {next : Counted} (b : Bool) → b ≡ ltb i most → answer p k' ≡ cond b a (answer 0 k) → next ≡ line_counted kinds (i + 1) line p now
          → Judging kinds most text k₀ start k' next (i + 1) lines
      by_test true t g f =
          let h : i < most = ltb-true i most (sym t) in record {
            places = set s.places i a.place;
            room = length-set s.places i a.place ∙ s.room;
            due = on ∙ ap (λ (x : Answered K). places_from answered (i + 1) lines x.kept (set s.places i a.place)) (sym g);
            count = counted_on (kept_place h ∙ ap (λ (x : Answered K). x.place) (sym g)) f;
            number = one_more_number;
          }
      by_test false t g f =
          let h : most ≤ i = ltb-false i most (sym t) in record {
            places = s.places;
            room = s.room;
            due = all_kept h ∙ sym (past_end (i + 1) lines _ s.places (omega (arith, s.room)));
            count = counted_on (no_place h ∙ ap (λ (x : Answered K). x.place) (sym g)) f;
            number = one_more_number;
          }

      pub one_judged : {p : ℕ} {k' : K} {next : Counted} → answer p k' ≡ cond (ltb i most) a (answer 0 k) → next ≡ line_counted kinds (i + 1) line p now
          → Judging kinds most text k₀ start k' next (i + 1) lines
      one_judged g f = by_test (ltb i most) refl g f

      pub number_fits : i < length text
      number_fits = omega (arith, lines_few text, rw e at s.number)

    pub all_judged : rest ≡ [] → now ≡ lines_counted kinds P 0 (lines_of text) start
    unfolding lines_counted
    all_judged e = sym (rw e at s.count)
