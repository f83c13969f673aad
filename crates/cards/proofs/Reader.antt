-- What the reader's outcome says of the text and the lists (document 02, A.2). `prints_accepted`: the print of a card that can be printed is read back, whatever the lists held.
-- `accepted_printed`: where the number is 0, the lists had the right lengths and the text is the print of such a card, which is what was answered and filled.
-- `refused_keeps`: where it is not, it is 12, every number of both lists is as it was and the other answers are 0, but for the line: 0 where a list has another
-- length, and only where both lengths are right the first that no cells print or that is one too many. Assumes nothing.
use mathlib.Core.Path.{◌≡◌, refl, sym, ap, ◌∙◌}
use mathlib.Core.Bool.{Bool, true, false, not, ◌||◌}
use mathlib.Core.List.{List}
use mathlib.Core.Logic.{◌⊎◌, inl, inr}
use Prim.Native.Nat.{ℕ}
use native.Mathlib.Omega.{arith}
use lib.Dec.{eqb}
use lib.IntN.{ℤ}
use lib.ListN.{length}
use borrow.Author.Tests.{eq-eqb, eqb-true, eqb-false, not-false}
use Rattle.faults.specs.Faults.{NONE, CARD}
use Rattle.numerals.proofs.Bools.{split}
use Rattle.cards.specs.Card.{Card, printed, Read, bad_line, read, read_card, Printable}
use Rattle.cards.specs.Answers.{table_length, args_length, table_of, words_of, Outcome, outcome, accepted, outcome_of, read_of, RightLengths, OtherLength, Accepted, Refused}
use Rattle.cards.proofs.Card.{card_there, card_back, card_refused}
use Rattle.cards.proofs.Outcome.{lengths_right}

other_length : (table : List ℤ) (args : List ℕ) → (not (eqb (length table) table_length) || not (eqb (length args) args_length)) ≡ true → OtherLength table args
other_length table args e =
    split (eqb (length table) table_length)
    (λ t. inr (λ q. let z : ◌≡◌ {A = Bool} false true = rw (t, eq-eqb (length args) args_length q) at e in let y : ◌≡◌ {A = ℕ} 0 1 = cc in omega arith))
    (λ t. inl (eqb-false (length table) table_length t))

right_lengths : (table : List ℤ) (args : List ℕ) → (not (eqb (length table) table_length) || not (eqb (length args) args_length)) ≡ false → RightLengths table args
right_lengths table args e =
    split (eqb (length table) table_length)
    (λ t. (eqb-true _ _ t, eqb-true _ _ (not-false (eqb (length args) args_length) (rw t at e))))
    (λ t. let z : ◌≡◌ {A = Bool} true false = rw t at e in absurd (cc))

pub prints_accepted : (c : Card) → Printable c → (table : List ℤ) (args : List ℕ) → length table ≡ table_length → length args ≡ args_length
    → read_of (printed c) table args ≡ outcome (accepted c) (table_of c.layers) (words_of c.layers)
prints_accepted c g table args h k =
    sym (lengths_right (printed c) table args h k) ∙ ap (λ (r : Read). outcome_of r table args) (card_there c g)

-- what is said of an outcome, by what was read: the number is 0 for a card alone
module _ (text : List ℕ) (table : List ℤ) (args : List ℕ) where
  read_says : RightLengths table args → (r : Read) → read_card text ≡ r
      → Accepted text table args (outcome_of r table args) ⊎ Refused text table args (outcome_of r table args)
  read_says l (read c) e = let b = card_back text c e in inl (record { lengths = l; card = c; printable = b.1; print = b.0; filled = refl })
  read_says l (bad_line n) e = inr (record { line = n; answered = refl; why = inr (l, card_refused text n e) })

  -- every text is accepted or refused
  pub outcome_says : Accepted text table args (read_of text table args) ⊎ Refused text table args (read_of text table args)
  unfolding read_of
  outcome_says =
      split (not (eqb (length table) table_length) || not (eqb (length args) args_length))
      (λ e. rw e (inr (record { line = 0; answered = refl; why = inl (refl, other_length table args e) })))
      (λ e. rw e (read_says (right_lengths table args e) (read_card text) refl))

  pub accepted_printed : (read_of text table args).answer.number ≡ NONE → Accepted text table args (read_of text table args)
  accepted_printed e = by outcome_says
    where
      by : Accepted text table args (read_of text table args) ⊎ Refused text table args (read_of text table args) → Accepted text table args (read_of text table args)
      by (inl a) = a
      by (inr r) = let z : ◌≡◌ {A = ℕ} CARD NONE = sym (ap (λ (o : Outcome). o.answer.number) r.answered) ∙ e in absurd (omega arith)

  pub refused_keeps : ((read_of text table args).answer.number ≡ NONE → ⊥) → Refused text table args (read_of text table args)
  refused_keeps e = by outcome_says
    where
      by : Accepted text table args (read_of text table args) ⊎ Refused text table args (read_of text table args) → Refused text table args (read_of text table args)
      by (inl a) = absurd (e (ap (λ (o : Outcome). o.answer.number) a.filled))
      by (inr r) = r
