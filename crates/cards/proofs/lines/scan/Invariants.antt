-- What the rest of the form, read from what is left of the text, leaves of the row and the arguments is what the whole form leaves; and the row has room for
-- the holes that are left.
use Rattle.std.proofs.Common.{length, ◌+◌, ◌≡◌, ◌≤◌, drop}
use Rattle.cards.specs.Forms.{read_form}
use Rattle.cards.specs.Steps.{holes, filled_in}
use Rattle.cards.proofs.lines.scan.Given as goal

abbrev pub invariant-loop-c : goal.invariant-loop-c
invariant-loop-c l = record {
  room : l.k + holes (drop l.c-index l.form) ≤ length l.row;
  as_whole : filled_in l.initial.row 0 l.initial.args (read_form l.form l.fn.s)
      ≡ filled_in l.row l.k l.args (read_form (drop l.c-index l.form) l.rest);
}
