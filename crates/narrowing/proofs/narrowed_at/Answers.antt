-- A gray is made of a pixel; another word is kept.
use Rattle.std.proofs.Common.{◌≡◌, ◌*◌, ◌/◌, ◌<◌, length, refl, arith}
use mathlib.Core.Logic.{inl, inr, ⊎_elim}
use native.Mathlib.Nat.{div-add-mod}
use Rattle.narrowing.proofs.Narrowed.{gray_word, kept_word}
use Rattle.narrowing.proofs.narrowed_at.Goals as goal

pub returns-in-1 : goal.returns-in-1
returns-in-1 c =
    let inside : c.args.i < length c.args.input.now / 4 * 1 = rw c.in-1.is at c.requires.1 in
    rw (c.word.ensures, c.luma.ensures, c.values.ensures, c.rgba_at.ensures)
    (gray_word _ c.args.input.now c.args.i c.in-1.is (omega arith))

pub returns-in-3 : goal.returns-in-3
returns-in-3 c = rw c.in-3.is (kept_word 3 _ _ (inl refl) (rw c.in-3.is at c.requires.1))

pub returns-in_default : goal.returns-in_default
returns-in_default c =
    let four : c.args.channels ≡ 4 = ⊎_elim (λ w. absurd (omega arith)) (λ w. ⊎_elim (λ v. absurd (omega arith)) (λ v. v) w) c.requires.0 in
    rw four (rw (div-add-mod c.args.i 4) at (kept_word 4 c.args.input.now c.args.i (inr refl) (rw four at c.requires.1)))
