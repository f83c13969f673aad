-- One sample more, and at the end all of them.
use Rattle.std.proofs.Common.{◌≡◌, length, map, get_or, sym, ap, ◌∙◌, arith}
use Rattle.std.proofs.lemmas.List.{take_all, take_more, take_more_set}
use Rattle.std.proofs.Math.ListN.{get_or-map}
use Rattle.narrowing.specs.Narrow.{narrowed_of}
use Rattle.narrowing.proofs.Narrowed.{length_made}
use Rattle.narrowing.proofs.fill.Goals as goal

pub loop-i-preserved : goal.loop-i-preserved
loop-i-preserved g c =
    let of = g.S.Sample.made_of in
    let words = narrowed_of c.args.channels c.args.input.now in
    let many : length (map of words) ≡ length c.args.output.now = length_made of _ _ c.requires.0 ∙ c.requires.1 in
    let made : c.of_word.result ≡ get_or (map of words) c.loop-i.i (of 0) =
    c.of_word.ensures ∙ ap of c.narrowed_at.ensures ∙ sym (get_or-map of words c.loop-i.i 0) in
    take_more_set c.loop-i.output c.loop-i.i c.of_word.result (omega arith)
    ∙ rw (c.loop-i.invariant, made) (sym (take_more (map of words) c.loop-i.i (of 0) (omega arith)))

pub returns : goal.returns
returns g c =
    let made = map g.S.Sample.made_of (narrowed_of c.args.channels c.args.input.now) in
    let many : length made ≡ length c.args.output.now = length_made _ _ _ c.requires.0 ∙ c.requires.1 in
    sym (take_all c.loop-i.i c.loop-i.output (omega arith)) ∙ c.loop-i.invariant ∙ take_all c.loop-i.i made (omega arith)
