-- The number at the place that the search answers is the entry's. Assumes nothing.
use Rattle.std.proofs.Common.{◌≡◌, ap, ◌∙◌, rules}
use Rattle.names.proofs.Known.{at_place, known}
use Rattle.names.proofs.from_name.Goals as goal

pub returns : goal.returns
returns c =
    let e : c.map.result ≡ at_place c.find.result = search rules in
    e ∙ ap at_place c.find.ensures ∙ known c.args.s.now
